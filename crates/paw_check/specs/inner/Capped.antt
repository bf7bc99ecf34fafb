-- Numbers as the code counts them, and what it keeps of them.
use Rattle.std.specs.Prelude.{◌≡◌, ℕ, ◌+◌, ◌*◌, ◌-◌, ◌^◌, ◌<◌, ◌==◌, ◌||◌, min, Bool, false, List, [], length, sum_by}
use Rattle.std.specs.Prelude.{count_by}
use Rattle.std.specs.Prelude.{filter, flat_map, slice_get, if◌then◌else◌}
use Rattle.std.specs.List.{slice_index_or, list_any, range_with_len}
use Rattle.std.specs.Option.{unwrap_or}
use Rattle.paw_base.specs.declared.codes.TheConstants.{DOALL}
use Rattle.paw_base.specs.declared.parts.Condact.{Condact}
use Rattle.paw_game.specs.declared.parts.Entry.{Entry}
use Rattle.paw_game.specs.Valid.{is_wildcard}
use Rattle.paw_check.specs.Calls.{is_call_of}
use Rattle.paw_check.specs.Costs.{counting}

-- ---- numbers ----

-- A number as 32 bits hold it: any above the greatest becomes the greatest.
abbrev pub in_32_bits : ℕ → ℕ
in_32_bits n = min n (2 ^ 32 - 1)

-- A row of 256 numbers holds these, by verb, or by table.
pub record HoldsCapped (row : List ℕ) (f : ℕ → ℕ) : Type 0 where
  pub long : length row ≡ 256
  pub each : (v : ℕ) → v < 256 → slice_index_or row v 0 ≡ in_32_bits (f v)

-- What reading the tables takes: a row of numbers for each table, with one number for each verb.
abbrev pub VerbCosts : Type 0
VerbCosts = List (List ℕ)

-- The number in these rows at a table and a verb; 0 past their end.
abbrev pub cell_at : VerbCosts → ℕ → ℕ → ℕ
cell_at rows t v = slice_index_or (unwrap_or (slice_get rows t) []) v 0

-- ---- flags ----

-- The flags of 256 tables, once these were marked as well.
pub record MarksTables (old new : List Bool) (p : ℕ → Bool) : Type 0 where
  pub long : length new ≡ length old
  pub each : (u : ℕ) → u < 256 → slice_index_or new u false ≡ (slice_index_or old u false || p u)

-- The condacts of these entries.
abbrev pub condacts_of_entries : List Entry → List Condact
condacts_of_entries es = flat_map (λ e. e.condacts) es

-- The condacts of the tables with these numbers.
abbrev pub condacts_of_tables : List (List Entry) → List ℕ → List Condact
condacts_of_tables tables ts = flat_map (λ t. condacts_of_entries (unwrap_or (slice_get tables t) [])) ts

-- The tables that those with these numbers call.
abbrev pub called_among : List (List Entry) → List ℕ → List ℕ
called_among tables ts =
    filter (λ u. list_any (is_call_of u) (condacts_of_tables tables ts)) (range_with_len 0 (length tables))

-- ---- entries ----

-- Whether a condact opens a loop.
abbrev pub is_doall : Condact → Bool
is_doall c = c.code == DOALL

-- Whether an entry counts for every verb.
abbrev pub is_for_every : Bool → Entry → Bool
is_for_every changing e = changing || is_wildcard e.verb

-- A sum over the condacts of entries that count for every verb.
abbrev pub over_every : Bool → (List Condact → ℕ) → List Entry → ℕ
over_every changing f es = sum_by (λ e. if is_for_every changing e then f e.condacts else 0) es

-- A sum over the condacts of the other entries of a verb.
abbrev pub over_verb : Bool → ℕ → (List Condact → ℕ) → List Entry → ℕ
over_verb changing v f es =
    sum_by (λ e. if is_for_every changing e then 0 else (if e.verb == v then f e.condacts else 0)) es

-- What the tables take for a verb, each called this many times.
abbrev pub dot : List ℕ → VerbCosts → ℕ → ℕ
dot counts called v =
    sum_by (λ u. slice_index_or counts u 0 * cell_at called u v) (range_with_len 0 (length called))

-- What reading these entries takes for a verb, by what condacts take and how many objects there are.
abbrev pub entries_take : ℕ → (Condact → ℕ) → Bool → ℕ → List Entry → ℕ
entries_take objects takes changing v es =
    let cs = flat_map (λ e. e.condacts) (counting changing v es) in
    (1 + objects * count_by is_doall cs) * sum_by takes cs
