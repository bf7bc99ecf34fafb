-- Kinds of condacts that the code looks for, and where it finds them.
use Rattle.std.specs.Prelude.{ℕ, Bool, List, [], ◌∷◌, Option, Some, None, slice_get}
use Rattle.std.specs.List.{list_any}
use Rattle.std.specs.Option.{unwrap_or, option_map_or}
use Rattle.paw_base.specs.declared.parts.Condact.{Condact}
use Rattle.paw_game.specs.declared.parts.Entry.{Entry}
use Rattle.paw_check.specs.Calls.{calls_table}
use Rattle.paw_check.specs.Verbs.{may_write_verb}
use Rattle.paw_check.specs.Verdicts.{redescribes, entry_with}
use Rattle.paw_check.specs.declared.spots.Sought.{Sought}
use Rattle.paw_check.specs.declared.spots.Sought.TheVariants as sought

-- Whether a condact is of this kind.
abbrev pub is_sought : Sought → Condact → Bool
is_sought sought.Call c = calls_table c
is_sought sought.Description c = redescribes c
is_sought sought.VerbWriter c = may_write_verb c

-- The number of the first entry with a condact of this kind.
abbrev pub entry_sought : Sought → List Entry → Option ℕ
entry_sought w entries = entry_with (is_sought w) entries

-- The first of the tables with these numbers that has one, and its first entry with one.
abbrev pub spot_sought : Sought → List (List Entry) → List ℕ → Option (ℕ × ℕ)
spot_sought w tables [] = None
spot_sought w tables (t ∷ ts) =
    option_map_or (λ e. Some (t, e)) (entry_sought w (unwrap_or (slice_get tables t) [])) (spot_sought w tables ts)

-- Whether one of these entries has a condact that passes.
abbrev pub any_in_entries : (Condact → Bool) → List Entry → Bool
any_in_entries p es = list_any (λ e. list_any p e.condacts) es

-- Whether the table with this number has a condact that passes.
abbrev pub any_in_table : (Condact → Bool) → List (List Entry) → ℕ → Bool
any_in_table p tables t = any_in_entries p (unwrap_or (slice_get tables t) [])
