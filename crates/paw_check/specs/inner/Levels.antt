-- What the code's rows hold for all tables, level by level of calls.
use Rattle.std.specs.Prelude.{◌≡◌, ℕ, ◌<◌, Bool, map, sum_by}
use Rattle.paw_base.specs.declared.limits.TheConstants.{LEVEL_LIMIT}
use Rattle.paw_base.specs.declared.parts.Condact.{Condact}
use Rattle.paw_game.specs.Game.{GameLists}
use Rattle.paw_game.specs.Tables.{table_at}
use Rattle.paw_check.specs.Calls.{turn_tables}
use Rattle.paw_check.specs.Costs.{cost, counting, passed_over, with_call, all_verbs}
use Rattle.paw_check.specs.Measures.{greatest}
use Rattle.paw_check.specs.inner.Capped.{in_32_bits, cell_at, condacts_of_entries, VerbCosts}

-- Rows hold what reading each table takes for each verb, where the tables that it calls take what these rows hold.
abbrev pub HoldsLevel : GameLists → (Condact → ℕ) → Bool → VerbCosts → VerbCosts → Type 0
HoldsLevel g own changing called rows = (t v : ℕ) → v < 256 → cell_at rows t v
    ≡ in_32_bits (passed_over g (with_call own (λ u. cell_at called u v))
    (condacts_of_entries (counting changing v (table_at g t))))

-- Rows hold what reading each table takes for each verb, with n levels of calls below it.
abbrev pub HoldsCosts : GameLists → (Condact → ℕ) → Bool → ℕ → VerbCosts → Type 0
HoldsCosts g own changing n rows =
    (t v : ℕ) → v < 256 → cell_at rows t v ≡ in_32_bits (cost g own (counting changing v) n t)

-- What reading a table takes with the verb for which it takes most.
abbrev pub most_taken : GameLists → (Condact → ℕ) → Bool → ℕ → ℕ
most_taken g own changing t = greatest (map (λ verb. cost g own (counting changing verb) LEVEL_LIMIT t) all_verbs)

-- What it takes to read each table of a turn once.
abbrev pub round_taken : GameLists → (Condact → ℕ) → Bool → ℕ
round_taken g own changing = sum_by (most_taken g own changing) turn_tables
