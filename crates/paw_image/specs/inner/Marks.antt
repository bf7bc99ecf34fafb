-- Verbs, as a table of marks.
use Rattle.std.specs.Prelude.{◌≡◌, ℕ, ◌<◌, ◌==◌, Bool, false, List, length}
use Rattle.std.specs.List.{list_any, slice_index_or}

-- The table marks these verbs and no others.
pub record Marks (table : List Bool) (verbs : List ℕ) : Type 0 where
  pub long : length table ≡ 256
  pub each : (v : ℕ) → v < 256 → slice_index_or table v false ≡ list_any (λ earlier. earlier == v) verbs
