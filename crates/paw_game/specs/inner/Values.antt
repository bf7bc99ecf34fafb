-- Which values the words of a class have, as a table; and how many rows there are.
use Rattle.std.specs.Prelude.{◌≡◌, ℕ, ◌<◌, Bool, false, List, length}
use Rattle.std.specs.List.{slice_index_or}
use Rattle.paw_base.specs.declared.parts.Counts.{Counts}
use Rattle.paw_game.specs.declared.parts.Word.{Word}
use Rattle.paw_game.specs.declared.rules.Lengths.{Lengths}
use Rattle.paw_game.specs.Game.{counts_with}
use Rattle.paw_game.specs.Valid.{has_word}

-- The table says for each value whether a word of the class has it.
pub record AreValuesOf (table : List Bool) (ws : List Word) (class : ℕ) : Type 0 where
  pub long : length table ≡ 256
  pub each : (value : ℕ) → value < 256 → slice_index_or table value false ≡ has_word ws class value

-- The counts that are as large as these lengths.
abbrev pub counts_in : Lengths → Counts
counts_in l = counts_with l.words l.system l.messages l.objects l.locations l.tables
