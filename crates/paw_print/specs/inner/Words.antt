-- The first words of a class, by value.
use Rattle.std.specs.Prelude.{◌≡◌, ℕ, ◌<◌, List, length, Option, None}
use Rattle.std.specs.List.{slice_index_or}
use Rattle.paw_game.specs.declared.parts.Word.{Word}
use Rattle.paw_print.specs.Lines.{first_word}

-- The table gives for each value the first word of the class that has it.
pub record HasFirst (table : List (Option Word)) (ws : List Word) (class : ℕ) : Type 0 where
  pub long : length table ≡ 256
  pub each : (value : ℕ) → value < 256 → slice_index_or table value None ≡ first_word ws class value
