-- What the rules of rows depend on.
use Rattle.std.specs.Prelude.{List}
use Rattle.paw_base.specs.declared.parts.Counts.{Counts}
use Rattle.paw_game.specs.declared.parts.Word.{Word}

-- What the rules of rows name: how many rows each part has, and the words.
pub record Declared : Type 0 where
  pub counts : Counts
  pub words : List Word
