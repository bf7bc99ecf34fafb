-- A table of values, as the words are read one by one.
use Rattle.std.proofs.Common.{ℕ, false, List, take, replicate}
use Rattle.std.proofs.lemmas.List.{length-replicate, get_or-replicate}
use Rattle.paw_game.specs.declared.parts.Word.{Word}
use Rattle.paw_game.specs.inner.Values.{AreValuesOf}

pub AreValuesOf-none : (ws : List Word) (class : ℕ) → AreValuesOf (replicate 256 false) (take 0 ws) class
AreValuesOf-none ws class = record {
  long = length-replicate 256 false;
  each = λ value h. get_or-replicate 256 value false false h;
}
