-- The condacts of a line: definitions for contracts and proofs, besides those of specs/Condacts.antt.
use Rattle.std.specs.Prelude.{◌≤◌, List}
use Rattle.paw_game.specs.declared.parts.Word.{Word}
use Rattle.paw_grammar.specs.declared.bounds.Bounds.{Bounds}

-- ---- parameters ----

-- What condacts may name: parts, by numbers below these bounds, and words.
pub record InScope : Type 0 where
  pub bounds : Bounds
  pub words : List Word

-- A byte holds every number below these bounds, except a table's.
pub record AreSmall (bounds : Bounds) : Type 0 where
  pub system : bounds.system ≤ 256
  pub messages : bounds.messages ≤ 256
  pub objects : bounds.objects ≤ 256
  pub locations : bounds.locations ≤ 256
