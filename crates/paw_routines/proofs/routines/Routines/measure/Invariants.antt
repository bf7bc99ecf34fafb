use Rattle.std.proofs.Common.{◌∷◌, length, take}
use Rattle.std.specs.List.{concat}
use Rattle.sha2.specs.Hashers.{Holds256}
use Rattle.paw_base.specs.Bytes.{RoutineAnswers}
use Rattle.paw_routines.specs.Routines.{AreAnswersOf}
use Rattle.paw_routines.proofs.routines.Routines.measure.Given as goal

-- The hasher has the number of routines and the answers so far.
abbrev pub invariant-loop-n : goal.invariant-loop-n
invariant-loop-n g l = (X : RoutineAnswers) → AreAnswersOf g.F.Fn l.self X → Holds256 l.hasher (length X ∷ concat (take l.n X))
