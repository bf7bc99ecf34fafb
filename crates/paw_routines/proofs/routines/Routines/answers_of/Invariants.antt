use Rattle.std.proofs.Common.{◌≡◌, length}
use Rattle.paw_base.specs.Bytes.{RoutineAnswers}
use Rattle.paw_routines.specs.Routines.{AreAnswersOf}
use Rattle.paw_routines.proofs.Measures.{AreValues}
use Rattle.paw_routines.proofs.routines.Routines.answers_of.Given as goal

-- The answers so far are those of the routine.
abbrev pub invariant-loop-x : goal.invariant-loop-x
invariant-loop-x g l =
    (length l.own ≡ 256) × ((X : RoutineAnswers) → AreAnswersOf g.F.Fn l.self X → AreValues X l.n l.x l.own)
