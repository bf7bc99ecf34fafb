-- What answers stand for routines that are kept.
use Rattle.std.specs.Prelude.{ℕ}
use Rattle.std.specs.Fn.{Shared}
use Rattle.paw_base.specs.Bytes.{RoutineAnswers}
use Rattle.paw_routines.specs.declared.routines.Routines.{Routines}
use Rattle.paw_routines.specs.Answers.{StandFor}

-- These answers stand for these routines.
abbrev pub AreAnswersOf : {F : Type 0} → Shared F (ℕ × (ℕ × Unit {0})) ℕ → Routines F → RoutineAnswers → Type 0
AreAnswersOf calls routines answers = StandFor calls routines.f routines.count answers

-- Some answers stand for these routines.
abbrev pub HaveAnswers : {F : Type 0} → Shared F (ℕ × (ℕ × Unit {0})) ℕ → Routines F → Type 0
HaveAnswers calls routines = (answers : RoutineAnswers) × AreAnswersOf calls routines answers
