-- Facts of one answer: words that contracts between crates and proofs use besides those of specs/Answers.antt.
use Rattle.std.specs.Prelude.{Option, None, Result, Ok, Err}
use Rattle.paw_stage.specs.declared.StageCall.{StageCall}
use Rattle.paw_top.specs.declared.outcome.Outcome.{Outcome}
use Rattle.paw_top.specs.Answers.{failed_call}

-- The call that failed, where there is an answer only if something failed.
abbrev pub failed_or : {A : Type 0} → Result A Outcome → Option StageCall
failed_or (Ok a) = None
failed_or (Err o) = failed_call o
