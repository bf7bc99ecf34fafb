-- How a command ends where nothing outside stands in its way.
use Rattle.std.specs.Prelude.{◌≡◌, ◌≢◌, ℕ, IfSome}
use Rattle.paw_stage.specs.Stage.{Rose}
use Rattle.paw_stage.specs.declared.StageCall.{StageCall}
use Rattle.paw_stage.specs.declared.StageCall.TheVariants as call
use Rattle.paw_top.specs.Answers.{failed_call}
use Rattle.paw_top.specs.declared.outcome.Outcome.{Outcome}

-- No count of failures rose, except maybe that of loads that found no file.
abbrev pub NoFailure : (StageCall → ℕ) → (StageCall → ℕ) → Type 0
NoFailure old new = (c : StageCall) → c ≢ call.LoadAbsent → ¬ Rose (old c) (new c)

-- The answer names no failed call, except maybe a load that found no file: so the command did what it is for, or
-- refused what it was given, or memory was lacking.
abbrev pub IsUnhindered : Outcome → Type 0
IsUnhindered o = IfSome (failed_call o) (λ c. c ≡ call.LoadAbsent)
