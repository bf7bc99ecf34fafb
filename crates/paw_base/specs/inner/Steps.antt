-- The steps of a piece: the condacts that are read for it. Definitions for contracts between crates, and for proofs.
use Rattle.std.specs.Prelude.{ℕ, suc, List, [], ◌∷◌, ◌++◌, length, take}
use Rattle.paw_base.specs.declared.steps.StepRow.{StepRow}

-- What is kept of the steps of a piece: the first ones, how many of them at most, and how many there were.
pub record KeptSteps : Type 0 where
  pub most : ℕ
  pub rows : List StepRow
  pub count : ℕ

-- What is kept of these steps, where this number is kept at most.
abbrev pub kept_steps : ℕ → List StepRow → KeptSteps
kept_steps most steps = record { most = most; rows = take most steps; count = length steps }

-- No steps at all, where this number is kept at most.
abbrev pub no_steps : ℕ → KeptSteps
no_steps most = record { most = most; rows = []; count = 0 }

-- The same steps, counted but not kept: none of them, and none of those to come.
abbrev pub steps_only_counted : KeptSteps → KeptSteps
steps_only_counted kept = record { most = 0; rows = []; count = kept.count }

-- One step more, which is kept where fewer than the most are.
abbrev pub with_step_noted : StepRow → KeptSteps → KeptSteps
with_step_noted step kept = record kept { rows = take kept.most (kept.rows ++ step ∷ []); count = suc kept.count }
