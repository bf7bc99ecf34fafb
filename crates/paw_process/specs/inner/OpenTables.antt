-- The tables that are open. Words of contracts between crates, and of proofs.
use Rattle.std.specs.Prelude.{◌≡◌, ℕ, ◌+◌, ◌<◌, ◌≤◌, false, List, [], ◌∷◌, Option, Some, None, length, IfSome}
use Rattle.paw_base.specs.declared.limits.TheConstants.{ENTRY_LIMIT, CONDACT_LIMIT, READ_LIMIT}
use Rattle.paw_base.specs.inner.Steps.{KeptSteps}
use Rattle.paw_base.specs.inner.Steps.{no_steps, kept_steps, steps_only_counted, with_step_noted}
use Rattle.paw_effects.specs.declared.act.Prompt.{Prompt}
use Rattle.paw_reading.specs.declared.frames.Frame.{Frame}
use Rattle.paw_reading.specs.declared.frames.OpenLoop.{OpenLoop}
use Rattle.paw_reading.specs.Run.{StepRow}
use Rattle.paw_process.specs.declared.machine.TheConstants.{MOST_FRAMES}

-- What a machine holds: the frames of the open tables, the innermost first; the open loop; the prompt at which it
-- waits; the number of condacts that the open piece may still read; and what is kept of the piece's steps.
pub record OpenTables : Type 0 where
  pub frames : List Frame
  pub turning : Option OpenLoop
  pub waiting : Option Prompt
  pub left : ℕ
  pub steps : KeptSteps

-- The open piece has read these condacts, and with what it may still read that makes as many as a piece may. Of its
-- steps as many are kept as the machine keeps.
pub record HasRead (read : List StepRow) (m : OpenTables) : Type 0 where
  pub left : length read + m.left ≡ READ_LIMIT
  pub steps : m.steps ≡ kept_steps m.steps.most read

-- No condact was read.
pub record ReadsNone (old new : OpenTables) : Type 0 where
  pub left : new.left ≡ old.left
  pub steps : new.steps ≡ old.steps

-- One condact was read, with this step.
pub record ReadsStep (step : StepRow) (old new : OpenTables) : Type 0 where
  pub left : old.left ≡ new.left + 1
  pub steps : new.steps ≡ with_step_noted step old.steps

-- The frames below the innermost.
abbrev pub below : List Frame → List Frame
below [] = []
below (f ∷ fs) = fs

-- The frame stands at a condact.
pub record IsAtCondact (f : Frame) : Type 0 where
  pub at : f.at < CONDACT_LIMIT
  pub entry : f.entry < ENTRY_LIMIT

-- Each of these frames stands at a condact.
abbrev pub AtCondacts : List Frame → Type 0
AtCondacts [] = Unit {0}
AtCondacts (f ∷ fs) = IsAtCondact f × AtCondacts fs

-- The innermost frame stands before an entry, or in one.
abbrev pub InTable : List Frame → Type 0
InTable [] = Unit {0}
InTable (f ∷ fs) = 0 < f.at → f.entry < ENTRY_LIMIT

-- The loop stands at a condact, and is one of these levels'.
pub record IsLoopWithin (levels : ℕ) (l : OpenLoop) : Type 0 where
  pub at : l.at < CONDACT_LIMIT
  pub entry : l.entry < ENTRY_LIMIT
  pub level : l.level < levels

-- The open loop, if any, stands at a condact, and is one of these levels'.
abbrev pub LoopFits : ℕ → Option OpenLoop → Type 0
LoopFits levels o = IfSome o (IsLoopWithin levels)

-- Tables are open, at most eleven, and each but the innermost stands at a condact.
pub record AreOpen (frames : List Frame) (turning : Option OpenLoop) : Type 0 where
  pub some : 0 < length frames
  pub depth : length frames ≤ MOST_FRAMES
  pub top : InTable frames
  pub below : AtCondacts (below frames)
  pub loop : LoopFits (length frames) turning

-- The machine may read on.
pub record IsReading (m : OpenTables) : Type 0 where
  pub tables : AreOpen m.frames m.turning
  pub waiting : m.waiting ≡ None

-- The machine waits at this prompt.
pub record IsWaiting (p : Prompt) (m : OpenTables) : Type 0 where
  pub tables : AreOpen m.frames m.turning
  pub condacts : AtCondacts m.frames
  pub waiting : m.waiting ≡ Some p

-- No table is open, the budget is full, and there are no steps, of which this number is kept at most.
abbrev pub new_machine : ℕ → OpenTables
new_machine most = record { frames = []; turning = None; waiting = None; left = READ_LIMIT; steps = no_steps most }

-- The machine forgets the steps that it kept, and from here on only counts them.
abbrev pub only_counting : OpenTables → OpenTables
only_counting m = record m { steps = steps_only_counted m.steps }

-- The budget is full again, and there are no steps, of which this number is kept at most from here on.
abbrev pub refilled_to_keep : ℕ → OpenTables → OpenTables
refilled_to_keep most m = record m { left = READ_LIMIT; steps = no_steps most }

-- The budget is full again, and there are no steps, of which as many are kept as before.
abbrev pub budget_refilled : OpenTables → OpenTables
budget_refilled m = refilled_to_keep m.steps.most m

-- This table alone is open, at its start.
abbrev pub table_begun : ℕ → OpenTables → OpenTables
table_begun t m = record m { frames = record { table = t; entry = 0; at = 0; acted = false } ∷ [] }

-- No table and no loop is open.
pub record IsClosed (m : OpenTables) : Type 0 where
  pub frames : m.frames ≡ []
  pub turning : m.turning ≡ None
  pub waiting : m.waiting ≡ None
