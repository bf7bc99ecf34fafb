-- How a trial ends, and what it leaves.
use Rattle.std.specs.Prelude.{◌≡◌, ℕ, List}
use Rattle.paw_stage.specs.Stage.{Standing}
use Rattle.paw_effects.specs.declared.act.Prompt.{Prompt}
use Rattle.paw_reading.specs.declared.frames.Frame.{Frame}
use Rattle.paw_reading.specs.Run.{Run}
use Rattle.paw_reading.specs.declared.halt.Halt.{Halt}
use Rattle.paw_reading.specs.Turn.{WaitsAt, Halted}
use Rattle.paw_trial.specs.Trial.{trial_reading, trial_text}
use Rattle.paw_top.specs.Ends.{outcome_of_halt}
use Rattle.paw_top.specs.Shows.{Shows}
use Rattle.paw_top.specs.declared.outcome.Outcome.{Outcome}
use Rattle.paw_top.specs.declared.outcome.Outcome.TheVariants as outcome
use Rattle.paw_top.specs.declared.outcome.MemoryAt.TheVariants as memory

-- How a trial ends: the line of the world is shown where the reading of all its lines waits for another. Where it ends
-- for good, or memory was lacking, nothing is changed.
pub data Tries (n : ℕ) (old new : Standing) : Outcome → Type 0 where
  shows : (o : Outcome) (p : Prompt) (path : List Frame) (r : Run) → trial_reading n ≡ WaitsAt p path r →
      Shows (trial_text n r.world) old new o → Tries n old new o
  halts : (halt : Halt) (r : Run) → trial_reading n ≡ Halted halt r → new ≡ old → Tries n old new (outcome_of_halt halt)
  without_memory : new ≡ old → Tries n old new (outcome.Memory memory.Trial)
