-- A run, step by step.
use Rattle.std.proofs.Common.{ℕ, Some, None, refl, ◌∙◌, arith}
use Rattle.std.specs.Fn.{Shared}
use Rattle.paw_base.specs.Bytes.{RoutineAnswers}
use Rattle.paw_game.specs.Game.{GameLists}
use Rattle.paw_routines.specs.declared.routines.Routines.{Routines}
use Rattle.paw_routines.specs.Routines.{AreAnswersOf}
use Rattle.paw_effects.specs.Story.{story_of}
use Rattle.paw_process.specs.inner.OpenTables.{IsReading}
use Rattle.paw_process.specs.inner.Meaning.{Held, going_in, RunsTo}
use Rattle.paw_process.specs.inner.Moves.{ReadsTable}
use Rattle.paw_process.specs.inner.Running.{IsRunning}
use Rattle.paw_process.specs.inner.Steps.{IsReady, IsAfterReading}
use Rattle.paw_process.specs.declared.Turned.{Turned}
use Rattle.paw_process.proofs.Readings.{reads_nothing, reads_on, runs_to}

module _ {F : Type 0} (calls : Shared F (ℕ × (ℕ × Unit {0})) ℕ) (routines : Routines F) (g : GameLists) where
  pub running_starts : (h : Held) → IsReady g h.machine h.surroundings.world → IsRunning calls routines g h h
  running_starts h ready = record {
    reads = λ X answers.
        reads_nothing (story_of g X) (going_in (story_of g X) h.machine.frames) h None h (record { left = refl; steps = refl }) (λ r. refl);
    reading = ready.reading;
    after = record { game = ready.game; draws = omega arith; most = refl };
  }

  pub running_on : (first now new : Held) → IsRunning calls routines g first now
      → ((X : RoutineAnswers) → AreAnswersOf calls routines X → ReadsTable (story_of g X) (going_in (story_of g X) now.machine.frames) now None new)
      → IsReading new.machine → IsAfterReading g now new → IsRunning calls routines g first new
  running_on first now new h reads reading after = record {
    reads = λ X answers.
        reads_on (story_of g X) (going_in (story_of g X) first.machine.frames) first now None new (h.reads X answers) (reads X answers);
    reading = reading;
    after = record { game = after.game; draws = omega (arith, h.after.draws, after.draws); most = after.most ∙ h.after.most };
  }

  pub running_ends : (first now : Held) (t : Turned) (new : Held) → IsRunning calls routines g first now
      → (X : RoutineAnswers) → AreAnswersOf calls routines X
      → ReadsTable (story_of g X) (going_in (story_of g X) now.machine.frames) now (Some t) new → RunsTo (story_of g X) first t new
  running_ends first now t new h X answers reads =
      runs_to (story_of g X) first t new
      (reads_on (story_of g X) (going_in (story_of g X) first.machine.frames) first now (Some t) new (h.reads X answers) reads)
