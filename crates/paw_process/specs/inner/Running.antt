-- The middle of a run.
use Rattle.std.specs.Prelude.{ℕ, None}
use Rattle.std.specs.Fn.{Shared}
use Rattle.paw_game.specs.Game.{GameLists}
use Rattle.paw_routines.specs.declared.routines.Routines.{Routines}
use Rattle.paw_process.specs.inner.OpenTables.{IsReading}
use Rattle.paw_process.specs.inner.Meaning.{InStories, Held, going_in}
use Rattle.paw_process.specs.inner.Moves.{ReadsTable}
use Rattle.paw_process.specs.inner.Steps.{IsAfterReading}

-- The machine has read on from what stood at first to what stands now, and may read on.
pub record IsRunning {F : Type 0} (calls : Shared F (ℕ × (ℕ × Unit {0})) ℕ) (routines : Routines F) (g : GameLists)
    (first now : Held) : Type 0 where
  pub reads : InStories calls routines g (λ s. ReadsTable s (going_in s first.machine.frames) first None now)
  pub reading : IsReading now.machine
  pub after : IsAfterReading g first now
