-- What the machine needs to read a condact, and what stays the same then.
use Rattle.std.specs.Prelude.{◌≡◌, ℕ, ◌+◌, ◌-◌, ◌<◌, ◌≤◌, ◌^◌, true, Option}
use Rattle.std.specs.Fn.{Shared}
use Rattle.paw_base.specs.declared.parts.Condact.{Condact}
use Rattle.paw_game.specs.Game.{GameLists}
use Rattle.paw_game.specs.inner.Valid.{is_right}
use Rattle.paw_world.specs.World.{World}
use Rattle.paw_routines.specs.declared.routines.Routines.{Routines}
use Rattle.paw_routines.specs.Routines.{HaveAnswers}
use Rattle.paw_effects.specs.Worlds.{IsOf}
use Rattle.paw_reading.specs.declared.frames.Frame.{Frame}
use Rattle.paw_process.specs.inner.OpenTables.{OpenTables}
use Rattle.paw_process.specs.inner.OpenTables.{ReadsNone, IsAtCondact, IsReading}
use Rattle.paw_process.specs.inner.Meaning.{Held}
use Rattle.paw_process.specs.inner.Moves.{StandsOrStopped}
use Rattle.paw_process.specs.declared.Turned.{Turned}

-- The machine may read on, in a world of the game.
pub record IsReady (g : GameLists) (m : OpenTables) (w : World) : Type 0 where
  pub reading : IsReading m
  pub game : IsOf g w

-- One more condact may be read: the routines have answers, and the world can make a draw for each condact that is left.
pub record MayReadNext {F : Type 0} (calls : Shared F (ℕ × (ℕ × Unit {0})) ℕ) (routines : Routines F) (g : GameLists)
    (m : OpenTables) (w : World) : Type 0 where
  pub ready : IsReady g m w
  pub answers : HaveAnswers calls routines
  pub draws : w.draws + m.left < 2 ^ 64

-- This condact of a frame may be read: the budget isn't used up, and the world can make one draw more.
pub record MayReadOne (g : GameLists) (f : Frame) (c : Condact) (m : OpenTables) (w : World) : Type 0 where
  pub ready : IsReady g m w
  pub at : IsAtCondact f
  pub left : 0 < m.left
  pub condact : is_right g c ≡ true
  pub draws : w.draws < 2 ^ 64 - 1

-- The machine may read on or has stopped; no condact is read, the world is the game's still, and nothing is drawn.
pub record HasMoved (g : GameLists) (old : OpenTables) (w : World) (t : Option Turned)
    (new : OpenTables) (w' : World) : Type 0 where
  pub stands : StandsOrStopped t new
  pub left : ReadsNone old new
  pub game : IsOf g w'
  pub draws : w'.draws ≡ w.draws

-- The world is the game's still, each draw is paid for by a condact, and as many steps are kept as before.
pub record IsAfterReading (g : GameLists) (old new : Held) : Type 0 where
  pub game : IsOf g new.surroundings.world
  pub draws : new.surroundings.world.draws + new.machine.left ≤ old.surroundings.world.draws + old.machine.left
  pub most : new.machine.steps.most ≡ old.machine.steps.most

-- A condact was read: the machine may read on or has stopped, and the world is as the condact leaves it.
pub record HasStepped (g : GameLists) (old : Held) (t : Option Turned) (new : Held) : Type 0 where
  pub stands : StandsOrStopped t new.machine
  pub step : IsAfterReading g old new
