use Rattle.paw_effects.specs.Worlds.{IsOf}
use Rattle.paw_reading.proofs.tests.run_with.Given as goal

-- The world is the game's.
abbrev pub invariant-loop-entry : goal.invariant-loop-entry
invariant-loop-entry g l = IsOf l.game l.world
