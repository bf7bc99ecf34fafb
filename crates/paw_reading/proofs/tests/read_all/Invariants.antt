use Rattle.paw_effects.specs.Worlds.{IsOf}
use Rattle.paw_reading.proofs.tests.read_all.Given as goal

-- The world is the game's.
abbrev pub invariant-loop-at : goal.invariant-loop-at
invariant-loop-at g l = IsOf l.game l.world
