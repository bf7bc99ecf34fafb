use Rattle.paw_effects.proofs.Moves.{AreDropped}
use Rattle.paw_effects.proofs.move_actions.drop_all.Given as goal

-- What is held of the objects so far is dropped.
abbrev pub invariant-loop-o : goal.invariant-loop-o
invariant-loop-o l = AreDropped l.fn.world l.o l.world
