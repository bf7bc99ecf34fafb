use Rattle.paw_process.proofs.Taking.{found_taken, found_passed, found_none}
use Rattle.paw_process.proofs.objects.next_taken.Goals as goal

pub returns-then-may_be_taken-clause-value : goal.returns-then-may_be_taken-clause-value
returns-then-may_be_taken-clause-value g c =
    found_taken _ _ _ _ _ _ c.requires.game.places c.loop-o.invariant c.in-Some.ensures.value c.if-may_be_taken.ensures.value

pub loop-o-preserved : goal.loop-o-preserved
loop-o-preserved g c =
    found_passed _ _ _ _ _ _ c.requires.game.places c.loop-o.invariant c.in-Some.ensures.value c.if-may_be_taken.ensures.value

pub returns-clause-value : goal.returns-clause-value
returns-clause-value g c = found_none _ _ _ _ _ c.requires.game.places c.loop-o.invariant c.in_default.ensures.value
