use Rattle.paw_effects.proofs.Searching.{found_here, found_later, found_nowhere}
use Rattle.paw_effects.proofs.object_search.least_fitting.Goals as goal

pub returns-then-fits-clause-value : goal.returns-then-fits-clause-value
returns-then-fits-clause-value c =
    found_here c.args.world.now c.args.place c.loop-o.last c.in-Some.o c.loop-o.invariant c.in-Some.ensures.value c.if-fits.ensures.value

pub loop-o-preserved : goal.loop-o-preserved
loop-o-preserved c =
    found_later c.args.world.now c.args.place c.loop-o.last c.in-Some.o c.loop-o.invariant c.in-Some.ensures.value c.if-fits.ensures.value

pub returns-clause-value : goal.returns-clause-value
returns-clause-value c = found_nowhere c.args.world.now c.args.place c.loop-o.last c.loop-o.invariant c.in_default.ensures.value
