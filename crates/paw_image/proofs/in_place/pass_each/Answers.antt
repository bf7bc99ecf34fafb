use Rattle.paw_image.proofs.EachLoop.{each_goes_on}
use Rattle.paw_image.proofs.in_place.pass_each.Goals as goal

pub loop-preserved : goal.loop-preserved
loop-preserved g c =
    each_goes_on (g.R.InPlace.passing c.args.rules.now) c.args.count c.loop.counter c.loop.rest.now _
    c.in_ok-rest.rest.now c.loop-test.true c.in_ok-rest.ensures.gives c.loop.invariant
