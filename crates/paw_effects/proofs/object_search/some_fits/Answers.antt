use Rattle.std.proofs.Common.{arith}
use Rattle.paw_effects.proofs.Searching.{one_fits, none_more}
use Rattle.paw_effects.proofs.object_search.some_fits.Goals as goal

pub returns-then-fits : goal.returns-then-fits
returns-then-fits c = record {
  value = one_fits c.args.world.now c.loop-o.o (omega (arith, c.loop-o-test.true, c.loop-o.invariant.all)) c.if-fits.ensures.value;
}

pub loop-o-preserved : goal.loop-o-preserved
loop-o-preserved c = record {
  none = none_more c.args.world.now c.loop-o.o (omega (arith, c.loop-o-test.true, c.loop-o.invariant.all)) c.loop-o.invariant.none c.if-fits.ensures.value;
  all = c.loop-o.invariant.all;
}
