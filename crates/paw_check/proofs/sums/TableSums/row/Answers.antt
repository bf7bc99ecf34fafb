use Rattle.paw_check.specs.inner.Found.{found_taken}
use Rattle.paw_check.proofs.Rows.{upto_none, upto_more, upto_all}
use Rattle.paw_check.proofs.sums.TableSums.row.Goals as goal

pub loop-verb-init : goal.loop-verb-init
loop-verb-init c = upto_none (found_taken c.args.objects c.args.self.now c.args.called.now)

pub loop-verb-preserved : goal.loop-verb-preserved
loop-verb-preserved c =
    upto_more c.loop-verb.row (found_taken c.args.objects c.args.self.now c.args.called.now) c.loop-verb.verb c.read_for_verb.result
    c.loop-verb-test.true c.read_for_verb.ensures.value c.loop-verb.invariant

pub returns : goal.returns
returns c = record {
  value = upto_all c.loop-verb.row (found_taken c.args.objects c.args.self.now c.args.called.now) c.loop-verb.verb
      c.loop-verb-test.false c.loop-verb.invariant;
}
