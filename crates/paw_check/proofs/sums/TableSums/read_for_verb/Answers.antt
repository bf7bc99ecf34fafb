use Rattle.std.proofs.Common.{◌+◌}
use Rattle.std.specs.List.{slice_index_or}
use Rattle.paw_check.specs.inner.Found.{found_sum}
use Rattle.paw_check.proofs.Capped.{taken_is}
use Rattle.paw_check.proofs.sums.TableSums.read_for_verb.Goals as goal

pub returns : goal.returns
returns c = record {
  value = taken_is c.args.objects c.saturating_add-doalls.result c.sum.result
      (c.args.self.now.doalls + slice_index_or c.args.self.now.verb_doalls c.args.verb 0)
      (found_sum c.args.self.now c.args.called.now c.args.verb) c.in_passes.result
      c.in_passes.ensures.value c.saturating_add-doalls.ensures c.sum.ensures.value;
}
