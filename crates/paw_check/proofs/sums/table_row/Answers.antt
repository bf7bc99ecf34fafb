use Rattle.paw_check.specs.inner.Own.{own_in}
use Rattle.paw_check.proofs.FoundLaws.{found_holds}
use Rattle.paw_check.proofs.sums.table_row.Goals as goal

pub returns : goal.returns
returns c = record {
  value = found_holds c.args.objects c.row.result c.look_over.result (own_in c.args.own.now) c.args.changing c.args.called.now
      c.args.entries.now c.look_over.ensures.value c.requires.few c.row.ensures.value;
}
