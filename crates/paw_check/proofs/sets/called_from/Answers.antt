use Rattle.std.proofs.Common.{◌∙◌, length}
use Rattle.paw_check.proofs.SetLaws.{marks_filter}
use Rattle.paw_check.proofs.sets.called_from.Goals as goal

pub returns : goal.returns
returns c = record {
  value = c.in_ok-numbers.ensures.value
      ∙ marks_filter c.mark_called_from.new.marks _ (length c.args.tables.now) c.requires.few c.mark_called_from.ensures.marks;
}
