use Rattle.std.proofs.Common.{false}
use Rattle.std.specs.List.{slice_index_or}
use Rattle.paw_check.proofs.SetLaws.{marked_yes, marked_no}
use Rattle.paw_check.proofs.sets.marked_numbers.Goals as goal
use Rattle.paw_check.proofs.sets.marked_numbers.Goals.{then-marks-number+in_ok-push, else-marks-number}

pub loop-number-preserved : goal.loop-number-preserved
loop-number-preserved c = elim c.if-marks-number.branch [
  | then-marks-number+in_ok-push w ↦ marked_yes (λ u. slice_index_or c.args.marks.now u false) c.loop-number.number _ _
      c.loop-number.invariant w.if-marks-number.true (cc (w.numbers-is, w.in_ok-push.ensures.items))
  | else-marks-number w ↦ marked_no (λ u. slice_index_or c.args.marks.now u false) c.loop-number.number _ _
      c.loop-number.invariant w.if-marks-number.false (cc w.numbers-is)
]
