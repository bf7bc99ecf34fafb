use Rattle.std.proofs.Common.{[], ◌∙◌}
use Rattle.paw_gen.specs.Trial.{trial_line}
use Rattle.paw_gen.proofs.Rows.{pushed}
use Rattle.paw_gen.proofs.lines.lines_of.Goals as goal

pub loop-number-preserved : goal.loop-number-preserved
loop-number-preserved c =
    pushed trial_line [] c.loop-number.number c.loop-number.lines.items c.push.new.self.items c.in_ok-from_slice.field-0
    c.loop-number.invariant (c.in_ok-from_slice.ensures.value ∙ c.line_at.ensures.value) c.in_ok-push.ensures.items
