use Rattle.std.proofs.Common.{◌≡◌, take}
use Rattle.paw_stage.specs.inner.Memory.{standing_of}
use Rattle.paw_page.specs.inner.Standing.{with_more_lines}
use Rattle.paw_page.proofs.stage.add_lines.Given as goal

abbrev pub invariant-loop-line : goal.invariant-loop-line
invariant-loop-line l = standing_of l.stage ≡ with_more_lines (take l.line-index l.lines) (standing_of l.initial.stage)
