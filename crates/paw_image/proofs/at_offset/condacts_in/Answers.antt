use Rattle.paw_image.specs.inner.Milestones.{milestones_of}
use Rattle.paw_image.proofs.CondactLaws.{milestones_at}
use Rattle.std.proofs.Common.{◌+◌, drop}
use Rattle.paw_image.proofs.CursorLaws.{nth_read}
use Rattle.paw_image.proofs.HereLaws.{few_in_row}
use Rattle.paw_image.proofs.at_offset.condacts_in.Goals as goal

pub from_condact-left-requires : goal.from_condact-left-requires
from_condact-left-requires c = record {
  milestones = milestones_at (milestones_of c.args.milestones.now c.args.entry) c.from_offset.result.now c.in-len3-up.len_at_least
      (rw c.from_offset.ensures.value c.requires.milestones);
}

pub returns-in-len3-up : goal.returns-in-len3-up
returns-in-len3-up c =
    let found = c.from_condact-left in
    record {
      value = rw c.saturating_sub.ensures
          (nth_read c.args.bytes.now c.args.offset c.args.at found.result.0 c.from_offset.result.now found.result.1.now c.from_offset.ensures.value
          c.in-len3-up.len_at_least found.ensures.value found.ensures.end);
      few = λ some. few_in_row (drop c.args.offset c.args.bytes.now) c.from_offset.result.now (c.args.at + found.result.0) c.from_offset.ensures.value
          c.in-len3-up.len_at_least (found.ensures.few some);
    }
