use Rattle.std.proofs.Common.{◌∙◌, arith}
use Rattle.std.proofs.lemmas.List.{length-set}
use Rattle.paw_state.specs.declared.fields.FrameField.{FrameField}
use Rattle.paw_state.specs.inner.Parts.{frame_in}
use Rattle.paw_state.proofs.Written.{mapped_more, mapped_all}
use Rattle.paw_state.proofs.parts.frames_of_fields.Goals as goal

-- What stands for a row past the last.
abbrev empty : FrameField
empty = record { table = 0; entry = 0; at = 0; acted = 0 }

pub loop-i-preserved : goal.loop-i-preserved
loop-i-preserved c = (
  length-set c.loop-i.frames c.loop-i.i c.frame.result ∙ c.loop-i.invariant.0,
  mapped_more frame_in c.args.rows.now c.loop-i.frames c.loop-i.i c.frame.result empty (omega arith)
      (omega arith) c.loop-i.invariant.1 c.frame.ensures.value,
)

pub returns : goal.returns
returns c = record {
  value = mapped_all frame_in c.args.rows.now c.loop-i.frames c.loop-i.i (omega arith) c.loop-i.invariant.0
      (omega arith) c.loop-i.invariant.1;
}
