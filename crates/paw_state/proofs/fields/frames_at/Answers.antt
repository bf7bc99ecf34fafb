use Rattle.std.proofs.Common.{◌≡◌, ◌+◌, ◌*◌, refl, ap, ◌∙◌, arith}
use Rattle.std.proofs.lemmas.List.{length-set}
use Rattle.paw_process.specs.declared.machine.TheConstants.{MOST_FRAMES}
use Rattle.paw_state.specs.declared.fields.TheConstants.{FRAMES, FRAME_LENGTH}
use Rattle.paw_state.specs.inner.Fields.{frame_shape}
use Rattle.paw_state.proofs.Shaped.{no_values, value_read, values_read}
use Rattle.paw_state.proofs.fields.frames_at.Goals as goal

pub loop-i-init : goal.loop-i-init
loop-i-init c = (refl, no_values frame_shape _ FRAMES)

pub loop-i-preserved : goal.loop-i-preserved
loop-i-preserved c =
    let at : FRAMES + FRAME_LENGTH * c.loop-i.i ≡ FRAMES + c.loop-i.i * FRAME_LENGTH = omega arith in (
      length-set c.loop-i.rows c.loop-i.i c.frame_at.result ∙ c.loop-i.invariant.0,
      value_read frame_shape c.loop-i.rows c.loop-i.i c.frame_at.result c.args.bytes.now FRAMES (omega arith) c.loop-i.invariant.1
          (c.frame_at.ensures.value ∙ ap (frame_shape.value c.args.bytes.now) at),
    )

pub returns : goal.returns
returns c = record {
  value = values_read frame_shape c.loop-i.rows c.loop-i.i MOST_FRAMES c.args.bytes.now FRAMES c.loop-i.invariant.0 (omega arith) c.loop-i.invariant.1;
}
