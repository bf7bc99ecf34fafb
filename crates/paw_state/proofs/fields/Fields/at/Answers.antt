use Rattle.std.proofs.Common.{refl}
use Rattle.paw_state.proofs.Pieces.{bytes_each}
use Rattle.paw_state.proofs.fields.Fields.at.Goals as goal

pub returns-clause-value : goal.returns-clause-value
returns-clause-value c =
    rw (
      c.array_at.ensures.value,
      c.array_at-2.ensures.value,
      c.at.ensures.value,
      c.eight_at.ensures.value,
      c.eight_at-2.ensures.value,
      c.eight_at-3.ensures.value,
      c.frames_at.ensures.value,
      c.loop_at.ensures.value,
      c.array_at-3.ensures.value,
      c.two_at.ensures.value,
      c.kept_at.ensures.value,
    ) refl

pub returns-clause-bytes : goal.returns-clause-bytes
returns-clause-bytes c = bytes_each c.args.bytes.now c.fits-bytes
