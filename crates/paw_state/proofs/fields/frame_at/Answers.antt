use Rattle.std.proofs.Common.{◌≡◌, ◌+◌, refl, arith}
use Rattle.paw_state.specs.declared.fields.TheConstants.{FRAME_AT, FRAME_ACTED}
use Rattle.paw_state.proofs.fields.frame_at.Goals as goal

pub returns : goal.returns
returns c =
    let at : c.args.at + FRAME_AT ≡ c.args.at + 1 + 2 = omega arith in
    let acted : c.args.at + FRAME_ACTED ≡ c.args.at + 1 + 2 + 1 = omega arith in
    record { value = rw (c.two_at.ensures.value, at, acted) refl }
