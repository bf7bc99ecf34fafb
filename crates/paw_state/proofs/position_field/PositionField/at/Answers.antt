use Rattle.std.proofs.Common.{◌≡◌, ◌+◌, arith}
use Rattle.std.proofs.Common.{refl}
use Rattle.paw_base.specs.declared.limits.TheConstants.{FLAG_COUNT}
use Rattle.paw_state.specs.declared.fields.TheConstants.{POSITION_PLACES, POSITION_FLAGS}
use Rattle.paw_state.proofs.position_field.PositionField.at.Goals as goal

pub returns : goal.returns
returns c =
    let places : c.args.start + POSITION_PLACES ≡ c.args.start + POSITION_FLAGS + FLAG_COUNT = omega arith in
    record { value = rw (c.array_at.ensures.value, c.array_at-2.ensures.value, places) refl }
