use Rattle.std.proofs.Common.{refl}
use Rattle.paw_state.specs.inner.Shapes.{values_at}
use Rattle.paw_state.proofs.fields.kept_at.Goals as goal

pub returns : goal.returns
unfolding values_at
returns c = record { value = rw (c.at.ensures.value, c.at-2.ensures.value, c.at-3.ensures.value, c.at-4.ensures.value) refl }
