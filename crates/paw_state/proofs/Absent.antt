-- A position that isn't there.
use Rattle.std.proofs.Common.{◌≡◌, ◌∷◌, ◌++◌, None, replicate, sym, ap, ◌∙◌}
use Rattle.std.proofs.lemmas.List.{replicate-append-replicate}
use Rattle.paw_base.specs.declared.limits.TheConstants.{FLAG_COUNT, OBJECT_LIMIT}
use Rattle.paw_state.specs.declared.fields.TheConstants.{POSITION_LENGTH}
use Rattle.paw_state.specs.State.{zeros, position_field_of}
use Rattle.paw_state.specs.inner.Fields.{position_shape}

-- Its bytes are zeros.
pub none_is_zeros : zeros POSITION_LENGTH ≡ position_shape.bytes (position_field_of None)
unfolding zeros
none_is_zeros = ap (λ l. 0 ∷ l) (sym (replicate-append-replicate FLAG_COUNT OBJECT_LIMIT 0))
