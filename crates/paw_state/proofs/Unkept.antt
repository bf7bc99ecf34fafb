-- The bytes of a state with nothing to show after those of version 1 end in zeros.
use Rattle.std.proofs.Common.{◌≡◌, ◌-◌, ◌++◌, length, take, sym, ap, ◌∙◌, arith}
use Rattle.std.proofs.Common.{append_assoc, length-append}
use Rattle.std.proofs.lemmas.List.{take_at}
use Rattle.paw_base.specs.Bytes.{Bytes}
use Rattle.paw_base.specs.declared.layout.TheConstants.{STATE_LENGTH}
use Rattle.paw_game.specs.Image.{two_bytes}
use Rattle.paw_state.specs.declared.fields.TheConstants.{KEPT}
use Rattle.paw_state.specs.State.{State}
use Rattle.paw_state.specs.declared.fields.Fields.{Fields}
use Rattle.paw_state.specs.State.{zeros}
use Rattle.paw_state.specs.State.{fields_of, state_bytes}
use Rattle.paw_state.proofs.Found.{length-zeros}
use Rattle.paw_state.proofs.EachField.{state_same}
use Rattle.paw_state.specs.inner.Fields.{after_piece}
use Rattle.paw_state.proofs.EachField.{IsOlder, older_bytes, before_piece, state_ends}
use Rattle.paw_state.proofs.Told.{AreLong}

-- The bytes of version 1.
before_later : Fields → Bytes
before_later f = before_piece f ++ two_bytes f.piece

state_splits : (s : State) → state_bytes s ≡ before_later (fields_of s) ++ after_piece (fields_of s)
unfolding before_later
state_splits s =
    let f = fields_of s in
    state_same s ∙ (state_ends f ∙ sym (append_assoc (before_piece f) (two_bytes f.piece) (after_piece f)))

cut_back : (bytes front back : Bytes) → bytes ≡ front ++ back → length bytes ≡ STATE_LENGTH → back ≡ zeros (STATE_LENGTH - KEPT) →
    take KEPT bytes ++ zeros (STATE_LENGTH - KEPT) ≡ bytes
cut_back bytes front back e n z =
    let all : length (front ++ back) ≡ STATE_LENGTH = ap length (sym e) ∙ n in
    let behind : length back ≡ STATE_LENGTH - KEPT = ap length z ∙ length-zeros (STATE_LENGTH - KEPT) in
    let m : length front ≡ KEPT = omega (arith, all, behind, length-append front back) in
    ap (λ (l : Bytes). l ++ zeros (STATE_LENGTH - KEPT)) (ap (take KEPT) e ∙ take_at front back KEPT m) ∙ (ap (λ (l : Bytes). front ++ l) (sym z) ∙ sym e)

-- So its bytes of version 1, and zeros for the others, are the state.
pub ends_in_zeros : (s : State) → AreLong s → IsOlder s → take KEPT (state_bytes s) ++ zeros (STATE_LENGTH - KEPT) ≡ state_bytes s
ends_in_zeros s long none =
    cut_back (state_bytes s) (before_later (fields_of s)) (after_piece (fields_of s)) (state_splits s) long.all (older_bytes s none)
