-- How long a state and a piece are that bytes show, and whose session they are of.
use Rattle.std.proofs.Common.{◌≡◌, ℕ, ◌+◌, ◌-◌, ◌<◌, ◌≤◌, Bool, true, false, ◌++◌, Option, Some, None, length}
use Rattle.std.proofs.Common.{take}
use Rattle.std.proofs.Common.{drop, refl, sym, ap, ◌∙◌, arith, get_or}
use Rattle.std.specs.Prelude.{if◌then◌else◌, nat_le}
use Rattle.std.proofs.lemmas.List.{length-append, length-take-le, length-drop, get_or-take}
use Rattle.paw_base.specs.Bytes.{Bytes}
use Rattle.paw_base.specs.declared.layout.TheConstants.{PIECE_LENGTH_AT}
use Rattle.paw_journal.specs.declared.refusal.SessionPart.TheVariants as part
use Rattle.paw_journal.specs.Session.{Digests, Damaged, Shown, recover, slot_in_use, kept_digests, slot, slot_shows}
use Rattle.paw_journal.specs.Session.{shown_unless, first_unsound, slot_changes, slot_state}
use Rattle.paw_journal.specs.Session.{slot_piece, shown_state, form_length, slot_version, two_byte_number, piece_length}
use Rattle.paw_journal.specs.Session.{most_changes, state_length, zeros}
use Rattle.paw_journal.specs.declared.layout.TheConstants.{PIECE_AT}
use Rattle.paw_journal.specs.Session.{base_length, slot_length}
use Rattle.paw_journal.proofs.Makes.{length_zeros}
use Rattle.paw_journal.proofs.Recovers.{shown_made, recover_is, recover_made}
use Rattle.paw_journal.proofs.Fills.{slot_long}
use Rattle.paw_journal.proofs.Slots.{state_long, form_bounds, form_names}

-- In the form of each version a state has as many bytes.
form_long : (n : ℕ) (state : Bytes) → n ≤ state_length → length state ≡ base_length →
    length (take n state ++ zeros (state_length - n)) ≡ state_length
form_long n state few long =
    let l = length-take-le n state (omega arith) in
    omega (arith, length-append (take n state) (zeros (state_length - n)), l, length_zeros (state_length - n))

same_shown : (d : Digests) (a p : Bytes) (e : Digests) (b q : Bytes) → Shown d a p ≡ Shown e b q → (d ≡ e) × (a ≡ b) × (p ≡ q)
same_shown d a p e b q h = (cc, cc, cc)

by_changes : (digests : Digests) (s : Bytes) (d : Digests) (st p : Bytes) (o : Option ℕ) → shown_unless digests s o ≡ Shown d st p →
    (digests ≡ d) × (shown_state s ≡ st) × (slot_piece s ≡ p)
by_changes digests s d st p None e = same_shown digests (shown_state s) (slot_piece s) d st p e
by_changes digests s d st p (Some n) e = absurd (cc e)

by_count : (digests : Digests) (s : Bytes) (d : Digests) (st p : Bytes) (b : Bool) →
    (if b then shown_unless digests s (first_unsound (slot_changes s)) else Damaged part.Slot 0) ≡ Shown d st p →
    (digests ≡ d) × (shown_state s ≡ st) × (slot_piece s ≡ p)
by_count digests s d st p true e = by_changes digests s d st p (first_unsound (slot_changes s)) e
by_count digests s d st p false e = absurd (cc e)

by_slot : (digests : Digests) (s : Bytes) (d : Digests) (st p : Bytes) → slot_shows digests s ≡ Shown d st p →
    (digests ≡ d) × (shown_state s ≡ st) × (slot_piece s ≡ p)
unfolding slot_shows
by_slot digests s d st p e = by_count digests s d st p (nat_le (two_byte_number 0 s) most_changes) e

of_chosen : (bytes : Bytes) (digests : Digests) (state piece : Bytes) → recover bytes ≡ Shown digests state piece →
    (kept_digests bytes ≡ digests) × (shown_state (slot (slot_in_use bytes) bytes) ≡ state) × (slot_piece (slot (slot_in_use bytes) bytes) ≡ piece)
    × (length (slot (slot_in_use bytes) bytes) ≡ slot_length)
of_chosen bytes digests state piece e =
    let made = shown_made bytes digests state piece e in
    let p = by_slot (kept_digests bytes) (slot (slot_in_use bytes) bytes) digests state piece
    (sym (recover_is (slot_in_use bytes) bytes refl ∙ recover_made (slot_in_use bytes) bytes made) ∙ e) in
    (p.0, p.1, p.2, slot_long (slot_in_use bytes) bytes (omega arith) made.long)

-- The digests that are shown are those that the header keeps.
pub shown_digests : (bytes : Bytes) (digests : Digests) (state piece : Bytes) → recover bytes ≡ Shown digests state piece → kept_digests bytes ≡ digests
shown_digests bytes digests state piece e = (of_chosen bytes digests state piece e).0

-- A state that is shown has 3,419 bytes.
pub shown_whole : (bytes : Bytes) (digests : Digests) (state piece : Bytes) →
    recover bytes ≡ Shown digests state piece → length state ≡ state_length
shown_whole bytes digests state piece e =
    let h = of_chosen bytes digests state piece e in
    let s = slot (slot_in_use bytes) bytes in
    ap length (sym h.1) ∙ form_long (form_length (slot_version s)) (slot_state s) (form_bounds (slot_version s)).1 (state_long s h.3)

-- And the piece is as long as the state says.
pub shown_long : (bytes : Bytes) (digests : Digests) (state piece : Bytes) → recover bytes ≡ Shown digests state piece →
    piece_length state ≤ slot_length - PIECE_AT → length piece ≡ piece_length state
shown_long bytes digests state piece e few =
    let h = of_chosen bytes digests state piece e in
    let s = slot (slot_in_use bytes) bytes in
    let m = form_length (slot_version s) in
    let bounds = form_bounds (slot_version s) in
    let n : piece_length state ≡ piece_length (slot_state s) =
    ap piece_length (sym h.1) ∙ form_names m (state_length - m) (slot_state s) bounds.0 bounds.1 (state_long s h.3) in
    ap length (sym h.2) ∙ (length-take-le (piece_length (slot_state s)) (drop PIECE_AT s) (there _ _ _ _ (length-drop PIECE_AT s) h.3 n few)
    ∙ sym n)
  where
    there : (k d l m : ℕ) → d ≡ l - PIECE_AT → l ≡ slot_length → m ≡ k → m ≤ slot_length - PIECE_AT → k ≤ d
    there k d l m e f n few = omega arith

-- So is a piece that stands beside a buffer whose first bytes are the state.
pub buffer_long : (bytes : Bytes) (digests : Digests) (buffer piece : Bytes) (n : ℕ) →
    recover bytes ≡ Shown digests (take state_length buffer) piece → piece_length buffer ≡ n → n < 65536 → length piece ≡ n
buffer_long bytes digests buffer piece n e is low =
    let a : get_or (take state_length buffer) PIECE_LENGTH_AT 0 ≡ get_or buffer PIECE_LENGTH_AT 0 =
    get_or-take state_length buffer PIECE_LENGTH_AT 0 (omega arith) in
    let b : get_or (take state_length buffer) (PIECE_LENGTH_AT + 1) 0 ≡ get_or buffer (PIECE_LENGTH_AT + 1) 0 =
    get_or-take state_length buffer (PIECE_LENGTH_AT + 1) 0 (omega arith) in
    let m : piece_length (take state_length buffer) ≡ n = omega (arith, a, b, is) in
    shown_long bytes digests (take state_length buffer) piece e (omega (arith, m, low)) ∙ m
