-- A session as it is made, and what the calls of a journal leave.
use Rattle.std.proofs.Common.{◌≡◌, ◌≢◌, ℕ, ◌+◌, ◌-◌, ◌*◌, ◌≤◌, ◌<◌, List, ◌∷◌, ◌++◌, length, take, drop, refl, sym, ap}
use Rattle.std.proofs.Common.{subst, ◌∙◌, arith, get_or, append_assoc}
use Rattle.std.proofs.Common.{inl, inr, ◌⊎◌}
use Rattle.std.specs.Prelude.{Bool, true, false, not, replicate, Option, Some}
use Rattle.std.specs.Str.{bytes_eq}
use Rattle.std.proofs.lemmas.List.{length-append, take_at, take_all, drop_at}
use Rattle.std.proofs.lemmas.Slice.Eq.{bytes_eq-Decides}
use Rattle.paw_base.specs.Bytes.{Bytes}
use Rattle.paw_base.specs.declared.layout.TheConstants.{PIECE_LENGTH_AT}
use Rattle.paw_stage.specs.Disk.{Disk, stable}
use Rattle.paw_stage.specs.Stage.{Standing}
use Rattle.paw_journal.specs.declared.drafting.SlotState.{SlotState}
use Rattle.paw_journal.specs.declared.layout.Slot.{Slot}
use Rattle.paw_journal.specs.declared.layout.Slot.TheVariants as which
use Rattle.paw_journal.specs.inner.Journal.{IsAtRest, KeptIn}
use Rattle.paw_journal.specs.inner.Room.{Room, kept_slot, with_slot_kept, KeepsSlots, slot_number}
use Rattle.paw_journal.specs.Session.{Digests, Recovered, Shown, IsUnmade, recover, slot_shows, slot, stretch, base}
use Rattle.paw_journal.specs.Session.{slot_in_use, kept_digests, piece_length, state_length}
use Rattle.paw_journal.specs.Session.{session_length, header_length, slot_length, zeros, made_mark}
use Rattle.paw_journal.specs.Session.{made_header, made_slot, made_session}
use Rattle.paw_journal.specs.inner.Store.{ChangesStoreOnly, InStore, CrashLeavesSuch, IsOldOrNew}
use Rattle.paw_journal.specs.inner.Writes.{Introduces, MakesSession}
use Rattle.paw_journal.specs.declared.layout.TheConstants.{GAME_AT, ROUTINES_AT, DIGEST_LENGTH, BASE_AT, PIECE_AT}
use Rattle.paw_base.specs.declared.layout.TheConstants.{VERSION}
use Rattle.paw_base.specs.declared.limits.TheConstants.{PIECE_LIMIT}
use Rattle.paw_journal.specs.Session.{base_length}
use Rattle.paw_journal.proofs.Recovers.{recover_is, recover_made, both_digests}
use Rattle.paw_journal.proofs.Makes.{AreLong, length_zeros, length_header}
use Rattle.paw_journal.proofs.Kept.{IsKept, kept_is, kept_shows}
use Rattle.paw_journal.proofs.Slots.{state_stays, piece_stays}
use Rattle.paw_journal.proofs.Moved.{in_later}

length_head : length (0 ∷ 0 ∷ VERSION ∷ zeros 61) ≡ BASE_AT
length_head = omega (arith, length_zeros 61)

pub length_slot : (state piece : Bytes) → length state ≡ base_length → length piece ≤ PIECE_LIMIT →
    length (made_slot state piece) ≡ slot_length
length_slot state piece n few =
    slots (0 ∷ 0 ∷ VERSION ∷ zeros 61) state piece (zeros (slot_length - PIECE_AT - length piece)) length_head n few
    (length_zeros (slot_length - PIECE_AT - length piece))
  where
    slots : (head state piece behind : Bytes) → length head ≡ BASE_AT → length state ≡ base_length
        → length piece ≤ PIECE_LIMIT →
        length behind ≡ slot_length - PIECE_AT - length piece → length (head ++ state ++ piece ++ behind) ≡ slot_length
    slots head state piece behind h n few b =
        omega (
          arith,
          length-append (head ++ state ++ piece) behind,
          length-append (head ++ state) piece,
          length-append
              head state,
        )

no_changes : (state piece : Bytes) → get_or (made_slot state piece) 0 0 + 256 * get_or (made_slot state piece) 1 0 ≡ 0
unfolding zeros
no_changes state piece = refl

regroup : (a b c d : List ℕ) → a ++ b ++ c ++ d ≡ a ++ (b ++ (c ++ d))
regroup a b c d = simp append_assoc

made_base : (state piece : Bytes) → length state ≡ base_length → base (made_slot state piece) ≡ state
made_base state piece n =
    ap (λ l. take base_length (drop BASE_AT l))
    (regroup (0 ∷ 0 ∷ VERSION ∷ zeros 61) state piece (zeros (slot_length - PIECE_AT - length piece)))
    ∙ (ap (take base_length) (drop_at (0 ∷ 0 ∷ VERSION ∷ zeros 61) _ BASE_AT length_head) ∙ take_at state _ base_length n)

made_piece : (state piece : Bytes) → length state ≡ base_length →
    stretch PIECE_AT (length piece) (made_slot state piece) ≡ piece
made_piece state piece n =
    ap (λ l. take (length piece) (drop PIECE_AT l))
    (append_assoc (0 ∷ 0 ∷ VERSION ∷ zeros 61 ++ state) piece (zeros (slot_length - PIECE_AT - length piece)))
    ∙ (ap (take (length piece)) (drop_at (0 ∷ 0 ∷ VERSION ∷ zeros 61 ++ state) _ PIECE_AT
    (head (0 ∷ 0 ∷ VERSION ∷ zeros 61) state length_head n)) ∙ take_at piece _ (length piece) refl)
  where
    head : (z state : Bytes) → length z ≡ BASE_AT → length state ≡ base_length → length (z ++ state) ≡ PIECE_AT
    head z state h n = omega (arith, length-append z state)

-- A slot that is made has its state, and shows it with its piece.
made_slot_kept : (state piece : Bytes) → length state ≡ base_length → IsKept (made_slot state piece) 0 state
made_slot_kept state piece n = record { current = refl; number = no_changes state piece; few = omega arith; sound = refl; told = made_base state piece n }

made_slot_shows : (digests : Digests) (state piece : Bytes) → length state ≡ base_length →
    piece_length state ≡ length piece →
    slot_shows digests (made_slot state piece) ≡ Shown digests (take state_length state) piece
made_slot_shows digests state piece n names =
    kept_shows digests (made_slot state piece) 0 state (made_slot_kept state piece n)
    ∙ ap (Shown digests (take state_length state)) (ap (λ k. stretch PIECE_AT k (made_slot state piece)) names
    ∙ made_piece state piece n)

made_slot_zero : (digests : Digests) (slots behind : Bytes) → AreLong digests → length slots ≡ slot_length →
    slot 0 (made_header made_mark digests ++ slots ++ behind) ≡ slots
made_slot_zero digests slots behind n l =
    ap (λ x. take slot_length (drop header_length x)) (append_assoc (made_header made_mark digests) slots behind)
    ∙ (ap (take slot_length) (drop_at (made_header made_mark digests) (slots ++ behind) header_length
    (length_header made_mark digests n)) ∙ take_at slots behind slot_length l)

made_slot_one : (digests : Digests) (first slots : Bytes) → AreLong digests → length first ≡ slot_length →
    length slots ≡ slot_length → slot 1 (made_header made_mark digests ++ first ++ slots) ≡ slots
made_slot_one digests first slots n l m =
    ap (take slot_length) (drop_at (made_header made_mark digests ++ first) slots (header_length + slot_length)
    (omega (arith, length-append (made_header made_mark digests) first, length_header made_mark digests n)))
    ∙ take_all slot_length slots (omega arith)

made_digests : (digests : Digests) (slots behind : Bytes) → AreLong digests → kept_digests (made_header made_mark digests ++ slots ++ behind) ≡ digests
made_digests digests slots behind n =
    both_digests _ _ _ _
    (of_game (made_mark ∷ 0 ∷ VERSION ∷ zeros 29) digests.game digests.routines (zeros 32) slots behind head n.0)
    (of_routines (made_mark ∷ 0 ∷ VERSION ∷ zeros 29) digests.game digests.routines (zeros 32) slots behind head n.0 n.1)
  where
    head : length (made_mark ∷ 0 ∷ VERSION ∷ zeros 29) ≡ GAME_AT
    head = omega (arith, length_zeros 29)

    regroup : (a b c d e : List ℕ) → a ++ b ++ c ++ d ++ e ≡ a ++ (b ++ (c ++ (d ++ e)))
    regroup a b c d e = simp append_assoc

    of_game : (h g r z s t : Bytes) → length h ≡ GAME_AT → length g ≡ DIGEST_LENGTH →
        stretch GAME_AT DIGEST_LENGTH (h ++ g ++ r ++ z ++ s ++ t) ≡ g
    of_game h g r z s t k l =
        ap (λ x. take DIGEST_LENGTH (drop GAME_AT (x ++ t))) (regroup h g r z s)
        ∙ (ap (λ x. take DIGEST_LENGTH (drop GAME_AT x)) (append_assoc h (g ++ (r ++ (z ++ s))) t)
        ∙ (ap (take DIGEST_LENGTH) (drop_at h _ GAME_AT k)
        ∙ (ap (take DIGEST_LENGTH) (append_assoc g (r ++ (z ++ s)) t) ∙ take_at g _ DIGEST_LENGTH l)))

    of_routines : (h g r z s t : Bytes) → length h ≡ GAME_AT → length g ≡ DIGEST_LENGTH → length r ≡ DIGEST_LENGTH →
        stretch ROUTINES_AT DIGEST_LENGTH (h ++ g ++ r ++ z ++ s ++ t) ≡ r
    of_routines h g r z s t k l m =
        ap (λ x. take DIGEST_LENGTH (drop ROUTINES_AT x)) (regroup (h ++ g) r z s t)
        ∙ (ap (take DIGEST_LENGTH) (drop_at (h ++ g) _ ROUTINES_AT (omega (arith, length-append h g))) ∙ take_at r _ DIGEST_LENGTH m)

made_long : (digests : Digests) (slots : Bytes) → AreLong digests → length slots ≡ slot_length →
    length (made_header made_mark digests ++ slots ++ slots) ≡ session_length
made_long digests slots n l = omega (
  arith,
  length-append (made_header made_mark digests ++ slots) slots,
  length-append
      (made_header made_mark digests) slots,
  length_header made_mark digests n,
)

pub laid_long : (digests : Digests) (slots : Bytes) → AreLong digests → length slots ≡ slot_length →
    length (made_header 0 digests ++ slots ++ slots) ≡ session_length
laid_long digests slots n l = omega (
  arith,
  length-append (made_header 0 digests ++ slots) slots,
  length-append
      (made_header 0 digests) slots,
  length_header 0 digests n,
)

pub session_digests : (digests : Digests) (state piece : Bytes) → AreLong digests → kept_digests (made_session digests state piece) ≡ digests
session_digests digests state piece n = made_digests digests (made_slot state piece) (made_slot state piece) n

pub session_shows : (digests : Digests) (state piece : Bytes) → AreLong digests → length state ≡ base_length →
    length piece ≤ PIECE_LIMIT →
    piece_length state ≡ length piece → recover (made_session digests state piece)
    ≡ Shown digests (take state_length state) piece
session_shows digests state piece n m few names =
    let s = made_slot state piece in
    let whole = made_session digests state piece in
    let l : length s ≡ slot_length = length_slot state piece m few in
    recover_is 0 whole refl
    ∙ (recover_made 0 whole (record { long = made_long digests s n l; marked = refl; versioned = refl })
    ∙ (ap (λ d. slot_shows d (slot 0 whole)) (session_digests digests state piece n)
    ∙ (ap (slot_shows digests) (made_slot_zero digests s s n l) ∙ made_slot_shows digests state piece m names)))

-- What a header and the slot that it chooses say of the whole.
pub introduced_shows : (k : ℕ) (digests : Digests) (held bytes : Bytes) → Introduces k digests bytes → held ≡ slot k bytes →
    recover bytes ≡ slot_shows digests held
introduced_shows k digests held bytes h e =
    recover_is k bytes (sym h.slot)
    ∙ (recover_made k bytes h.made
    ∙ (ap (λ d. slot_shows d (slot k bytes)) (sym h.digests) ∙ ap (slot_shows digests) (sym e)))

-- What a crash leaves of one of two sessions, in other words.
pub in_either : (s t : Standing) (a b x y : Recovered) (m : Standing) → ChangesStoreOnly s t → a ≡ x → b ≡ y →
    InStore t (CrashLeavesSuch (IsOldOrNew a b)) m → InStore s (CrashLeavesSuch (IsOldOrNew x y)) m
in_either s t a b x y m h e f i = in_later s t (CrashLeavesSuch (IsOldOrNew a b)) (CrashLeavesSuch (IsOldOrNew x y)) m h
    (λ d p image l. elim (p image l) [ inl q ↦ inl (q ∙ e) | inr q ↦ inr (q ∙ f) ]) i

pub in_first_of : (s : Standing) (a b : Recovered) (m : Standing) → ChangesStoreOnly s s → InStore s (CrashLeavesSuch (λ r. r ≡ a)) m →
    InStore s (CrashLeavesSuch (IsOldOrNew a b)) m
in_first_of s a b m h i = in_later s s (CrashLeavesSuch (λ r. r ≡ a)) (CrashLeavesSuch (IsOldOrNew a b)) m h (λ d p image l. inl (p image l)) i

pub in_unmade : (s : Standing) (b : Recovered) (m : Standing) → ChangesStoreOnly s s → InStore s (CrashLeavesSuch IsUnmade) m →
    InStore s (CrashLeavesSuch (λ r. IsUnmade r ⊎ (r ≡ b))) m
in_unmade s b m h i = in_later s s (CrashLeavesSuch IsUnmade) (CrashLeavesSuch (λ r. IsUnmade r ⊎ (r ≡ b))) m h (λ d p image l. inl (p image l)) i

pub in_unmade_or : (s t : Standing) (a b : Recovered) (m : Standing) → ChangesStoreOnly s t → a ≡ b →
    InStore t (CrashLeavesSuch (λ r. IsUnmade r ⊎ (r ≡ a))) m → InStore s (CrashLeavesSuch (λ r. IsUnmade r ⊎ (r ≡ b))) m
in_unmade_or s t a b m h e i = in_later s t (CrashLeavesSuch (λ r. IsUnmade r ⊎ (r ≡ a))) (CrashLeavesSuch (λ r. IsUnmade r ⊎ (r ≡ b))) m
    h (λ d p image l. elim (p image l) [ inl q ↦ inl q | inr q ↦ inr (q ∙ e) ]) i

-- A digest that was found is another one, or the one that was looked for.
pub other_digest : (kept found : Bytes) (ne : Bool) → ne ≡ true → ne ≡ not (bytes_eq kept found) → kept ≢ found
other_digest kept found ne t e q = differs ne _ t e ((bytes_eq-Decides kept found).1 q)
  where
    differs : (ne b : Bool) → ne ≡ true → ne ≡ not b → b ≡ true → ⊥
    differs ne true t e q = absurd (cc (t, e))
    differs ne false t e q = absurd (cc q)

pub same_digest : (kept found : Bytes) (ne : Bool) → ne ≡ false → ne ≡ not (bytes_eq kept found) → kept ≡ found
same_digest kept found ne f e = (bytes_eq-Decides kept found).0 (same ne _ f e)
  where
    same : (ne b : Bool) → ne ≡ false → ne ≡ not b → b ≡ true
    same ne true f e = refl
    same ne false f e = absurd (cc (f, e))

-- So is one that stands for routines that were measured, or for none.
pub measured : (kept : Bytes) (ne : Bool) → ne ≡ true → ne ≡ not (bytes_eq kept (replicate DIGEST_LENGTH 0)) → kept ≢ zeros DIGEST_LENGTH
unfolding zeros
measured kept ne t e = other_digest kept (replicate DIGEST_LENGTH 0) ne t e

pub unmeasured : (kept : Bytes) (ne : Bool) → ne ≡ false → ne ≡ not (bytes_eq kept (replicate DIGEST_LENGTH 0)) → kept ≡ zeros DIGEST_LENGTH
unfolding zeros
unmeasured kept ne f e = same_digest kept (replicate DIGEST_LENGTH 0) ne f e

-- The session is kept where it was found.
pub found_keeps : (w : Slot) (digests : Digests) (room : Room) (s t : Standing) → IsAtRest s → t ≡ s →
    Introduces (slot_number w) digests s.disk.bytes →
    recover s.disk.bytes ≡ Shown digests (take state_length room.state) room.piece → KeepsSlots room s.disk.bytes →
    KeptIn (record { slot = w }) room t
found_keeps w digests room s t r e h f slots = subst (λ u. KeptIn (record { slot = w }) room u) (sym e) (record {
  rests = r;
  chosen = sym h.slot;
  shown = f ∙ ap (λ d. Shown d (take state_length room.state) room.piece) h.digests;
  slots = slots;
})

-- The states of both slots, once both were read.
pub found_slots : (w o : Slot) (bytes a b : Bytes) (one two three four : Room) (state piece : Bytes) →
    slot_number o ≡ 1 - slot_number w → two ≡ with_slot_kept w (kept_slot a) (record one { state = state; piece = piece }) →
    three ≡ record two { slot = three.slot } → four ≡ with_slot_kept o (kept_slot b) three → a ≡ slot (slot_number w) bytes →
    b ≡ slot (slot_number o) bytes → KeepsSlots four bytes
found_slots which.First which.Second bytes a b one two three four state piece n e f g h k = record {
  first = ap (λ r. r.first) g ∙ (ap (λ r. r.first) f ∙ (ap (λ r. r.first) e ∙ ap kept_slot h));
  second = ap (λ r. r.second) g ∙ ap kept_slot k;
}
found_slots which.Second which.First bytes a b one two three four state piece n e f g h k = record {
  first = ap (λ r. r.first) g ∙ ap kept_slot k;
  second = ap (λ r. r.second) g ∙ (ap (λ r. r.second) f ∙ (ap (λ r. r.second) e ∙ ap kept_slot h));
}
found_slots which.First which.First bytes a b one two three four state piece n e f g h k = absurd (omega arith)
found_slots which.Second which.Second bytes a b one two three four state piece n e f g h k = absurd (omega arith)

-- What the room shows is what it showed before the other slot was read.
pub shown_stays : (digests : Digests) (r : Recovered) (o : Slot) (kept : Option SlotState) (two three four : Room) →
    r ≡ Shown digests (take state_length two.state) two.piece → three ≡ record two { slot = three.slot } →
    four ≡ with_slot_kept o kept three → r ≡ Shown digests (take state_length four.state) four.piece
shown_stays digests r o kept two three four s e f =
    let st : four.state ≡ two.state = ap (λ x. x.state) f ∙ (state_stays o kept three ∙ ap (λ x. x.state) e) in
    let p : four.piece ≡ two.piece = ap (λ x. x.piece) f ∙ (piece_stays o kept three ∙ ap (λ x. x.piece) e) in
    s ∙ (ap (λ l. Shown digests (take state_length l) two.piece) (sym st) ∙ ap (Shown digests (take state_length four.state)) (sym p))

-- A piece is short if a state gives its length.
pub short_piece : (state piece : Bytes) → ((i : ℕ) → get_or state i 0 < 256) → piece_length state ≡ length piece → length piece ≤ PIECE_LIMIT
short_piece state piece bytes e = omega (arith, bytes PIECE_LENGTH_AT, bytes (PIECE_LENGTH_AT + 1))

-- What is laid out, once it is marked, is the session.
pub marked_session : (digests : Digests) (slots state piece : Bytes) (d : Disk) →
    d ≡ stable (made_header 0 digests ++ slots ++ slots) → slots ≡ made_slot state piece →
    made_mark ∷ drop 1 d.bytes ≡ made_session digests state piece
marked_session digests slots state piece d e f = ap (λ x. made_mark ∷ drop 1 x.bytes) e ∙ ap (λ x. made_mark ∷ drop 1 (made_header 0 digests ++ x ++ x)) f

made_slots : (digests : Digests) (state piece : Bytes) (room : Room) → room.first ≡ Some (record { records = 0; state = state }) →
    room.second ≡ Some (record { records = 0; state = state }) → AreLong digests → length state ≡ base_length →
    length piece ≤ PIECE_LIMIT → KeepsSlots room (made_session digests state piece)
made_slots digests state piece room f g n m few =
    let l : length (made_slot state piece) ≡ slot_length = length_slot state piece m few in
    let k : kept_slot (made_slot state piece) ≡ Some (record { records = 0; state = state }) =
    kept_is (made_slot state piece) 0 state (made_slot_kept state piece m) in
    record {
      first = f ∙ (sym k ∙ ap kept_slot (sym (made_slot_zero digests (made_slot state piece) (made_slot state piece) n l)));
      second = g ∙ (sym k ∙ ap kept_slot (sym (made_slot_one digests (made_slot state piece) (made_slot state piece) n l l)));
    }

-- And it is kept.
pub made_keeps : (digests : Digests) (state piece : Bytes) (room : Room) (s t : Standing) → IsAtRest t → MakesSession digests state piece s t →
    room.state ≡ state → room.piece ≡ piece → room.first ≡ Some (record { records = 0; state = state }) →
    room.second ≡ Some (record { records = 0; state = state }) → AreLong digests → length state ≡ base_length →
    length piece ≤ PIECE_LIMIT → KeptIn (record { slot = which.First }) room t
made_keeps digests state piece room s t rests made e f one two n m few = record {
  rests = rests;
  chosen = ap slot_in_use made.exact;
  shown = made.shown
      ∙ (ap (λ x. Shown x (take state_length state) piece) (sym made.digests)
      ∙ (ap (λ x. Shown (kept_digests t.disk.bytes) (take state_length x) piece) (sym e)
      ∙ ap (Shown (kept_digests t.disk.bytes) (take state_length room.state)) (sym f)));
  slots = subst (KeepsSlots room) (sym made.exact) (made_slots digests state piece room one two n m few);
}
