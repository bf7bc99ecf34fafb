-- An older session of a game that never saves stands for its lines.
use Rattle.paw_play.proofs.Names.{◌≡◌, ℕ, ◌-◌, Bool, true, false, [], ◌++◌, Option, Some, None, length, take, refl, sym, ap, ◌∙◌, arith, if◌then◌else◌, nat_le, length-take-le, take_at, Bytes, GameLists, Valid, Ending, WaitsAt, Halted, reading, Digests, Damaged, Shown, recover, slot_in_use, kept_digests, slot, shown_unless, first_unsound, slot_changes, slot_state, shown_state, two_byte_number, most_changes, state_length, first_length, zeros, form_length, slot_version, base_length, shown_made, recover_is, recover_made, State, IsValidState, FitsFields, last_piece, state_at, long_state, IsKept, no_positions, EndsKeeping, readings_keep_no_position, slot_shows, slot_long, state_long, ends_in_zeros, kept_bytes, KeepsAsOlder, OlderSessionsStand}
use Rattle.paw_effects.specs.declared.act.Prompt.TheVariants as prompt
use Rattle.paw_reading.specs.declared.halt.Halt.TheVariants as halt
use Rattle.paw_journal.specs.declared.refusal.SessionPart.TheVariants as part
use Rattle.paw_play.proofs.{Going.IsSettled, Settling.reading_settles}

-- ---- what the slot in use shows ----

by_changes : (digests : Digests) (s : Bytes) (d : Digests) (st p : Bytes) (o : Option ℕ) → shown_unless digests s o ≡ Shown d st p → shown_state s ≡ st
by_changes digests s d st p None e = cc
by_changes digests s d st p (Some n) e = absurd (cc e)

by_count : (digests : Digests) (s : Bytes) (d : Digests) (st p : Bytes) (b : Bool) →
    (if b then shown_unless digests s (first_unsound (slot_changes s)) else Damaged part.Slot 0) ≡ Shown d st p → shown_state s ≡ st
by_count digests s d st p true e = by_changes digests s d st p (first_unsound (slot_changes s)) e
by_count digests s d st p false e = absurd (cc e)

by_slot : (digests : Digests) (s : Bytes) (d : Digests) (st p : Bytes) → slot_shows digests s ≡ Shown d st p → shown_state s ≡ st
unfolding slot_shows
by_slot digests s d st p e = by_count digests s d st p (nat_le (two_byte_number 0 s) most_changes) e

-- Of version 1, a slot shows its first 1,371 bytes and zeros.
shown_first : (s st : Bytes) → form_length (slot_version s) ≡ first_length → shown_state s ≡ st → length (slot_state s) ≡ base_length
    → take first_length st ++ zeros (state_length - first_length) ≡ st
shown_first s st first is n =
    let head : Bytes = take first_length (slot_state s) in
    let behind : Bytes = zeros (state_length - first_length) in
    let form : st ≡ head ++ behind = sym is ∙ ap (λ (n : ℕ). take n (slot_state s) ++ zeros (state_length - n)) first in
    let l : length head ≡ first_length = length-take-le first_length (slot_state s) (omega (arith, n)) in
    ap (λ (x : Bytes). x ++ behind) (ap (take first_length) form ∙ take_at head behind first_length l) ∙ sym form

-- So does a store whose slot in use is of version 1.
chosen_first : (bytes : Bytes) (digests : Digests) (state piece : Bytes) → form_length (slot_version (slot (slot_in_use bytes) bytes)) ≡ first_length
    → recover bytes ≡ Shown digests state piece
    → take first_length state ++ zeros (state_length - first_length) ≡ state
chosen_first bytes digests state piece first e =
    let made = shown_made bytes digests state piece e in
    let s = slot (slot_in_use bytes) bytes in
    let is : shown_state s ≡ state = by_slot (kept_digests bytes) s digests state piece
    (sym (recover_is (slot_in_use bytes) bytes refl ∙ recover_made (slot_in_use bytes) bytes made) ∙ e) in
    shown_first s state first is (state_long s (slot_long (slot_in_use bytes) bytes (omega arith) made.long))

-- ---- the state where a reading ended ----

state_same : (g : GameLists) (v : Valid g) (st : State) → IsValidState g st → FitsFields st → st.world.kept ≡ no_positions
    → (bytes : Bytes) (digests : Digests) (state piece : Bytes) → form_length (slot_version (slot (slot_in_use bytes) bytes)) ≡ first_length
    → recover bytes ≡ Shown digests state piece
    → take first_length state ≡ take first_length (kept_bytes st) → recover bytes ≡ Shown digests (kept_bytes st) piece
unfolding kept_bytes
state_same g v st keeps fits none bytes digests state piece first shown same =
    let is : state ≡ kept_bytes st = sym (chosen_first bytes digests state piece first shown)
    ∙ (ap (λ (x : Bytes). x ++ zeros (state_length - first_length)) same ∙ ends_in_zeros st (long_state g st v keeps fits) none) in
    shown ∙ ap (λ (x : Bytes). Shown digests x piece) is

ending_kept : (g : GameLists) (v : Valid g) (digests : Digests) (n : ℕ) (bytes : Bytes) (e : Ending) → IsSettled g n e → EndsKeeping no_positions e
    → KeepsAsOlder digests n e bytes → IsKept digests n e (recover bytes)
ending_kept g v digests n bytes (WaitsAt p path r) k none old = record {
  played = tt;
  shown = state_same g v (state_at n p path r) k.valid k.fits none bytes digests old.state (last_piece r.pieces) old.first old.shown old.same;
}
ending_kept g v digests n bytes (Halted halt.Over r) k none old = record {
  played = old.played;
  shown = state_same g v (state_at n prompt.Over [] r) k.valid k.fits none bytes digests old.state (last_piece r.pieces) old.first old.shown old.same;
}
ending_kept g v digests n bytes _ k none old = absurd old.played

pub older_sessions_stand : OlderSessionsStand
older_sessions_stand g seed es bytes played never old = record {
  few = old.few;
  digests = old.digests;
  belongs = old.belongs;
  keeps = ending_kept g.game played.valid.game old.digests (length es) bytes (reading g seed es)
      (reading_settles g seed es played old.few) (readings_keep_no_position g seed es never) old.keeps;
}
