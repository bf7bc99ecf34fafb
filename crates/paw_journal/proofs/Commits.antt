-- What a commit leaves.
use Rattle.std.proofs.Common.{◌≡◌, ℕ, ◌+◌, ◌-◌, ◌*◌, ◌≤◌, ◌<◌, [], ◌∷◌, length, take, refl, sym, ap, ◌∙◌, subst}
use Rattle.std.proofs.Common.{arith}
use Rattle.std.specs.Prelude.{Option, Some, IsSome}
use Rattle.paw_base.specs.Bytes.{Bytes}
use Rattle.paw_base.specs.declared.limits.TheConstants.{PIECE_LIMIT}
use Rattle.paw_stage.specs.Disk.{put_at, stable, IsStable}
use Rattle.paw_stage.specs.Stage.{Standing}
use Rattle.paw_journal.specs.declared.journal.Journal.{Journal}
use Rattle.paw_journal.specs.declared.layout.Slot.{Slot}
use Rattle.paw_journal.specs.declared.layout.Slot.TheVariants as which
use Rattle.paw_journal.specs.declared.drafting.SlotState.{SlotState}
use Rattle.paw_journal.specs.declared.drafting.CommitDraft.{CommitDraft}
use Rattle.paw_journal.specs.Session.{Shown, recover, recover_by, slot_in_use, slot, slot_length, session_length}
use Rattle.paw_journal.specs.Session.{slot_shows, stretch, kept_digests, piece_length, state_length, session_committed}
use Rattle.paw_journal.specs.Session.{committed_in}
use Rattle.paw_journal.specs.inner.Room.{Room, kept_slot, kept_of, with_slot_kept, KeepsSlots, slot_number}
use Rattle.paw_journal.specs.inner.Written.{most_written}
use Rattle.paw_journal.specs.inner.Writes.{IsSpare, IsFilling, Drafts, start_of, written_slot, written_session}
use Rattle.paw_journal.specs.inner.Writes.{chosen_session}
use Rattle.paw_journal.specs.inner.Store.{ChangesStoreOnly}
use Rattle.paw_journal.specs.inner.Journal.{IsAtRest, KeptIn}
use Rattle.paw_journal.specs.declared.layout.TheConstants.{PIECE_AT}
use Rattle.paw_journal.specs.Session.{header_length}
use Rattle.paw_journal.proofs.Disks.{stable_is}
use Rattle.paw_journal.proofs.Puts.{put_long, rewritten_long, stretch_written}
use Rattle.paw_journal.proofs.Chooses.{slot_small}
use Rattle.paw_journal.proofs.Recovers.{recover_made, shown_made}
use Rattle.paw_journal.proofs.Kept.{IsKept, is_kept, kept_shows, written_piece}
use Rattle.paw_journal.proofs.Slots.{state_stays, piece_stays}
use Rattle.paw_journal.proofs.Fills.{filled_made, filled_digests, filling_put, slot_long}

-- What a room keeps of a slot.
pub keeps_of : (w : Slot) (room : Room) (bytes : Bytes) → KeepsSlots room bytes → kept_of w room ≡ kept_slot (slot (slot_number w) bytes)
keeps_of which.First room bytes h = h.first
keeps_of which.Second room bytes h = h.second

-- What was drafted in a buffer was drafted in what shows the buffer.
pub drafts_as : (kept : Option SlotState) (state bytes held : Bytes) (draft : CommitDraft) → held ≡ bytes →
    Drafts kept state bytes draft → Drafts kept state held draft
drafts_as kept state bytes held draft e d = subst (λ b. Drafts kept state b draft) (sym e) d

module _ (k : ℕ) (draft : CommitDraft) (kept : Option SlotState) (state bytes piece : Bytes) (s t : Standing)
    (f : IsFilling k s t) (d : Drafts kept state bytes draft) (e : kept ≡ kept_slot (slot k s.disk.bytes))
    (w : slot k t.disk.bytes ≡ written_slot draft bytes piece (slot k s.disk.bytes))
    (short : length piece ≤ PIECE_LIMIT)
  where
    long : length (slot k s.disk.bytes) ≡ slot_length
    long = slot_long k s.disk.bytes f.low f.made.long

    -- The slot has the new state.
    pub committed_kept : kept_slot (slot k t.disk.bytes) ≡ Some (record { records = draft.records; state = state })
    committed_kept = ap kept_slot w ∙ d.gives (slot k s.disk.bytes) piece long (sym e) short

    -- And shows it with the new piece.
    pub committed_shows : piece_length state ≡ length piece → recover_by k t.disk.bytes ≡ Shown (kept_digests s.disk.bytes) (take state_length state) piece
    committed_shows names =
        let h : IsKept (slot k t.disk.bytes) draft.records state = is_kept (slot k t.disk.bytes) draft.records state committed_kept in
        let p : stretch PIECE_AT (piece_length state) (slot k t.disk.bytes) ≡ piece =
        ap (λ n. stretch PIECE_AT n (slot k t.disk.bytes)) names
        ∙ (ap (stretch PIECE_AT (length piece)) w
        ∙ written_piece draft.records draft.at bytes piece (slot k s.disk.bytes) long d.inside short h.few) in
        recover_made k t.disk.bytes (filled_made k s t f)
        ∙ (ap (λ x. slot_shows x (slot k t.disk.bytes)) (filled_digests k s t f)
        ∙ (kept_shows (kept_digests s.disk.bytes) (slot k t.disk.bytes) draft.records state h
        ∙ ap (Shown (kept_digests s.disk.bytes) (take state_length state)) p))

-- ---- the bytes that it leaves ----

-- The slot that isn't in use is spare.
pub spare_of : (journal : Journal) (room : Room) (s : Standing) (w : Slot) → KeptIn journal room s →
    slot_number w ≡ 1 - slot_number journal.slot → IsSpare (slot_number w) s.disk.bytes
spare_of journal room s w h e = record {
  made = shown_made _ _ _ _ h.shown;
  other = omega (arith, h.chosen, e, slot_small journal.slot);
}

-- A store that was written and synced is at rest.
pub rests_on : (bytes : Bytes) (s t : Standing) → IsAtRest s → ChangesStoreOnly s t → t.disk ≡ stable bytes → IsAtRest t
rests_on bytes s t h b e = record {
  attached = subst (λ a. IsSome a) (sym b.attached) h.attached;
  stable = subst (λ d. IsStable d) (sym e) (stable_is bytes);
}

module _ (w : Slot) (draft : CommitDraft) (kept : Option SlotState) (state bytes piece : Bytes) (s t : Standing)
    (spare : IsSpare (slot_number w) s.disk.bytes) (d : Drafts kept state bytes draft)
    (short : length piece ≤ PIECE_LIMIT)
    (e : t.disk ≡ stable (written_session (slot_number w) draft bytes piece s.disk.bytes))
  where
    slot_as : length (written_slot draft bytes piece (slot (slot_number w) s.disk.bytes)) ≡ slot_length
    slot_as = rewritten_long draft.at draft.records bytes piece (slot (slot_number w) s.disk.bytes) d.inside short
        (slot_long (slot_number w) s.disk.bytes (slot_small w) spare.made.long)

    pub written_filling : ChangesStoreOnly s t → IsFilling (slot_number w) s t
    written_filling b = filling_put (slot_number w) (written_slot draft bytes piece (slot (slot_number w) s.disk.bytes)) s t (slot_small w) spare b slot_as e

    pub written_in : slot (slot_number w) t.disk.bytes ≡ written_slot draft bytes piece (slot (slot_number w) s.disk.bytes)
    written_in =
        let new : Bytes = written_slot draft bytes piece (slot (slot_number w) s.disk.bytes) in
        ap (λ y. slot (slot_number w) y.bytes) e
        ∙ (ap (λ n. stretch (start_of (slot_number w)) n (put_at (start_of (slot_number w)) new s.disk.bytes)) (sym slot_as)
        ∙ stretch_written (start_of (slot_number w)) new s.disk.bytes (low (slot_number w) (length s.disk.bytes) (slot_small w) spare.made.long))
      where
        low : (k n : ℕ) → k < 2 → n ≡ session_length → header_length + slot_length * k ≤ n
        low k n h long = omega arith

    pub written_long : length t.disk.bytes ≡ session_length
    written_long =
        let new : Bytes = written_slot draft bytes piece (slot (slot_number w) s.disk.bytes) in
        ap (λ y. length y.bytes) e
        ∙ (put_long (start_of (slot_number w)) new s.disk.bytes (fits (slot_number w) (length new) (length s.disk.bytes) (slot_small w) slot_as spare.made.long)
        ∙ spare.made.long)
      where
        fits : (k m n : ℕ) → k < 2 → m ≡ slot_length → n ≡ session_length → header_length + slot_length * k + m ≤ n
        fits k m n h l long = omega arith

-- Once that slot is chosen, all is as a commit leaves it.
pub committed_exact : (w used : Slot) (draft : CommitDraft) (kept : Option SlotState) (state bytes piece : Bytes) (s t u : Standing) →
    Drafts kept state bytes draft → kept ≡ kept_slot (slot (slot_number w) s.disk.bytes) →
    slot_number w ≡ 1 - slot_number used → slot_in_use s.disk.bytes ≡ slot_number used →
    t.disk ≡ stable (written_session (slot_number w) draft bytes piece s.disk.bytes) →
    u.disk ≡ stable (chosen_session (slot_number w) t.disk.bytes) → u.disk.bytes ≡ session_committed state piece s.disk.bytes
unfolding session_committed committed_in
committed_exact w used draft kept state bytes piece s t u d e o c p q =
    let k : ℕ = slot_number w in
    let old : Bytes = s.disk.bytes in
    let n : slot_number w ≡ 1 - slot_in_use s.disk.bytes = o ∙ ap (λ i. 1 - i) (sym c) in
    ap (λ y. y.bytes) q
    ∙ (ap (λ y. put_at 1 (k ∷ []) y.bytes) p
    ∙ (ap (λ x. put_at 1 (k ∷ []) (put_at (start_of k) x old)) (d.exact (slot k old) piece (sym e))
    ∙ ap (λ i. committed_in i state piece old) n))

-- The states of both slots afterwards.
pub committed_slots : (w : Slot) (x : Option SlotState) (old now : Room) (a b c : Bytes) → KeepsSlots old a →
    now.first ≡ (with_slot_kept w x old).first → now.second ≡ (with_slot_kept w x old).second →
    slot (1 - slot_number w) b ≡ slot (1 - slot_number w) a → kept_slot (slot (slot_number w) b) ≡ x →
    ((k : ℕ) → k < 2 → slot k c ≡ slot k b) → KeepsSlots now c
committed_slots which.First x old now a b c h f g o n same = record {
  first = f ∙ (sym n ∙ ap kept_slot (sym (same 0 (omega arith))));
  second = g ∙ (h.second ∙ (ap kept_slot (sym o) ∙ ap kept_slot (sym (same 1 (omega arith)))));
}
committed_slots which.Second x old now a b c h f g o n same = record {
  first = f ∙ (h.first ∙ (ap kept_slot (sym o) ∙ ap kept_slot (sym (same 0 (omega arith)))));
  second = g ∙ (sym n ∙ ap kept_slot (sym (same 1 (omega arith))));
}

-- How much it wrote.
pub committed_few : (w : Slot) (k : ℕ) (room : Room) (old bytes state piece : Bytes) (draft : CommitDraft) →
    KeepsSlots room old → slot_number w ≡ k → Drafts (kept_of w room) state bytes draft →
    length bytes + length piece + 4 ≤ most_written (kept_slot (slot k old)) state piece
committed_few w k room old bytes state piece draft h e d =
    let f : kept_of w room ≡ kept_slot (slot k old) = keeps_of w room old h ∙ ap (λ j. kept_slot (slot j old)) e in
    rw (← f) (d.few piece)

pub committed_part : (old now bytes piece most : ℕ) → now ≤ old + (bytes + piece + 3) → bytes + piece + 4 ≤ most → now ≤ old + most
committed_part old now bytes piece most h k = omega arith

pub committed_all : (old mid now bytes piece most : ℕ) → mid ≤ old + (bytes + piece + 3) → now ≤ mid + 1 → bytes + piece + 4 ≤ most → now ≤ old + most
committed_all old mid now bytes piece most h j k = omega arith

-- The session is kept once it is committed.
same_first : (w : Slot) (x : Option SlotState) (a b : Room) → a.first ≡ b.first → (with_slot_kept w x a).first ≡ (with_slot_kept w x b).first
same_first which.First x a b e = refl
same_first which.Second x a b e = e

same_second : (w : Slot) (x : Option SlotState) (a b : Room) → a.second ≡ b.second → (with_slot_kept w x a).second ≡ (with_slot_kept w x b).second
same_second which.First x a b e = e
same_second which.Second x a b e = refl

pub committed_keeps : (w : Slot) (x : SlotState) (old drafted held now : Room) (state piece : Bytes)
    (s t u : Standing) → KeepsSlots old s.disk.bytes → drafted ≡ record old { slot = drafted.slot } →
    held ≡ record drafted { state = state; piece = piece } → now ≡ with_slot_kept w (Some x) held → IsAtRest u →
    slot_in_use u.disk.bytes ≡ slot_number w →
    recover u.disk.bytes ≡ Shown (kept_digests s.disk.bytes) (take state_length state) piece →
    kept_digests u.disk.bytes ≡ kept_digests s.disk.bytes →
    slot (1 - slot_number w) t.disk.bytes ≡ slot (1 - slot_number w) s.disk.bytes →
    kept_slot (slot (slot_number w) t.disk.bytes) ≡ Some x →
    ((k : ℕ) → k < 2 → slot k u.disk.bytes ≡ slot k t.disk.bytes) → KeptIn (record { slot = w }) now u
committed_keeps w x old drafted held now state piece s t u h d e f rests chooses shows digests other new same =
    let a : now.state ≡ state = ap (λ r. r.state) f ∙ (state_stays w (Some x) held ∙ ap (λ r. r.state) e) in
    let b : now.piece ≡ piece = ap (λ r. r.piece) f ∙ (piece_stays w (Some x) held ∙ ap (λ r. r.piece) e) in
    let one : held.first ≡ old.first = ap (λ r. r.first) e ∙ ap (λ r. r.first) d in
    let two : held.second ≡ old.second = ap (λ r. r.second) e ∙ ap (λ r. r.second) d in
    record {
      rests = rests;
      chosen = chooses;
      shown = shows ∙ (ap (λ y. Shown y (take state_length state) piece) (sym digests)
          ∙ (ap (λ l. Shown (kept_digests u.disk.bytes) (take state_length l) piece) (sym a)
          ∙ ap (Shown (kept_digests u.disk.bytes) (take state_length now.state)) (sym b)));
      slots = committed_slots w (Some x) old now s.disk.bytes t.disk.bytes u.disk.bytes h
          (ap (λ r. r.first) f ∙ same_first w (Some x) held old one)
          (ap (λ r. r.second) f ∙ same_second w (Some x) held old two) other new same;
    }
