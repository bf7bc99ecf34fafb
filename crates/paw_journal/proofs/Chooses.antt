-- The selector of a session, and what a crash leaves while it is written.
use Rattle.std.proofs.Common.{◌≡◌, ◌≢◌, ℕ, ◌+◌, ◌-◌, ◌*◌, ◌%◌, ◌≤◌, ◌<◌, [], ◌∷◌, length, ap, ◌∙◌, arith, get_or, refl}
use Rattle.std.proofs.Common.{◌⊎◌, inl, inr}
use Rattle.paw_base.specs.Bytes.{Bytes}
use Rattle.paw_stage.specs.Disk.{Disk, IsStable, disk_written}
use Rattle.paw_stage.specs.Stage.{Standing, with_disk}
use Rattle.paw_stage.specs.Stage.{InWrite, InSync}
use Rattle.paw_journal.specs.declared.layout.Slot.{Slot}
use Rattle.paw_journal.specs.declared.layout.Slot.TheVariants as which
use Rattle.paw_journal.specs.declared.layout.TheConstants.{GAME_AT, ROUTINES_AT, DIGEST_LENGTH}
use Rattle.paw_journal.specs.Session.{recover, recover_by, slot_in_use, kept_digests, slot, session_length, header_length}
use Rattle.paw_journal.specs.Session.{slot_length}
use Rattle.paw_journal.specs.inner.Writes.{IsWithin, chosen_session}
use Rattle.paw_journal.specs.inner.Store.{InStore, CrashLeavesSuch, IsOldOrNew, InWriteAndSync}
use Rattle.paw_journal.specs.inner.Room.{slot_number}
use Rattle.paw_journal.proofs.Parts.{put_one, put_below, put_above}
use Rattle.paw_journal.proofs.Puts.{put_long, stretch_past}
use Rattle.paw_journal.proofs.Recovers.{recover_is, recover_by_same, both_digests}
use Rattle.paw_journal.proofs.Disks.{within_long, within_same}
use Rattle.paw_journal.proofs.Moved.{IsMoved, moved_none, moved_wrote, in_moved_write, in_moved_sync}

pub slot_small : (w : Slot) → slot_number w < 2
slot_small which.First = omega arith
slot_small which.Second = omega arith

-- The selector changes nothing of what each slot shows.
pub selector_hidden : (j : ℕ) (image old : Bytes) → j < 2 → length image ≡ length old → length old ≡ session_length →
    ((i : ℕ) → i < length old → (i < 1) ⊎ (2 ≤ i) → get_or image i 0 ≡ get_or old i 0) →
    recover_by j image ≡ recover_by j old
selector_hidden j image old low n long same =
    recover_by_same j image old n
    (λ i h ne. same i (omega arith) (apart i ne))
    (λ i l h. same i (omega arith) (inr (omega arith)))
  where
    apart : (i : ℕ) → i ≢ 1 → (i < 1) ⊎ (2 ≤ i)
    apart i ne = grind arith

pub either_slot : (b k : ℕ) → k < 2 → (b % 2 ≡ 1 - k) ⊎ (b % 2 ≡ k)
either_slot b k low = grind arith

-- While the selector is written a crash leaves what one of the slots shows.
pub choosing : (k : ℕ) (old : Bytes) (d : Disk) → k < 2 → length old ≡ session_length → IsWithin 1 2 old d →
    CrashLeavesSuch (IsOldOrNew (recover_by (1 - k) old) (recover_by k old)) d
choosing k old d low long h image l =
    let n : length image ≡ length old = within_long 1 2 old image d h l in
    let same : (i : ℕ) → i < length old → (i < 1) ⊎ (2 ≤ i) → get_or image i 0 ≡ get_or old i 0 = within_same 1 2 old image d h l in
    elim (either_slot (get_or image 1 0) k low) [
      | inl e ↦ inl (recover_is (1 - k) image e ∙ selector_hidden (1 - k) image old (omega arith) n long same)
      | inr e ↦ inr (recover_is k image e ∙ selector_hidden k image old low n long same)
    ]

in_choosing : (k : ℕ) (s m : Standing) → k < 2 → length s.disk.bytes ≡ session_length → IsStable s.disk →
    InWrite s 1 1 m → InStore s (CrashLeavesSuch (IsOldOrNew (recover_by (1 - k) s.disk.bytes) (recover_by k s.disk.bytes))) m
in_choosing k s m low long h w = in_moved_write 1 2 1 1 s s _ m (moved_none 1 2 s h) (omega arith) (omega arith)
    (omega arith) (λ d i. choosing k s.disk.bytes d low long i) w

chose : (x : ℕ) (s t : Standing) (n : ℕ) → length s.disk.bytes ≡ session_length → IsStable s.disk →
    t ≡ with_disk s (disk_written 1 1 (x ∷ []) s.disk) n → IsMoved 1 2 s t
chose x s t n long h e = moved_wrote 1 2 1 1 n (x ∷ []) s s t (moved_none 1 2 s h) (omega arith) (omega arith) (omega arith) (omega arith) e

in_chosen : (k : ℕ) (s t : Standing) (m : Standing) → k < 2 → length s.disk.bytes ≡ session_length → IsMoved 1 2 s t →
    InSync t m → InStore s (CrashLeavesSuch (IsOldOrNew (recover_by (1 - k) s.disk.bytes) (recover_by k s.disk.bytes))) m
in_chosen k s t m low long h w = in_moved_sync 1 2 s t
    (IsOldOrNew (recover_by (1 - k) s.disk.bytes) (recover_by k s.disk.bytes)) m h
    (λ d i. choosing k s.disk.bytes d low long i) w

-- The selector is the slot's.
pub selector_is : (k : ℕ) (old : Bytes) → k < 2 → length old ≡ session_length → slot_in_use (chosen_session k old) ≡ k
selector_is k old low long = let h : k % 2 ≡ k = grind arith in ap (λ b. b % 2) (put_one 1 k old (omega arith)) ∙ h

-- The selector is written, and made to last.
pub in_choice : (k : ℕ) (s m : Standing) → k < 2 → length s.disk.bytes ≡ session_length → IsStable s.disk →
    InWriteAndSync 1 (k ∷ []) s m → InStore s (CrashLeavesSuch (IsOldOrNew (recover_by (1 - k) s.disk.bytes) (recover_by k s.disk.bytes))) m
in_choice k s m low long h o = elim o [
  | inl w ↦ in_choosing k s m low long h w
  | inr w ↦ in_chosen k s _ m low long (chose k s _ 1 long h refl) w
]

-- All but the selector is as it was.
pub chosen_digests : (k : ℕ) (old : Bytes) → length old ≡ session_length → kept_digests (chosen_session k old) ≡ kept_digests old
chosen_digests k old long = both_digests _ _ _ _ (stretch_past GAME_AT DIGEST_LENGTH 1 (k ∷ []) old (omega arith) (omega arith))
    (stretch_past ROUTINES_AT DIGEST_LENGTH 1 (k ∷ []) old (omega arith) (omega arith))

pub chosen_slot : (k j : ℕ) (old : Bytes) → length old ≡ session_length → slot j (chosen_session k old) ≡ slot j old
chosen_slot k j old long = stretch_past (header_length + slot_length * j) slot_length 1 (k ∷ []) old (omega arith) (omega arith)

-- And the session shows what the slot showed.
pub chosen_shown : (k : ℕ) (old : Bytes) → k < 2 → length old ≡ session_length → recover (chosen_session k old) ≡ recover_by k old
chosen_shown k old low long =
    recover_is k (chosen_session k old) (selector_is k old low long)
    ∙ selector_hidden k (chosen_session k old) old low (put_long 1 (k ∷ []) old (omega arith)) long (λ i l o. elim o [
      | inl h ↦ put_below 1 (k ∷ []) old i (omega arith) h
      | inr h ↦ put_above 1 (k ∷ []) old i (omega arith) h
    ])
