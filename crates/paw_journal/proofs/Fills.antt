-- The slot that isn't in use, and what a crash leaves while it is written.
use Rattle.std.proofs.Common.{◌≡◌, ℕ, ◌+◌, ◌-◌, ◌*◌, ◌%◌, ◌≤◌, ◌<◌, length, refl, sym, ap, subst, ◌∙◌, arith}
use Rattle.std.proofs.Common.{get_or, ◌⊎◌, inl}
use Rattle.std.specs.Prelude.{Result, Ok}
use Rattle.paw_base.specs.Bytes.{Bytes}
use Rattle.paw_stage.specs.declared.Stage.{Ghosts}
use Rattle.paw_stage.specs.declared.StageCall.{StageCall}
use Rattle.paw_stage.specs.Disk.{Disk, put_at, stable, IsStable, disk_written}
use Rattle.paw_stage.specs.Stage.{Standing, with_disk}
use Rattle.paw_stage.specs.Stage.{InWrite, InSync}
use Rattle.paw_journal.specs.Session.{recover, recover_by, is_version, slot, slot_in_use, kept_digests, session_length}
use Rattle.paw_journal.specs.Session.{header_length, slot_length}
use Rattle.paw_journal.specs.declared.layout.Slot.{Slot}
use Rattle.paw_journal.specs.inner.Room.{slot_number}
use Rattle.paw_journal.specs.inner.Store.{ChangesStoreOnly, InStore, CrashLeavesSuch}
use Rattle.paw_journal.specs.inner.Writes.{IsMade, IsSpare, IsWithin, IsFilling, FillsPart, LeavesFirst, start_of}
use Rattle.paw_journal.specs.inner.Calls.{WritesStore}
use Rattle.paw_journal.proofs.Parts.{stretch_same}
use Rattle.paw_journal.proofs.Puts.{stretch_put, stretch_long, put_nothing, put_between}
use Rattle.paw_journal.proofs.Recovers.{recover_is, recover_by_same, same_digests}
use Rattle.paw_journal.proofs.Disks.{within_stable, within_long, within_same, put_within}
use Rattle.paw_journal.proofs.Calls.{writes_then}
use Rattle.paw_journal.proofs.Moved.{IsMoved, beside_none, moved_wrote, in_moved_write, in_moved_sync}

-- Writing one slot changes nothing of what the other shows.
pub slot_hidden : (k j : ℕ) (image old : Bytes) → k < 2 → j ≡ 1 - k → length image ≡ length old →
    length old ≡ session_length → ((i : ℕ) → i < length old →
    (i < header_length + slot_length * k) ⊎ (header_length + slot_length * k + slot_length ≤ i) →
    get_or image i 0 ≡ get_or old i 0) → recover_by j image ≡ recover_by j old
slot_hidden k j image old low e n long same =
    recover_by_same j image old n
    (λ i h ne. same i (omega arith) (inl (omega arith)))
    (λ i l h. same i (omega arith) (apart i l h))
  where
    apart : (i : ℕ) → header_length + slot_length * j ≤ i → i < header_length + slot_length * j + slot_length →
        (i < header_length + slot_length * k) ⊎ (header_length + slot_length * k + slot_length ≤ i)
    apart i l h = grind arith

-- While the other slot is written a crash leaves what was shown before.
pub filling : (k : ℕ) (old : Bytes) (d : Disk) → k < 2 → length old ≡ session_length → slot_in_use old ≡ 1 - k →
    IsWithin (header_length + slot_length * k) (header_length + slot_length * k + slot_length) old d →
    CrashLeavesSuch (λ r. r ≡ recover old) d
filling k old d low long other h image l =
    let n : length image ≡ length old = within_long _ _ old image d h l in
    let e : slot_in_use image ≡ 1 - k = ap (λ b. b % 2) (within_same _ _ old image d h l 1 (omega arith) (inl (omega arith))) ∙ other in
    recover_is (1 - k) image e ∙ (slot_hidden k (1 - k) image old low refl n long (within_same _ _ old image d h l) ∙ sym (recover_is (1 - k) old other))

-- ---- a slot that is being written ----

pub filling_none : (k : ℕ) (s : Standing) → k < 2 → IsStable s.disk → IsMade s.disk.bytes → slot_in_use s.disk.bytes ≡ 1 - k → IsFilling k s s
filling_none k s low h made other = record { low = low; made = made; other = other; beside = beside_none s; within = within_stable _ _ s.disk h }

moved : (k : ℕ) (s t : Standing) → IsFilling k s t → IsMoved (header_length + slot_length * k) (header_length + slot_length * k + slot_length) s t
moved k s t h = record { beside = h.beside; within = h.within }

pub filling_wrote : (k at a : ℕ) (new : Bytes) (s t u : Standing) → IsFilling k s t →
    at ≡ header_length + slot_length * k + a → a + length new ≤ slot_length →
    u ≡ with_disk t (disk_written at (length new) new t.disk) (length new) → IsFilling k s u
filling_wrote k at a new s t u h e fits w =
    let l = h.low in
    let b = h.made.long in
    let m = moved_wrote _ _ at (length new) (length new) new s t u (moved k s t h) (omega arith) (omega arith) (omega arith) (omega arith) w in
    record { low = h.low; made = h.made; other = h.other; beside = m.beside; within = m.within }

pub in_filling_write : (k at a n : ℕ) (s t : Standing) (m : Standing) → IsFilling k s t →
    at ≡ header_length + slot_length * k + a → a + n ≤ slot_length → InWrite t at n m →
    InStore s (CrashLeavesSuch (λ r. r ≡ recover s.disk.bytes)) m
in_filling_write k at a n s t m h e fits w =
    let l = h.low in
    let b = h.made.long in
    in_moved_write _ _ at n s t (CrashLeavesSuch (λ r. r ≡ recover s.disk.bytes)) m (moved k s t h) (omega arith) (omega arith)
    (omega arith) (λ d i. filling k s.disk.bytes d h.low h.made.long h.other i) w

pub in_filling_sync : (k : ℕ) (s t : Standing) (m : Standing) → IsFilling k s t → InSync t m → InStore s (CrashLeavesSuch (λ r. r ≡ recover s.disk.bytes)) m
in_filling_sync k s t m h w = in_moved_sync _ _ s t (λ r. r ≡ recover s.disk.bytes) m (moved k s t h)
    (λ d i. filling k s.disk.bytes d h.low h.made.long h.other i) w

-- Something is written to such a slot, and then more.
pub parts_then : {S A B : Type 0} {g : Ghosts S} {x : A} {result : Result B StageCall} {which : Slot} {one two : Bytes → Bytes}
    {old mid new : S} → WritesStore g (Ok x) (FillsPart which one) (LeavesFirst (slot_number which)) old mid →
    WritesStore g result (FillsPart which two) (LeavesFirst (slot_number which)) mid new →
    WritesStore g result (FillsPart which (λ b. two (one b))) (LeavesFirst (slot_number which)) old new
parts_then {two = two} h k =
    writes_then h k
    (λ tells p q. record { filling = λ first f. q.filling first (p.filling first f); written = q.written ∙ ap two p.written })
    (λ tells m i. i) (λ tells p b m i first f. i first (p.filling first f))

-- The bytes of the slot itself.
pub wrote_slot : (k at a : ℕ) (new : Bytes) (t u : Standing) → k < 2 → length t.disk.bytes ≡ session_length →
    at ≡ header_length + slot_length * k + a → a + length new ≤ slot_length →
    u ≡ with_disk t (disk_written at (length new) new t.disk) (length new) →
    slot k u.disk.bytes ≡ put_at a new (slot k t.disk.bytes)
wrote_slot k at a new t u low long e fits w =
    ap (λ x. slot k x.disk.bytes) w
    ∙ (ap (λ i. slot k (put_at i new t.disk.bytes)) e
    ∙ stretch_put (header_length + slot_length * k) slot_length a new t.disk.bytes fits (omega arith))

pub slot_long : (k : ℕ) (bytes : Bytes) → k < 2 → length bytes ≡ session_length → length (slot k bytes) ≡ slot_length
slot_long k bytes low long = stretch_long (header_length + slot_length * k) slot_length bytes (omega arith)

pub wrote_nothing : (k at : ℕ) (new bytes : Bytes) → k < 2 → length bytes ≡ session_length → length new ≡ 0 →
    at + length new ≤ slot_length → slot k bytes ≡ put_at at new (slot k bytes)
wrote_nothing k at new bytes low long none fits = put_nothing at new (slot k bytes) none (omega (arith, slot_long k bytes low long))

-- ---- what stands once it is written ----

-- The slot alone was written.
pub filled_bytes : (k : ℕ) (new : Bytes) (s t : Standing) → IsFilling k s t → length new ≡ slot_length →
    slot k t.disk.bytes ≡ new → t.disk.bytes ≡ put_at (start_of k) new s.disk.bytes
filled_bytes k new s t h l e =
    put_between (start_of k) slot_length new s.disk.bytes t.disk.bytes l (fits k (length s.disk.bytes) h.low h.made.long)
    h.within.long h.within.same e
  where
    fits : (k n : ℕ) → k < 2 → n ≡ session_length → header_length + slot_length * k + slot_length ≤ n
    fits k n low long = omega arith

pub filled_stable : (k : ℕ) (new : Bytes) (s t u : Standing) → IsFilling k s t → length new ≡ slot_length →
    slot k t.disk.bytes ≡ new → u ≡ record t { disk = stable t.disk.bytes } →
    u.disk ≡ stable (put_at (start_of k) new s.disk.bytes)
filled_stable k new s t u h l e q = ap (λ x. x.disk) q ∙ ap stable (filled_bytes k new s t h l e)

-- And so the session is being filled, where nothing is unsynced.
pub filling_put : (k : ℕ) (new : Bytes) (s t : Standing) → k < 2 → IsSpare k s.disk.bytes → ChangesStoreOnly s t →
    length new ≡ slot_length → t.disk ≡ stable (put_at (start_of k) new s.disk.bytes) → IsFilling k s t
filling_put k new s t low spare beside l e =
    let fits : start_of k + length new ≤ length s.disk.bytes = room k (length new) (length s.disk.bytes) low l spare.made.long in
    record {
      low = low;
      made = spare.made;
      other = spare.other;
      beside = beside;
      within = subst (λ d. IsWithin (start_of k) (start_of k + slot_length) s.disk.bytes d) (sym e)
          (put_within (start_of k) slot_length new s.disk.bytes l fits);
    }
  where
    room : (k m n : ℕ) → k < 2 → m ≡ slot_length → n ≡ session_length → header_length + slot_length * k + m ≤ n
    room k m n low l long = omega arith

pub filled_made : (k : ℕ) (s t : Standing) → IsFilling k s t → IsMade t.disk.bytes
filled_made k s t h = record {
  long = h.within.long ∙ h.made.long;
  marked = h.within.same 0 (inl (omega arith)) ∙ h.made.marked;
  versioned = ap is_version (h.within.same 2 (inl (omega arith))) ∙ h.made.versioned;
}

pub filled_digests : (k : ℕ) (s t : Standing) → IsFilling k s t → kept_digests t.disk.bytes ≡ kept_digests s.disk.bytes
filled_digests k s t h = same_digests t.disk.bytes s.disk.bytes h.within.long (λ i l u. h.within.same i (inl (omega arith)))

pub filled_before : (k : ℕ) (s t : Standing) → IsFilling k s t → recover_by (1 - k) t.disk.bytes ≡ recover s.disk.bytes
filled_before k s t h =
    slot_hidden k (1 - k) t.disk.bytes s.disk.bytes h.low refl h.within.long h.made.long (λ i l p. h.within.same i p)
    ∙ sym (recover_is (1 - k) s.disk.bytes h.other)

pub filled_other : (k : ℕ) (s t : Standing) → IsFilling k s t → slot (1 - k) t.disk.bytes ≡ slot (1 - k) s.disk.bytes
filled_other k s t h =
    let low = h.low in
    stretch_same _ slot_length t.disk.bytes s.disk.bytes h.within.long (λ i l u. h.within.same i (apart k i low l u))
  where
    apart : (k i : ℕ) → k < 2 → header_length + slot_length * (1 - k) ≤ i →
        i < header_length + slot_length * (1 - k) + slot_length →
        (i < header_length + slot_length * k) ⊎ (header_length + slot_length * k + slot_length ≤ i)
    apart k i low l h = grind arith
