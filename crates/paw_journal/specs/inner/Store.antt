-- Calls that move the attached store alone.
use Rattle.std.specs.Prelude.{◌≡◌, ◌≢◌, ◌⊎◌, ℕ, ◌-◌, ◌++◌, length, Some}
use Rattle.paw_base.specs.Bytes.{Bytes, Name, Text}
use Rattle.paw_stage.specs.Disk.{Disk, MayLeave, put_at, stable}
use Rattle.paw_stage.specs.Stage.{Standing, file_bytes, with_store_opened, with_written, InWrite, InSync}
use Rattle.paw_journal.specs.declared.layout.Slot.{Slot}
use Rattle.paw_journal.specs.declared.store.Attached.{Attached}
use Rattle.paw_journal.specs.Session.{Digests, Recovered, IsUnmade, recover, recover_by, kept_digests}
use Rattle.paw_journal.specs.inner.Session.{session_shown, with_made_mark}
use Rattle.paw_journal.specs.inner.Room.{slot_number}

-- All but the attached store stands as it did. Where its file held the bytes of the store, it still does.
pub record ChangesStoreOnly (old new : Standing) : Type 0 where
  pub lines : new.lines ≡ old.lines
  pub asked : new.asked ≡ old.asked
  pub shown : new.shown ≡ old.shown
  pub attached : new.attached ≡ old.attached
  pub files : (n : Name) → old.attached ≢ Some n → new.files n ≡ old.files n
  pub file : (n : Name) → old.attached ≡ Some n → old.files n ≡ Some old.disk.bytes →
      new.files n ≡ Some new.disk.bytes

-- At a moment inside a call that moves the attached store alone, all else is as it was, and this holds of the disk.
pub record InStore (old : Standing) (Inside : Disk → Type 0) (m : Standing) : Type 0 where
  pub asked : m.asked ≡ old.asked
  pub shown : m.shown ≡ old.shown
  pub attached : m.attached ≡ old.attached
  pub files : (n : Name) → old.attached ≢ Some n → m.files n ≡ old.files n
  pub disk : Inside m.disk

-- Whatever a crash leaves of the disk stands for such a session.
abbrev pub CrashLeavesSuch : (Recovered → Type 0) → Disk → Type 0
CrashLeavesSuch Such d = (image : Bytes) → MayLeave d image → Such (recover image)

-- What the store stands for if it chooses this slot.
abbrev pub shown_by : ℕ → Standing → Recovered
shown_by k s = recover_by k s.disk.bytes

-- What is recovered is one of these two.
abbrev pub IsOldOrNew : Recovered → Recovered → Recovered → Type 0
IsOldOrNew old new r = (r ≡ old) ⊎ (r ≡ new)

-- What is recovered is no session, or this one.
abbrev pub IsUnmadeOr : Recovered → Recovered → Type 0
IsUnmadeOr made r = IsUnmade r ⊎ (r ≡ made)

-- What attaching the store of this name did, which then has this length.
abbrev pub Opens : Standing → Standing → Name → Attached → Type 0
Opens old new name at = (at.length ≡ length (file_bytes old name)) × (new ≡ with_store_opened name old)

-- The store holds these bytes, and a crash leaves just these.
abbrev pub HoldsStable : Bytes → Standing → Type 0
HoldsStable bytes s = s.disk ≡ stable bytes

-- The store has these bytes from an offset on, and is otherwise as it was, and a crash leaves just that.
abbrev pub HoldsPut : ℕ → Bytes → Standing → Standing → Type 0
HoldsPut at bytes old new = HoldsStable (put_at at bytes old.disk.bytes) new

-- Both slots were written with these bytes, after all that stood.
abbrev pub LaysSlots : Bytes → Standing → Standing → Type 0
LaysSlots bytes old new = HoldsStable (old.disk.bytes ++ bytes ++ bytes) new

-- ---- at a moment inside a call that moves the attached store alone ----

-- These bytes are being written from an offset on, or all of them were and are made to last.
abbrev pub InWriteAndSync : ℕ → Bytes → Standing → Standing → Type 0
InWriteAndSync at bytes old m = InWrite old at (length bytes) m ⊎ InSync (with_written at bytes old) m

-- A crash leaves no session.
abbrev pub LeavesUnmade : Standing → Standing → Type 0
LeavesUnmade old m = InStore old (CrashLeavesSuch IsUnmade) m

-- A crash leaves no session, or one that shows this.
abbrev pub LeavesUnmadeOr : Recovered → Standing → Standing → Type 0
LeavesUnmadeOr made old m = InStore old (CrashLeavesSuch (IsUnmadeOr made)) m

-- A crash leaves no session, or the one that is made with these digests, this state and this piece.
abbrev pub LeavesMade : Digests → Bytes → Text → Standing → Standing → Type 0
LeavesMade digests state piece old m = LeavesUnmadeOr (session_shown digests state piece) old m

-- A crash leaves no session, or the one that stands there once it is marked.
abbrev pub LeavesMarked : Standing → Standing → Type 0
LeavesMarked old m = LeavesUnmadeOr (recover (with_made_mark old.disk.bytes)) old m

-- A crash leaves what the session showed before.
abbrev pub LeavesSame : Standing → Standing → Type 0
LeavesSame old m = InStore old (CrashLeavesSuch (λ r. r ≡ recover old.disk.bytes)) m

-- A crash leaves what the one slot shows, or the other.
abbrev pub LeavesSlot : Slot → Standing → Standing → Type 0
LeavesSlot which old m =
    InStore old
    (CrashLeavesSuch (IsOldOrNew (shown_by (1 - slot_number which) old) (shown_by (slot_number which) old))) m

-- A crash leaves what the session showed before, or this state and this piece, with the digests that it has.
abbrev pub LeavesOldOr : Bytes → Text → Standing → Standing → Type 0
LeavesOldOr state piece old m =
    InStore old
    (CrashLeavesSuch
    (IsOldOrNew (recover old.disk.bytes) (session_shown (kept_digests old.disk.bytes) state piece))) m
