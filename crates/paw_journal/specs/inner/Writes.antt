-- What the writes of a journal's calls leave.
use Rattle.std.specs.Prelude.{◌≡◌, ◌⊎◌, ℕ, ◌+◌, ◌-◌, ◌*◌, ◌<◌, ◌≤◌, [], ◌∷◌, length, slice_index, true}
use Rattle.std.specs.Prelude.{false, Option, Some, None, ◌++◌, take, drop}
use Rattle.paw_base.specs.Bytes.{Bytes, Text}
use Rattle.paw_base.specs.declared.limits.TheConstants.{PIECE_LIMIT}
use Rattle.paw_stage.specs.Disk.{Disk, is_dirty, put_at}
use Rattle.paw_stage.specs.Stage.{Standing}
use Rattle.paw_journal.specs.declared.drafting.SlotState.{SlotState}
use Rattle.paw_journal.specs.declared.drafting.CommitDraft.{CommitDraft}
use Rattle.paw_journal.specs.declared.layout.Slot.{Slot}
use Rattle.paw_journal.specs.declared.finding.Header.{Header}
use Rattle.paw_journal.specs.Session.{session_length, header_length, slot_length, made_mark, session_mark, slot_in_use}
use Rattle.paw_journal.specs.Session.{version}
use Rattle.paw_journal.specs.Session.{is_version}
use Rattle.paw_journal.specs.Session.{Digests, kept_digests, changes, with_changes, first_unsound, slot, recover}
use Rattle.paw_journal.specs.inner.Session.{digests_of, session_shown, laid_session, with_made_mark}
use Rattle.paw_journal.specs.Session.{made_session, differing, differences, differences_from, slot_rewritten}
use Rattle.paw_journal.specs.Session.{committed_slot, session_committed}
use Rattle.paw_journal.specs.inner.Room.{slot_number, kept_slot}
use Rattle.paw_journal.specs.inner.Written.{most_written}
use Rattle.paw_journal.specs.inner.Store.{ChangesStoreOnly, HoldsStable, LeavesSame}

-- A session is made of these bytes.
pub record IsMade (bytes : Bytes) : Type 0 where
  pub long : length bytes ≡ session_length
  pub marked : session_mark bytes ≡ made_mark
  pub versioned : is_version (version bytes) ≡ true

-- The store has these bytes, and no crash leaves the mark of a session: byte 0 is stable, and it is 0.
pub record IsBlank (held : Bytes) (d : Disk) : Type 0 where
  pub bytes : d.bytes ≡ held
  pub long : 1 ≤ length d.synced
  pub blank : session_mark d.bytes ≡ 0
  pub clean : is_dirty d.dirty 0 ≡ false

-- The store has these bytes, and no crash leaves the mark of a session.
abbrev pub LaysBlank : Bytes → Standing → Standing → Type 0
LaysBlank held old new = IsBlank held new.disk

-- A session is laid out with these bytes in both slots, all but its mark, and a crash leaves just that.
abbrev pub LaysSession : Digests → Bytes → Standing → Standing → Type 0
LaysSession whose bytes old new = HoldsStable (laid_session whose bytes) new

-- The session is marked as made, and a crash leaves just that.
abbrev pub MarksAsMade : Standing → Standing → Type 0
MarksAsMade old new = HoldsStable (with_made_mark old.disk.bytes) new

-- What a header says of a session that is made of these bytes: the slot in use, and whose session it is.
pub record Introduces (number : ℕ) (whose : Digests) (bytes : Bytes) : Type 0 where
  pub made : IsMade bytes
  pub slot : number ≡ slot_in_use bytes
  pub digests : whose ≡ kept_digests bytes

-- The store is as long as it was, and of its bytes only those from one offset up to another may differ.
pub record IsWithin (lo hi : ℕ) (old : Bytes) (d : Disk) : Type 0 where
  pub long : length d.bytes ≡ length old
  pub synced : length d.synced ≡ length old
  pub longest : d.longest ≡ length old
  pub same : (i : ℕ) → (i < lo) ⊎ (hi ≤ i) → slice_index d.bytes i ≡ slice_index old i
  pub clean : (i : ℕ) → (i < lo) ⊎ (hi ≤ i) → is_dirty d.dirty i ≡ false

-- The first byte of a slot in a session.
abbrev pub start_of : ℕ → ℕ
start_of k = header_length + slot_length * k

-- A session was made and at rest, and since then only this slot was written, which isn't in use.
pub record IsFilling (k : ℕ) (old new : Standing) : Type 0 where
  pub low : k < 2
  pub made : IsMade old.disk.bytes
  pub other : slot_in_use old.disk.bytes ≡ 1 - k
  pub beside : ChangesStoreOnly old new
  pub within : IsWithin (start_of k) (start_of k + slot_length) old.disk.bytes new.disk

-- A session that is being filled still is.
abbrev pub IsStillFilling : ℕ → Standing → Standing → Type 0
IsStillFilling k old new = (first : Standing) → IsFilling k first old → IsFilling k first new

-- At a moment while a session is being filled: a crash leaves what it showed before that began.
abbrev pub LeavesFirst : ℕ → Standing → Standing → Type 0
LeavesFirst k old m = (first : Standing) → IsFilling k first old → LeavesSame first m

-- A session is made of the store's bytes, and this slot isn't in use.
pub record IsSpare (k : ℕ) (bytes : Bytes) : Type 0 where
  pub made : IsMade bytes
  pub other : slot_in_use bytes ≡ 1 - k

-- A slot is what this makes of it.
abbrev pub Fills : Slot → (Bytes → Bytes) → Standing → Standing → Type 0
Fills which filled old new = slot (slot_number which) new.disk.bytes ≡ filled (slot (slot_number which) old.disk.bytes)

-- A slot is what this makes of it, and a session that is being filled there still is.
pub record FillsPart (which : Slot) (filled : Bytes → Bytes) (old new : Standing) : Type 0 where
  pub filling : IsStillFilling (slot_number which) old new
  pub written : Fills which filled old new

-- The session is of the game and of the routines that it was of.
abbrev pub SameDigests : Standing → Standing → Type 0
SameDigests old new = kept_digests new.disk.bytes ≡ kept_digests old.disk.bytes

-- The session has these digests, and shows this state and this piece.
abbrev pub ShowsIn : Digests → Bytes → Text → Standing → Type 0
ShowsIn digests state piece s = recover s.disk.bytes ≡ session_shown digests state piece

-- The session has the digests that it had, and shows this state and this piece.
abbrev pub ShowsNext : Bytes → Text → Standing → Standing → Type 0
ShowsNext state piece old new = ShowsIn (kept_digests old.disk.bytes) state piece new

-- The store holds the session as a commit of this state and this piece leaves it.
abbrev pub HoldsCommitted : Bytes → Text → Standing → Standing → Type 0
HoldsCommitted state piece old new = new.disk.bytes ≡ session_committed state piece old.disk.bytes

-- The store holds the session as it is made.
abbrev pub HoldsMade : Digests → Bytes → Text → Standing → Type 0
HoldsMade digests state piece s = s.disk.bytes ≡ made_session digests state piece

-- A session was made with these digests: the store holds it as it is made, and it shows this state and this piece.
pub record MakesSession (whose : Digests) (state : Bytes) (piece : Text) (old new : Standing) : Type 0 where
  pub exact : HoldsMade whose state piece new
  pub shown : ShowsIn whose state piece new
  pub digests : kept_digests new.disk.bytes ≡ whose

-- This state and this piece were committed: the store holds the session as a commit leaves it. It shows them, and has
-- the digests that it had.
pub record CommitsTo (state : Bytes) (piece : Text) (old new : Standing) : Type 0 where
  pub exact : HoldsCommitted state piece old new
  pub shown : ShowsNext state piece old new
  pub digests : SameDigests old new

-- The digests that a header has.
abbrev pub header_digests : Header → Digests
header_digests header = digests_of header.game header.routines

-- The header says this of a session with these bytes.
abbrev pub IsHeaderOf : Bytes → Header → Type 0
IsHeaderOf bytes header = Introduces (slot_number header.slot) (header_digests header) bytes

-- Change records that lead from one state to another, one for each offset at which they differ.
pub record ChangesInto (old new records : Bytes) : Type 0 where
  pub exact : records ≡ differences old new
  pub many : length records ≡ 4 * differing old new
  pub sound : first_unsound (changes records) ≡ None
  pub made : with_changes (changes records) old ≡ new

-- Change records that make the first i bytes of one state those of another.
pub record ChangesTo (old new : Bytes) (i : ℕ) (records : Bytes) : Type 0 where
  pub exact : records ++ differences_from i (drop i old) (drop i new) ≡ differences old new
  pub many : length records ≡ 4 * differing (take i old) (take i new)
  pub few : length records ≤ 4 * i
  pub sound : first_unsound (changes records) ≡ None
  pub made : with_changes (changes records) old ≡ take i new ++ drop i old

-- The bytes of a slot once a commit has written it.
abbrev pub written_slot : CommitDraft → Bytes → Text → Bytes → Bytes
written_slot draft bytes piece old = slot_rewritten draft.at bytes draft.records piece old

-- The bytes of a session once a commit has written this slot, and not chosen it yet.
abbrev pub written_session : ℕ → CommitDraft → Bytes → Text → Bytes → Bytes
written_session k draft bytes piece old = put_at (start_of k) (written_slot draft bytes piece (slot k old)) old

-- The bytes of a session once this slot is chosen.
abbrev pub chosen_session : ℕ → Bytes → Bytes
chosen_session k old = put_at 1 (k ∷ []) old

-- A commit has written this slot, and not chosen it yet: a crash leaves just the bytes of such a session.
abbrev pub WritesSlot : Slot → CommitDraft → Bytes → Text → Standing → Standing → Type 0
WritesSlot which draft bytes piece old new =
    HoldsStable (written_session (slot_number which) draft bytes piece old.disk.bytes) new

-- This slot is chosen, and a crash leaves just that.
abbrev pub Chooses : Slot → Standing → Standing → Type 0
Chooses which old new = HoldsStable (chosen_session (slot_number which) old.disk.bytes) new

-- What a commit writes into a slot besides its head and the piece, so that the slot is what a commit makes of it, has
-- this state, and no more bytes are written than a commit may write.
pub record Drafts (kept : Option SlotState) (state bytes : Bytes) (draft : CommitDraft) : Type 0 where
  pub inside : draft.at + length bytes ≤ slot_length
  pub exact : (old piece : Bytes) → kept_slot old ≡ kept →
      written_slot draft bytes piece old ≡ committed_slot state piece old
  pub gives : (old piece : Bytes) → length old ≡ slot_length → kept_slot old ≡ kept → length piece ≤ PIECE_LIMIT →
      kept_slot (written_slot draft bytes piece old) ≡ Some (record { records = draft.records; state = state })
  pub few : (piece : Text) → length bytes + length piece + 4 ≤ most_written kept state piece
