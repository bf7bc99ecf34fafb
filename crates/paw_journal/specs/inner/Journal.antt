-- What the calls of a journal answer, and what they leave: words that contracts between crates and proofs use besides
-- those of specs/Journal.antt.
use Rattle.std.specs.Prelude.{◌≡◌, ◌≢◌, Option, Some, None, Result, Ok, Err, IsSome}
use Rattle.paw_base.specs.Bytes.{Bytes, Text}
use Rattle.paw_stage.specs.declared.StageCall.{StageCall}
use Rattle.paw_stage.specs.Disk.{IsStable}
use Rattle.paw_stage.specs.Stage.{Standing}
use Rattle.paw_journal.specs.declared.journal.Journal.{Journal}
use Rattle.paw_journal.specs.declared.refusal.JournalRefusal.{JournalRefusal}
use Rattle.paw_journal.specs.declared.refusal.JournalRefusal.TheVariants as refusal
use Rattle.paw_journal.specs.Session.{Recovered, Unmade, Damaged, Shown, recover, slot_in_use, kept_digests, zeros}
use Rattle.paw_journal.specs.inner.Session.{digests_of, session_shown}
use Rattle.paw_journal.specs.inner.Room.{Room, KeepsSlots, slot_number}

-- A store is attached, and nothing is unsynced: a crash leaves just its bytes.
pub record IsAtRest (s : Standing) : Type 0 where
  pub attached : IsSome s.attached
  pub stable : IsStable s.disk

-- The attached store is at rest and holds the session of this journal, whose state and piece stand in the room beside
-- the states of both slots.
pub record KeptIn (journal : Journal) (room : Room) (s : Standing) : Type 0 where
  pub rests : IsAtRest s
  pub chosen : slot_in_use s.disk.bytes ≡ slot_number journal.slot
  pub shown : recover s.disk.bytes ≡ session_shown (kept_digests s.disk.bytes) room.state room.piece
  pub slots : KeepsSlots room s.disk.bytes

-- Why the store has no session of this game to go on with by these routines, by what its bytes stand for. A stage call
-- that failed says nothing of the store.
abbrev pub IsSessionRefused : Recovered → Bytes → Bytes → JournalRefusal → Type 0
IsSessionRefused r game rules (refusal.Unmade n mark) = r ≡ Unmade n mark
IsSessionRefused r game rules (refusal.Damaged part at) = r ≡ Damaged part at
IsSessionRefused r game rules (refusal.WrongGame kept found) =
    (routines : Bytes) × (state : Bytes) × (piece : Text) × (r ≡ Shown (digests_of kept routines) state piece)
    × (kept ≢ game) × (found ≡ game)
IsSessionRefused r game rules (refusal.WrongRoutines kept found) =
    (state : Bytes) × (piece : Text) × (r ≡ Shown (digests_of game kept) state piece)
    × (kept ≢ zeros 32) × (kept ≢ rules) × (found ≡ rules)
IsSessionRefused r game rules (refusal.Outside c) = Unit {0}

-- The stage call that failed, by what a call answers.
abbrev pub failed_stage_call : {A : Type 0} → Result A StageCall → Option StageCall
failed_stage_call (Ok answer) = None
failed_stage_call (Err c) = Some c

-- The stage call that failed, if that is why a store gives no session.
abbrev pub outside : JournalRefusal → Option StageCall
outside (refusal.Outside c) = Some c
outside (refusal.Unmade n mark) = None
outside (refusal.Damaged part at) = None
outside (refusal.WrongGame kept found) = None
outside (refusal.WrongRoutines kept found) = None

-- The stage call that failed, by what a call that may refuse the store answers.
abbrev pub refused_call : {A : Type 0} → Result A JournalRefusal → Option StageCall
refused_call (Ok answer) = None
refused_call (Err e) = outside e
