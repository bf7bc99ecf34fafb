-- How playing with a session ends, what it leaves, and what stands at each moment of it.
use Rattle.std.specs.Prelude.{take, ◌-◌, ◌≡◌, ◌≢◌, ◌⊎◌, ℕ, suc, ◌<◌, ◌≤◌, [], length, None, false, Some}
use Rattle.paw_base.specs.Bytes.{Bytes, Name, Text, zeros}
use Rattle.paw_stage.specs.Stage.{Standing, Unattached, file_bytes, made_if_missing, with_store_opened}
use Rattle.paw_stage.specs.AcrossCalls.{IsOneOf}
use Rattle.paw_stage.specs.declared.StageCall.{StageCall}
use Rattle.paw_stage.specs.declared.StageCall.TheVariants as call
use Rattle.paw_base.specs.declared.limits.TheConstants.{EVENT_LIMIT}
use Rattle.paw_effects.specs.Story.{Story}
use Rattle.paw_reading.specs.Run.{Run}
use Rattle.paw_reading.specs.declared.halt.Halt.{Halt}
use Rattle.paw_reading.specs.Reading.{closes_piece}
use Rattle.paw_reading.specs.Turn.{Halted}
use Rattle.paw_journal.specs.Session.{Digests, Unmade, Damaged, Shown, recover, state_length}
use Rattle.paw_journal.specs.Journal.{writing_calls}
use Rattle.paw_journal.specs.declared.refusal.JournalRefusal.{JournalRefusal}
use Rattle.paw_journal.specs.declared.refusal.JournalRefusal.TheVariants as refusal
use Rattle.paw_state.specs.State.{State}
use Rattle.paw_state.specs.Fit.{Fit, Unfit}
use Rattle.paw_play.specs.declared.PlayEnd.{PlayEnd}
use Rattle.paw_play.specs.declared.PlayEnd.TheVariants as end
use Rattle.paw_play.specs.Walk.{end_halt, EndingOf, text_for, with_lines_taken, Walks}
use Rattle.paw_play.specs.Session.{story_digests, IsOfStory}
use Rattle.paw_play.specs.Played.{PlayedSession, from_state, ShowsState}
use Rattle.paw_play.specs.Keeping.{StaysAttached, LeavesStore}

-- ---- taking lines ----

-- What stood before, with the store and the files as they stand now.
abbrev pub with_store : Standing → Standing → Standing
with_store now old = record old { files = now.files; attached = now.attached; disk = now.disk; written = now.written }

-- A line was taken whose commit failed; nothing of its piece was shown.
abbrev pub Uncommitted : EndingOf → ℕ → Standing → Standing → Type 0
Uncommitted whole most old new =
    (n : ℕ) × (n < most) × (suc n ≤ length old.lines)
    × (new ≡ with_lines_taken (with_store new old) (suc n) (text_for whole old.lines n))

-- The lines that were taken and the text that was shown, by how playing on ended: as for a walk, except that a commit
-- may fail, and that memory is never lacking.
abbrev pub ShowsAs : EndingOf → ℕ → Standing → Standing → PlayEnd → Type 0
ShowsAs whole most old new (end.Outside call.Write) = Uncommitted whole most old new
ShowsAs whole most old new (end.Outside call.Sync) = Uncommitted whole most old new
ShowsAs whole most old new end.Memory = ⊥
ShowsAs whole most old new o = Walks whole most (with_store new old) new o

-- How playing the session on ends, and what it leaves, with at most this many lines more.
pub record PlaysOn (s : PlayedSession) (most : ℕ) (old new : Standing) (o : PlayEnd) : Type 0 where
  pub shows : ShowsAs s.whole most old new o
  pub session : LeavesStore s old new o

-- ---- a store from its attach on ----

-- The bytes of the store of this name.
abbrev pub store_bytes : Standing → Name → Bytes
store_bytes s name = file_bytes s name

-- What stands once the store of this name is attached.
abbrev pub attached_to : Standing → Name → Standing
attached_to old name = with_store_opened name old

-- A moment at which the store isn't attached yet: nothing was asked or shown, and no file has changed, except that the
-- store's file may be there now, empty.
pub record NotYet (name : Name) (old m : Standing) : Type 0 where
  pub asked : m.asked ≡ old.asked
  pub shown : m.shown ≡ old.shown
  pub files : (m.files ≡ old.files) ⊎ (m.files ≡ made_if_missing name (old.files name) old.files)
  pub store : ((m.attached ≡ old.attached) × (m.disk ≡ old.disk)) ⊎ (m.attached ≡ None)

-- ---- a new session ----

-- How making a new session in the attached store, which is empty, and playing it ends, and what that leaves.
pub data MadeAndPlayed (s : PlayedSession) (old new : Standing) : PlayEnd → Type 0 where
  memory : new ≡ old → MadeAndPlayed s old new end.Memory
  -- Play ended before the piece before the first line was closed: no session is made.
  halts : (o : PlayEnd) (halt : Halt) (r : Run) → end_halt o ≡ Some halt → closes_piece halt ≡ false →
      s.whole [] ≡ Halted halt r → new ≡ old → MadeAndPlayed s old new o
  -- The session couldn't be made; nothing was asked or shown, and no other file has changed.
  unmade : (c : StageCall) → IsOneOf writing_calls c → new ≡ with_store new old → StaysAttached s.name old new →
      MadeAndPlayed s old new (end.Outside c)
  plays : (o : PlayEnd) → PlaysOn s EVENT_LIMIT old new o → MadeAndPlayed s old new o

-- How a new session ends, and what it leaves.
pub data NewSession (s : PlayedSession) (old new : Standing) : PlayEnd → Type 0 where
  unattached : Unattached old new → NewSession s old new (end.Outside call.Attach)
  -- The store has bytes already.
  occupied : 0 < length (store_bytes old s.name) → new ≡ attached_to old s.name →
      NewSession s old new (end.Occupied (length (store_bytes old s.name)))
  -- The store is empty: the session is made in it and played.
  starts_play : (o : PlayEnd) → store_bytes old s.name ≡ [] → MadeAndPlayed s (attached_to old s.name) new o →
      NewSession s old new o

-- ---- a session that is resumed ----

-- How a session that goes on from the bytes of its store ends once it is resumed, and what it leaves. It is never
-- refused: its last piece is shown again, and it is played on.
pub data GoesOn (s : PlayedSession) (old new : Standing) : PlayEnd → Type 0 where
  unattached : Unattached old new → GoesOn s old new (end.Outside call.Attach)
  unread : new ≡ attached_to old s.name → GoesOn s old new (end.Outside call.Read)
  memory : new ≡ attached_to old s.name → GoesOn s old new end.Memory
  plays : (o : PlayEnd) → PlaysOn s (EVENT_LIMIT - s.before) (attached_to old s.name) new o → GoesOn s old new o

-- Why bytes of a store give no session of a story with these digests. Where both the game and the routines are others,
-- it is the game that is named.
abbrev pub Refuses : Digests → Bytes → JournalRefusal → Type 0
Refuses own bytes (refusal.Unmade n mark) = recover bytes ≡ Unmade n mark
Refuses own bytes (refusal.Damaged part at) = recover bytes ≡ Damaged part at
Refuses own bytes (refusal.WrongGame kept found) =
    (d : Digests) × (state : Bytes) × (piece : Text) × (recover bytes ≡ Shown d state piece)
    × (kept ≡ d.game) × (kept ≢ own.game) × (found ≡ own.game)
Refuses own bytes (refusal.WrongRoutines kept found) =
    (d : Digests) × (state : Bytes) × (piece : Text) × (recover bytes ≡ Shown d state piece) × (d.game ≡ own.game)
    × (kept ≡ d.routines) × (kept ≢ zeros 32) × (kept ≢ own.routines) × (found ≡ own.routines)
Refuses own bytes (refusal.Outside c) = ⊥

-- How resuming the session with these digests in the attached store ends, and what it leaves. Where it shows a state of
-- the game, its piece is shown again, and it is played on.
pub data Resumed (g : Story) (digests : Digests) (name : Name) (old new : Standing) : PlayEnd → Type 0 where
  memory : new ≡ old → Resumed g digests name old new end.Memory
  -- The bytes that the session shows, with any that follow them, are no state of the game.
  no_state : (at : ℕ) (state piece : Bytes) → recover old.disk.bytes ≡ Shown digests (take state_length state) piece →
      ¬ Fit g.game state → Unfit g.game state at → new ≡ old → Resumed g digests name old new (end.State at)
  plays_on : (o : PlayEnd) (st : State) (piece : Text) → ShowsState g.game digests old.disk.bytes st piece →
      PlaysOn (from_state g st piece digests name) (EVENT_LIMIT - st.events) old new o →
      Resumed g digests name old new o

-- How resuming a session of a story ends, and what it leaves.
pub data PlaysAgain (g : Story) (name : Name) (old new : Standing) : PlayEnd → Type 0 where
  unattached : Unattached old new → PlaysAgain g name old new (end.Outside call.Attach)
  unread : new ≡ attached_to old name → PlaysAgain g name old new (end.Outside call.Read)
  without_memory : new ≡ attached_to old name → PlaysAgain g name old new end.Memory
  -- The store has no session of this story.
  refused : (r : JournalRefusal) → Refuses (story_digests g) (store_bytes old name) r → new ≡ attached_to old name →
      PlaysAgain g name old new (end.Refused r)
  resumes_play : (o : PlayEnd) (digests : Digests) → IsOfStory g digests →
      Resumed g digests name (attached_to old name) new o → PlaysAgain g name old new o
