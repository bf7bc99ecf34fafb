-- What the store of a session keeps, moment by moment and at the end of a call. The lines are those that are left when
-- a call begins.
use Rattle.std.specs.Prelude.{◌≡◌, ◌≢◌, ◌⊎◌, ℕ, zero, suc, ◌+◌, ◌≤◌, ◌++◌, length, Some}
use Rattle.paw_base.specs.Bytes.{Bytes, Lines, Name, Text}
use Rattle.std.specs.Prelude.{MatchBool, MatchOption}
use Rattle.paw_base.specs.declared.limits.TheConstants.{EVENT_LIMIT}
use Rattle.paw_stage.specs.Disk.{MayLeave, IsStable}
use Rattle.paw_stage.specs.Stage.{Standing}
use Rattle.paw_stage.specs.declared.StageCall.TheVariants as call
use Rattle.paw_reading.specs.Reading.{closes_piece}
use Rattle.paw_journal.specs.Session.{IsUnmade, recover}
use Rattle.paw_play.specs.declared.PlayEnd.{PlayEnd}
use Rattle.paw_play.specs.declared.PlayEnd.TheVariants as end
use Rattle.paw_play.specs.Session.{IsKept}
use Rattle.paw_play.specs.Walk.{end_halt, first_lines, text_for, text_before}
use Rattle.paw_play.specs.Played.{PlayedSession}
use Rattle.paw_play.specs.Written.{bytes_before, store_bytes_after}

-- The bytes of a store keep the session's reading of the first n lines.
abbrev pub KeptBy : PlayedSession → Lines → ℕ → Bytes → Type 0
KeptBy s lines n bytes = IsKept s.digests (s.before + n) (s.whole (first_lines n lines)) (recover bytes)

-- The bytes keep n lines, and this text is a first part of the text for them.
abbrev pub AgreesWith : PlayedSession → Lines → ℕ → Text → Bytes → Type 0
AgreesWith s lines n text bytes = KeptBy s lines n bytes × ((rest : Text) × (text ++ rest ≡ text_for s.whole lines n))

-- The bytes keep the n lines that were taken, or all but the last.
abbrev pub IsUpToDateWith : PlayedSession → Lines → ℕ → Text → Bytes → Type 0
IsUpToDateWith s lines zero text bytes = AgreesWith s lines zero text bytes
IsUpToDateWith s lines (suc n) text bytes = AgreesWith s lines (suc n) text bytes ⊎ AgreesWith s lines n text bytes

-- A moment at which a session is played. Since the call began n lines were taken, and a text was shown, which begins
-- with the text for all of them but the last. Whatever a crash leaves of the store keeps all these lines, or all but
-- the last, and the text shown is a first part of the text for the lines that are kept. No other file has changed.
pub record InPlay (s : PlayedSession) (old m : Standing) : Type 0 where
  pub taken : ℕ
  pub text : Text
  pub last : Text
  pub there : taken ≤ length old.lines
  pub few : s.before + taken ≤ EVENT_LIMIT
  pub asked : m.asked ≡ old.asked + taken
  pub shown : m.shown ≡ old.shown ++ text
  pub before : text ≡ text_before s.whole old.lines taken ++ last
  pub attached : m.attached ≡ Some s.name
  pub files : (n : Name) → n ≢ s.name → m.files n ≡ old.files n
  pub leaves : (image : Bytes) → MayLeave m.disk image → IsUpToDateWith s old.lines taken text image

-- A moment at which a session is made: whatever a crash leaves of the store is no session, or keeps no lines yet.
-- Nothing was asked or shown, and no other file has changed.
pub record InMaking (s : PlayedSession) (old m : Standing) : Type 0 where
  pub asked : m.asked ≡ old.asked
  pub shown : m.shown ≡ old.shown
  pub attached : m.attached ≡ Some s.name
  pub files : (n : Name) → n ≢ s.name → m.files n ≡ old.files n
  pub leaves : (image : Bytes) → MayLeave m.disk image → IsUnmade (recover image) ⊎ KeptBy s old.lines 0 image

-- A moment of a new session once its store is attached: it is being made, or it is played.
abbrev pub InNewSession : PlayedSession → Standing → Standing → Type 0
InNewSession s old m = InMaking s old m ⊎ InPlay s old m

-- The store is attached, its file has its bytes, and no other file has changed.
pub record StaysAttached (name : Name) (old new : Standing) : Type 0 where
  pub attached : new.attached ≡ Some name
  pub file : new.files name ≡ Some new.disk.bytes
  pub others : (f : Name) → f ≢ name → new.files f ≡ old.files f

-- The store is attached and at rest: a crash leaves just its bytes, which are those of its file. They keep n lines, and
-- are what n commits make of the bytes before the first line. No other file has changed.
pub record RestsWith (s : PlayedSession) (old new : Standing) (n : ℕ) : Type 0 where
  pub there : n ≤ length old.lines
  pub few : s.before + n ≤ EVENT_LIMIT
  pub attached : new.attached ≡ Some s.name
  pub stable : IsStable new.disk
  pub file : new.files s.name ≡ Some new.disk.bytes
  pub others : (f : Name) → f ≢ s.name → new.files f ≡ old.files f
  pub keeps : KeptBy s old.lines n new.disk.bytes
  pub bytes : new.disk.bytes ≡ store_bytes_after s old.lines n (bytes_before s old.disk.bytes)

-- The store keeps all lines that were taken.
abbrev pub KeepsAll : PlayedSession → Standing → Standing → Type 0
KeepsAll s old new = (n : ℕ) × (new.asked ≡ old.asked + n) × RestsWith s old new n

-- The store keeps all lines that were taken but the last.
abbrev pub KeepsAllButLast : PlayedSession → Standing → Standing → Type 0
KeepsAllButLast s old new = (n : ℕ) × (new.asked ≡ old.asked + suc n) × RestsWith s old new n

-- What the store keeps after playing on, by how that ended. Where a commit failed its bytes aren't given here: the
-- moments of the call say what a crash leaves of them.
abbrev pub LeavesStore : PlayedSession → Standing → Standing → PlayEnd → Type 0
LeavesStore s old new end.InputEnded = KeepsAll s old new
LeavesStore s old new (end.Long events) = KeepsAll s old new
LeavesStore s old new (end.Outside call.Ask) = KeepsAll s old new
LeavesStore s old new (end.Outside call.Show) = KeepsAll s old new
LeavesStore s old new (end.Outside call.Write) = StaysAttached s.name old new
LeavesStore s old new (end.Outside call.Sync) = StaysAttached s.name old new
LeavesStore s old new o = MatchOption (end_halt o) (Unit {0}) (λ halt.
    MatchBool (closes_piece halt) (KeepsAll s old new) (KeepsAllButLast s old new))
