-- The laws of sessions.
use Rattle.std.specs.Prelude.{◌≡◌, ◌≢◌, ◌⊎◌, ℕ, suc, ◌+◌, ◌^◌, ◌<◌, ◌≤◌, List, [], ◌∷◌, ◌++◌, length, drop, All, Some}
use Rattle.paw_base.specs.Bytes.{Bytes, Lines, Name, Seed, Text}
use Rattle.std.specs.Prelude.{if◌then◌else◌}
use Rattle.std.specs.Option.{option_map_or}
use Rattle.paw_effects.specs.Story.{Story}
use Rattle.paw_base.specs.declared.limits.TheConstants.{EVENT_LIMIT}
use Rattle.paw_stage.specs.Disk.{MayLeave}
use Rattle.paw_stage.specs.Stage.{Standing, bytes_or_none}
use Rattle.paw_stage.specs.declared.StageCall.TheVariants as call
use Rattle.paw_effects.specs.declared.act.Prompt.{Prompt}
use Rattle.paw_effects.specs.Standing.{AreBytes}
use Rattle.paw_reading.specs.declared.frames.Frame.{Frame}
use Rattle.paw_reading.specs.Run.{Run}
use Rattle.paw_reading.specs.Reading.{closes_piece}
use Rattle.paw_reading.specs.Turn.{WaitsAt, reading, pieces_of}
use Rattle.paw_reading.specs.Bounds.{ValidStory}
use Rattle.paw_journal.specs.Session.{Digests, IsUnmade, recover}
use Rattle.paw_state.specs.State.{State, IsValidState, FitsFields}
use Rattle.paw_state.specs.State.{last_piece, state_at}
use Rattle.paw_play.specs.declared.PlayEnd.{PlayEnd}
use Rattle.paw_play.specs.declared.PlayEnd.TheVariants as end
use Rattle.paw_play.specs.Walk.{end_halt, first_lines}
use Rattle.paw_play.specs.Session.{IsOfStory}
use Rattle.paw_play.specs.Stands.{Stands, IsPlayedWith, reading_since}
use Rattle.paw_play.specs.Played.{PlayedSession, ShowsState, session_begun, from_lines, going_on}
use Rattle.paw_play.specs.Keeping.{KeptBy, InPlay, InNewSession}
use Rattle.paw_play.specs.Play.{store_bytes, NotYet, NewSession, GoesOn}

-- The bytes hold a session of the story, which shows a state of the game that follows all its rules, and a piece.
pub record ShowsSome (g : Story) (bytes : Bytes) : Type 0 where
  pub digests : Digests
  pub belongs : IsOfStory g digests
  pub state : State
  pub piece : Text
  pub shows : ShowsState g.game digests bytes state piece

-- A store that stands for some lines shows a state of the game that follows all its rules.
abbrev pub StandingShows : Type 0
StandingShows = (g : Story) (seed : Seed) (es : Lines) (bytes : Bytes) → IsPlayedWith g seed es →
    Stands g seed es bytes → ShowsSome g bytes

-- Going on from the state that such a store shows is reading on after its lines, from their last piece on.
abbrev pub StandingGoesOn : Type 0
StandingGoesOn =
    (g : Story) (seed : Seed) (es fs : Lines) (bytes : Bytes) (digests : Digests) (st : State)
    (piece : Text) → IsPlayedWith g seed es → Stands g seed es bytes → ShowsState g.game digests bytes st piece →
    (st.events ≡ length es) × (going_on g st piece fs ≡ reading_since g seed es fs)

-- Bytes that keep the first n lines of a session stand for these lines; where the session went on after others, they
-- stand for those and these.
pub record KeptLinesStand : Type 0 where
  pub first : (g : Story) (seed : Seed) (lines : Lines) (name : Name) (n : ℕ) (bytes : Bytes) →
      n ≤ length lines → n ≤ EVENT_LIMIT → KeptBy (session_begun g seed name) lines n bytes →
      Stands g seed (first_lines n lines) bytes
  pub later : (g : Story) (seed : Seed) (es lines : Lines) (digests : Digests) (name : Name) (n : ℕ)
      (bytes : Bytes) → IsOfStory g digests → n ≤ length lines → length es + n ≤ EVENT_LIMIT →
      KeptBy (from_lines g seed es digests name) lines n bytes → Stands g seed (es ++ first_lines n lines) bytes

-- ---- going on ----

-- Going on with more lines from a state of a reading, after its last piece, is reading them all. The state follows all
-- rules of the game; going on ends as the whole reading does, at the same prompt and in the same world; and the pieces
-- of the whole reading are those before, and then those that going on adds.
pub record GoesOnAsRead (g : Story) (seed : Seed) (es fs : Lines) (st : State) (piece : Text) : Type 0 where
  pub valid : IsValidState g.game st
  pub fits : FitsFields st
  pub ends : going_on g st piece fs ≡ reading_since g seed es fs
  pub pieces : pieces_of (reading g seed (es ++ fs)) ≡
      pieces_of (reading g seed es) ++ drop 1 (pieces_of (going_on g st piece fs))

-- Wherever the reading of some lines waits, going on is reading all lines, whatever lines follow.
abbrev pub GoingOnIsTheReading : Type 0
GoingOnIsTheReading =
    (g : Story) (seed : Seed) (es fs : Lines) (p : Prompt) (path : List Frame) (r : Run) →
    IsPlayedWith g seed es → length es ≤ EVENT_LIMIT → reading g seed es ≡ WaitsAt p path r →
    GoesOnAsRead g seed es fs (state_at (length es) p path r) (last_piece r.pieces)

-- ---- rounds ----

-- How a round of play stops: it is cut off at a moment, by a crash; or it ends this way, and then this stands.
pub data RoundStop : Type 0 where
  cut_at : Standing → RoundStop
  came_to : Standing → PlayEnd → RoundStop

-- A round: a session is played in the file of this name, from what stood at first until it stops; these bytes are then
-- left of the file.
pub record Round : Type 0 where
  pub name : Name
  pub old : Standing
  pub stop : RoundStop
  pub left : Bytes

-- A crash at this moment may leave these bytes of a file: where the file is the attached one, any that it may leave of
-- the store; otherwise those that the file has.
abbrev pub MayBeLeft : Name → Standing → Bytes → Type 0
MayBeLeft name m bytes = ((m.attached ≡ Some name) × MayLeave m.disk bytes)
    ⊎ ((m.attached ≢ Some name) × (bytes ≡ bytes_or_none (m.files name)))

-- A round begins over these bytes: its file has them, and a crash before it would leave no others. Its lines are bytes.
pub record BeginsOver (bytes : Bytes) (r : Round) : Type 0 where
  pub has : store_bytes r.old r.name ≡ bytes
  pub settled : (image : Bytes) → MayBeLeft r.name r.old image → image ≡ bytes
  pub lines : All AreBytes r.old.lines

-- What stands is one of these moments, and a crash then may leave of the file of this name what it has.
pub record StandsAtMoment (Inside : Standing → Type 0) (name : Name) (now : Standing) : Type 0 where
  pub moment : Inside now
  pub left : MayBeLeft name now (store_bytes now name)

-- What stands where a write or a sync of the store failed: it is one of these moments. Otherwise the store is at rest.
abbrev pub FailsAtMoment : (Standing → Type 0) → Name → Standing → PlayEnd → Type 0
FailsAtMoment Inside name new (end.Outside call.Write) = StandsAtMoment Inside name new
FailsAtMoment Inside name new (end.Outside call.Sync) = StandsAtMoment Inside name new
FailsAtMoment Inside name new o = Unit {0}

-- A round stops: it is cut off at one of these moments, where a crash may leave these bytes of the file; or it ends in
-- one of these ways, with these bytes in the file. Where a write or a sync failed, what stands is one of these moments.
abbrev pub StopsWith : (Standing → Type 0) → (Standing → PlayEnd → Type 0) → Name → Bytes → RoundStop → Type 0
StopsWith Inside Comes name left (cut_at m) = Inside m × MayBeLeft name m left
StopsWith Inside Comes name left (came_to new o) =
    Comes new o × FailsAtMoment Inside name new o × (left ≡ store_bytes new name)

-- A round is played with these moments once its store is attached, and with one of these ends.
abbrev pub PlaysUntil : (Standing → Type 0) → (Standing → PlayEnd → Type 0) → Round → Type 0
PlaysUntil Inside Comes r = StopsWith (λ m. NotYet r.name r.old m ⊎ Inside m) Comes r.name r.left r.stop

-- A round in which a session is resumed.
abbrev pub GoesOnUntil : PlayedSession → Round → Type 0
GoesOnUntil s r = PlaysUntil (InPlay s r.old) (GoesOn s r.old) r

-- The first round: the game is played from its start, over a file that is missing or empty.
abbrev pub IsFirstRound : Story → Seed → Round → Type 0
IsFirstRound g seed r = BeginsOver [] r
    × PlaysUntil (InNewSession (session_begun g seed r.name) r.old) (NewSession (session_begun g seed r.name) r.old) r

-- A later round: the session of these bytes is resumed, and goes on after whatever lines they stand for.
abbrev pub IsLaterRound : Story → Seed → Bytes → Round → Type 0
IsLaterRound g seed bytes r = BeginsOver bytes r
    × ((es : Lines) → IsPlayedWith g seed es → (stands : Stands g seed es bytes) →
    GoesOnUntil (from_lines g seed es stands.digests r.name) r)

-- Later rounds one after the other, each over what the one before left.
abbrev pub AreRounds : Story → Seed → Bytes → List Round → Type 0
AreRounds g seed bytes [] = Unit {0}
AreRounds g seed bytes (r ∷ rounds) = IsLaterRound g seed bytes r × AreRounds g seed r.left rounds

-- What the last of these rounds left.
abbrev pub left_after : Bytes → List Round → Bytes
left_after bytes [] = bytes
left_after bytes (r ∷ rounds) = left_after r.left rounds

-- How many of the lines that were taken are lost where play ended this way: the last one, where its piece wasn't
-- closed; otherwise none.
abbrev pub lines_lost : PlayEnd → ℕ
lines_lost o = option_map_or (λ halt. if closes_piece halt then 0 else 1) (end_halt o) 0

-- This number is that of all lines that were taken by then, or of all but the last.
abbrev pub AllOrAllButLast : Standing → Standing → ℕ → Type 0
AllOrAllButLast old m n = (m.asked ≡ old.asked + n) ⊎ (m.asked ≡ old.asked + suc n)

-- This number of lines of a round is kept: where it was cut off, or a write or a sync failed, all that were taken by
-- then, or all but the last; where it ended otherwise, all that were taken but those lost by that end.
abbrev pub AreKept : Standing → RoundStop → ℕ → Type 0
AreKept old (cut_at m) n = AllOrAllButLast old m n
AreKept old (came_to new (end.Outside call.Write)) n = AllOrAllButLast old new n
AreKept old (came_to new (end.Outside call.Sync)) n = AllOrAllButLast old new n
AreKept old (came_to new o) n = new.asked ≡ old.asked + n + lines_lost o

-- The lines that are kept of these rounds, one round after the other.
abbrev pub AreKeptOf : List Round → Lines → Type 0
AreKeptOf [] lines = lines ≡ []
AreKeptOf (r ∷ rounds) lines = (n : ℕ) × (more : Lines) × AreKept r.old r.stop n
    × (lines ≡ first_lines n r.old.lines ++ more) × AreKeptOf rounds more

-- After any rounds, the first of which left a session, the store stands for the lines that are kept of all of them.
abbrev pub RoundsStand : Type 0
RoundsStand =
    (g : Story) (seed : Seed) (first : Round) (rounds : List Round) → ValidStory g → seed < 2 ^ 64 →
    IsFirstRound g seed first → ¬ IsUnmade (recover first.left) → AreRounds g seed first.left rounds →
    (lines : Lines) × AreKeptOf (first ∷ rounds) lines × Stands g seed lines (left_after first.left rounds)
