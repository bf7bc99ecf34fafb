-- The laws of hosting: each plays as if alone, and goes on after a crash.
use Rattle.std.specs.Prelude.{◌≡◌, ℕ, zero, suc, ◌<◌, ◌^◌, true, List, [], ◌∷◌, ◌++◌, map, take, All}
use Rattle.std.specs.Prelude.{Option, Some, None, if◌then◌else◌}
use Rattle.std.specs.Str.{bytes_eq}
use Rattle.paw_base.specs.Bytes.{Bytes, Lines, Name, Seed, Text, Texts}
use Rattle.paw_effects.specs.Story.{Story}
use Rattle.paw_effects.specs.Standing.{AreBytes}
use Rattle.paw_effects.specs.declared.act.Prompt.{Prompt}
use Rattle.paw_reading.specs.declared.frames.Frame.{Frame}
use Rattle.paw_reading.specs.Run.{Run}
use Rattle.paw_reading.specs.Turn.{WaitsAt, reading, pieces_of}
use Rattle.paw_reading.specs.Bounds.{ValidStory}
use Rattle.paw_stage.specs.Stage.{Standing, file_bytes}
use Rattle.paw_play.specs.Laws.{MayBeLeft}
use Rattle.paw_host.specs.Names.{Request, request_of, is_name, store_name}
use Rattle.paw_host.specs.Replies.{NamedSession, Absent, At, Refused, Sessions, answer, sessions_with, sessions_after}
use Rattle.paw_host.specs.Promise.{BeginsWith, InHost, MayBe, Stores}

-- ---- one name among others ----

-- What a line asks of this name, if anything, and then what comes later.
abbrev pub asked_first : Name → Option Request → List (Option Text) → List (Option Text)
asked_first name None later = later
asked_first name (Some r) later = if bytes_eq name r.name then r.text ∷ later else later

-- What these lines ask of this name, in order: each a text, or none.
unfoldable pub asked_of : Name → Lines → List (Option Text)
asked_of name [] = []
asked_of name (line ∷ lines) = asked_first name (request_of line) (asked_of name lines)

-- The answer to a line that asks something of this name, if it does, and then the later answers.
abbrev pub answered_first : Story → Seed → Sessions → Name → Option Request → Texts → Texts
answered_first g seed sessions name None later = later
answered_first g seed sessions name (Some r) later =
    if bytes_eq name r.name then (answer g seed (sessions r.name) r.text).body ∷ later else later

-- The answers to this name among the replies to these lines, in order.
unfoldable pub answered_to : Story → Seed → Sessions → Name → Lines → Texts
answered_to g seed sessions name [] = []
answered_to g seed sessions name (line ∷ lines) =
    answered_first g seed sessions name (request_of line)
    (answered_to g seed (sessions_with g seed sessions (request_of line)) name lines)

-- ---- one session alone ----

-- A session once all this was asked of it.
unfoldable pub session_after : Story → Seed → NamedSession → List (Option Text) → NamedSession
session_after g seed session [] = session
session_after g seed session (text ∷ texts) = session_after g seed (answer g seed session text).session texts

-- The answers of a session that all this is asked of, in order.
unfoldable pub answers_of : Story → Seed → NamedSession → List (Option Text) → Texts
answers_of g seed session [] = []
answers_of g seed session (text ∷ texts) =
    (answer g seed session text).body ∷ answers_of g seed (answer g seed session text).session texts

-- ---- the laws ----

-- The session and the answers of a name follow from its earlier session and from what is asked of it, and nothing else.
pub record EachPlaysAlone : Type 0 where
  pub session : (g : Story) (seed : Seed) (sessions : Sessions) (name : Name) (lines : Lines) →
      sessions_after g seed sessions lines name ≡ session_after g seed (sessions name) (asked_of name lines)
  pub answers : (g : Story) (seed : Seed) (sessions : Sessions) (name : Name) (lines : Lines) →
      answered_to g seed sessions name lines ≡ answers_of g seed (sessions name) (asked_of name lines)

-- A session that took all texts that were asked of it, and whose reading then waits, answered each with one piece of
-- that reading. One that was begun by the name alone answered with all pieces of its reading.
pub record PiecesAreAnswered : Type 0 where
  pub later : (g : Story) (seed : Seed) (es texts : Lines) (p : Prompt) (path : List Frame) (r : Run) →
      session_after g seed (At seed es) (map Some texts) ≡ At seed (es ++ texts) →
      reading g seed (es ++ texts) ≡ WaitsAt p path r →
      pieces_of (reading g seed (es ++ texts))
      ≡ pieces_of (reading g seed es) ++ answers_of g seed (At seed es) (map Some texts)
  pub first : (g : Story) (seed : Seed) (texts : Texts) (p : Prompt) (path : List Frame) (r : Run) →
      session_after g seed Absent (None ∷ map Some texts) ≡ At seed texts →
      reading g seed texts ≡ WaitsAt p path r →
      answers_of g seed Absent (None ∷ map Some texts) ≡ pieces_of (reading g seed texts)

-- ---- any file ----

-- Whatever bytes a file has, they are those of some session that may be. So hosting may be begun over any files, and
-- the bytes of one file take nothing from what is promised of the other names.
abbrev pub NoFileIsLeftOut : Type 0
NoFileIsLeftOut = (g : Story) (bytes : Bytes) → ¬ ((session : NamedSession) → MayBe g session → ¬ Stores g session bytes)

-- ---- after a crash ----

-- The first n lines without the last of them.
abbrev pub before_last : Lines → ℕ → Lines
before_last lines zero = []
before_last lines (suc n) = take n lines

-- The session was begun: it stands at lines.
abbrev pub IsBegun : NamedSession → Type 0
IsBegun (At own lines) = Unit {0}
IsBegun _ = ⊥

-- What a crash may leave of a name: its session before a line, or after it; or, where its first session was being made,
-- one that stands at no lines, or a file that is refused.
pub data AfterCrash (seed : Seed) (before after : NamedSession) : NamedSession → Type 0 where
  as_before : AfterCrash seed before after before
  as_after : AfterCrash seed before after after
  at_no_lines : before ≡ Absent → IsBegun after → AfterCrash seed before after (At seed [])
  half_made : (bytes : Bytes) → before ≡ Absent → IsBegun after → AfterCrash seed before after (Refused bytes)

-- A crash at this moment may leave the files of all names as they stand next.
abbrev pub CrashLeaves : Standing → Standing → Type 0
CrashLeaves m next = (name : Name) → is_name name ≡ true →
    MayBeLeft (store_name name) m (file_bytes next (store_name name))

-- Hosting that a crash cut off at any of its moments may be begun again over what is left: each name has a session as a
-- crash may leave it. The line that was being answered is the last one that was taken.
abbrev pub MayBeBegunAgain : Type 0
MayBeBegunAgain =
    (g : Story) (seed : Seed) (first : Sessions) (old next : Standing) (m : Standing) → ValidStory g → seed < 2 ^ 64 →
    BeginsWith g first old → (i : InHost g seed first old m) → CrashLeaves m next → All AreBytes next.lines →
    (again : Sessions) × BeginsWith g again next × ((name : Name) → is_name name ≡ true →
    AfterCrash seed (sessions_after g seed first (before_last old.lines i.taken) name)
    (sessions_after g seed first (take i.taken old.lines) name) (again name))
