-- The session that is played, and the three ways in which there is one.
use Rattle.std.specs.Prelude.{◌≡◌, ℕ, [], ◌∷◌, length, take}
use Rattle.paw_base.specs.Bytes.{Bytes, Lines, Name, Seed, Text}
use Rattle.paw_game.specs.Game.{GameLists}
use Rattle.paw_effects.specs.Story.{Story}
use Rattle.paw_reading.specs.Run.{Run}
use Rattle.paw_reading.specs.Turn.{reading, going_on_from}
use Rattle.paw_journal.specs.Session.{Digests, Shown, recover}
use Rattle.paw_state.specs.State.{State, IsValidState, FitsFields}
use Rattle.paw_play.specs.Walk.{EndingOf}
use Rattle.paw_play.specs.Session.{story_digests, IsOfStory, kept_bytes}
use Rattle.paw_play.specs.Stands.{Stands, IsPlayedWith, reading_since}

-- A session that is played: the reading of its lines, the number of lines before the first of them, the digests of its
-- game and of its routines, and the name of its store.
pub record PlayedSession : Type 0 where
  pub whole : EndingOf
  pub before : ℕ
  pub digests : Digests
  pub name : Name

-- The session of a story that is begun with this seed.
abbrev pub session_begun : Story → Seed → Name → PlayedSession
session_begun g seed name = record { whole = reading g seed; before = 0; digests = story_digests g; name = name }

-- The session of a story that goes on after these lines: its reading begins with their last piece.
abbrev pub from_lines : Story → Seed → Lines → Digests → Name → PlayedSession
from_lines g seed es digests name =
    record { whole = reading_since g seed es; before = length es; digests = digests; name = name }

-- The run that goes on from a state whose last piece was this one, with these lines to come.
abbrev pub resumed_run : State → Text → Lines → Run
resumed_run st piece lines = record {
  world = st.world;
  pending = st.pending.bytes;
  earlier = st.pending.earlier;
  turning = st.frames.turning;
  current = [];
  read = [];
  pieces = piece ∷ [];
  traces = [];
  events = lines;
}

-- The reading that goes on from a state whose last piece was this one.
abbrev pub going_on : Story → State → Text → EndingOf
going_on g st piece lines = going_on_from g st.prompt (take st.frames.count st.frames.rows) (resumed_run st piece lines)

-- The session of a story that goes on from a state whose last piece was this one.
abbrev pub from_state : Story → State → Text → Digests → Name → PlayedSession
from_state g st piece digests name =
    record { whole = going_on g st piece; before = st.events; digests = digests; name = name }

-- The bytes of a store hold a session with these digests, which shows this state of the game and this piece.
pub record ShowsState (g : GameLists) (digests : Digests) (bytes : Bytes) (st : State) (piece : Text) : Type 0 where
  pub valid : IsValidState g st
  pub fits : FitsFields st
  pub shown : recover bytes ≡ Shown digests (kept_bytes st) piece

-- A session of a story goes on from these bytes of its store: from the state that they show, or after lines of the
-- story that they stand for.
pub data GoesOnFrom (g : Story) (name : Name) (bytes : Bytes) : PlayedSession → Type 0 where
  from_shown : (st : State) (piece : Text) (digests : Digests) → IsOfStory g digests →
      ShowsState g.game digests bytes st piece → GoesOnFrom g name bytes (from_state g st piece digests name)
  from_played : (seed : Seed) (es : Lines) → IsPlayedWith g seed es → (stands : Stands g seed es bytes) →
      GoesOnFrom g name bytes (from_lines g seed es stands.digests name)
