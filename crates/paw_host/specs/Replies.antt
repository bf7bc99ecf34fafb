-- The replies to lines: what each player reads who plays through the host.
use Rattle.std.specs.Prelude.{ℕ, ◌+◌, Bool, true, false, nat_le, [], ◌∷◌, ◌++◌, length, codes}
use Rattle.std.specs.Prelude.{Option, Some, None, if◌then◌else◌}
use Rattle.std.specs.Str.{bytes_eq}
use Rattle.paw_base.specs.Bytes.{Bytes, Lines, Name, Seed, Text}
use Rattle.paw_base.specs.declared.limits.TheConstants.{EVENT_LIMIT}
use Rattle.paw_effects.specs.Story.{Story}
use Rattle.paw_effects.specs.declared.act.Prompt.TheVariants as prompt
use Rattle.paw_reading.specs.declared.halt.Halt.TheVariants as halt
use Rattle.paw_reading.specs.Turn.{Ending, WaitsAt, Halted, Unended, reading, pieces_of}
use Rattle.paw_state.specs.State.{State, last_piece, state_at}
use Rattle.paw_play.specs.Played.{going_on}
use Rattle.paw_host.specs.Names.{Request, request_of}

-- The session of a name: none; one of a game that was begun with this seed and stands at these lines; one that goes on
-- from this state, whose last piece was this one; or a file that is refused, with these bytes.
pub data NamedSession : Type 0 where
  Absent : NamedSession
  At : (seed : Seed) (lines : Lines) → NamedSession
  From : (state : State) (piece : Text) → NamedSession
  Refused : (bytes : Bytes) → NamedSession

-- The sessions of all names.
abbrev pub Sessions : Type 0
Sessions = Name → NamedSession

-- The sessions, once this name has this one.
abbrev pub with_named_session : Name → NamedSession → Sessions → Sessions
with_named_session name session sessions = λ n. if bytes_eq n name then session else sessions n

-- An answer: its text, and the session that there is afterwards.
pub record Answer : Type 0 where
  pub body : Text
  pub session : NamedSession

-- ---- one session ----

-- The answer of a session that goes on to where a reading ended: the last piece. Where that piece ran out of a budget,
-- or a call was too deep, the answer says so, and the session stays.
abbrev pub gone_on : NamedSession → NamedSession → Ending → Answer
gone_on old new (Halted (halt.Spent kind) r) = record { body = codes "spent"; session = old }
gone_on old new (Halted (halt.TooDeep table) r) = record { body = codes "too deep"; session = old }
gone_on old new e = record { body = last_piece (pieces_of e); session = new }

-- The answer of a game that is begun with this seed.
abbrev pub begun_answer : Story → Seed → Answer
begun_answer g seed = gone_on Absent (At seed []) (reading g seed [])

-- Whether a reading ended because the game is over.
abbrev pub is_over : Ending → Bool
is_over (Halted halt.Over r) = true
is_over _ = false

-- The answer of a session to a text, where its reading has ended this way so far, after this number of lines: one that is
-- over takes none, and neither does one that has all the lines that a session may have; any other gives the last answer.
abbrev pub unless_closed : NamedSession → Ending → ℕ → Answer → Answer
unless_closed session e count later =
    if is_over e then record { body = codes "over"; session = session }
    else if nat_le EVENT_LIMIT count then record { body = codes "full"; session = session }
    else later

-- The answer of a session that stands at these lines to a text.
abbrev pub answer_taking : Story → Seed → Lines → Text → Answer
answer_taking g seed lines text =
    unless_closed (At seed lines) (reading g seed lines) (length lines)
    (gone_on (At seed lines) (At seed (lines ++ text ∷ [])) (reading g seed (lines ++ text ∷ [])))

-- The answer of a session that stands at these lines to its name alone, which is its last piece, or to a text.
abbrev pub session_answer : Story → Seed → Lines → Option Text → Answer
session_answer g seed lines None =
    record { body = last_piece (pieces_of (reading g seed lines)); session = At seed lines }
session_answer g seed lines (Some text) = answer_taking g seed lines text

-- The session that goes on from where a reading ended, after this number of lines.
abbrev pub from_end : ℕ → Ending → NamedSession
from_end count (WaitsAt p path r) = From (state_at count p path r) (last_piece r.pieces)
from_end count (Halted halt r) = From (state_at count prompt.Over [] r) (last_piece r.pieces)
from_end count Unended = Absent

-- The answer of a session that goes on from a state to its name alone, which is its last piece, or to a text: what going
-- on from the state with the text brings. The session then goes on from where that ended.
abbrev pub answer_from : Story → State → Text → Option Text → Answer
answer_from g st piece None = record { body = piece; session = From st piece }
answer_from g st piece (Some text) =
    unless_closed (From st piece) (going_on g st piece []) st.events
    (gone_on (From st piece) (from_end (st.events + 1) (going_on g st piece (text ∷ [])))
    (going_on g st piece (text ∷ [])))

-- An answer with this text put in front.
abbrev pub with_text_before : Text → Answer → Answer
with_text_before text a = record { body = text ++ a.body; session = a.session }

-- The answer of a session that was just begun, which takes the text too, if there is one.
abbrev pub begun_with_text : Story → Option Text → Text → NamedSession → Answer
begun_with_text g (Some text) body (At seed lines) = with_text_before body (answer_taking g seed lines text)
begun_with_text g _ body session = record { body = body; session = session }

-- The answer to what is asked of a session: no text, or this one. Where there is no session the game is begun with this
-- seed.
unfoldable pub answer : Story → Seed → NamedSession → Option Text → Answer
answer g seed Absent text = begun_with_text g text (begun_answer g seed).body (begun_answer g seed).session
answer g seed (At own lines) text = session_answer g own lines text
answer g seed (From st piece) text = answer_from g st piece text
answer g seed (Refused bytes) text = record { body = codes "refused"; session = Refused bytes }

-- ---- all sessions ----

-- A reply: the name in brackets and the answer, each ended by a newline.
abbrev pub reply_text : Name → Text → Text
reply_text name body = codes "[" ++ (name ++ (codes "]\n" ++ (body ++ codes "\n")))

-- The reply to what a line asks for, or to a line that asks for nothing.
abbrev pub reply_to : Story → Seed → Sessions → Option Request → Text
reply_to g seed sessions None = reply_text [] (codes "bad line")
reply_to g seed sessions (Some r) = reply_text r.name (answer g seed (sessions r.name) r.text).body

-- The sessions after what a line asks for: only that of its name may have changed.
abbrev pub sessions_with : Story → Seed → Sessions → Option Request → Sessions
sessions_with g seed sessions None = sessions
sessions_with g seed sessions (Some r) =
    with_named_session r.name (answer g seed (sessions r.name) r.text).session sessions

-- The sessions after these lines.
unfoldable pub sessions_after : Story → Seed → Sessions → Lines → Sessions
sessions_after g seed sessions [] = sessions
sessions_after g seed sessions (line ∷ lines) =
    sessions_after g seed (sessions_with g seed sessions (request_of line)) lines

-- The replies to these lines, one after the other.
unfoldable pub replies : Story → Seed → Sessions → Lines → Text
replies g seed sessions [] = []
replies g seed sessions (line ∷ lines) =
    reply_to g seed sessions (request_of line)
    ++ replies g seed (sessions_with g seed sessions (request_of line)) lines
