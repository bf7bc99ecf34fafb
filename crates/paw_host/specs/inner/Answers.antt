-- What an answer stands on, inside a call.
use Rattle.std.specs.Prelude.{◌≡◌, ◌≢◌, ◌⊎◌, ℕ, ◌+◌, List, [], ◌∷◌, ◌++◌, codes, Some, None, Result, OnOk}
use Rattle.paw_base.specs.Bytes.{Bytes, Lines, Name, Seed, Text}
use Rattle.paw_stage.specs.declared.Stage.{Ghosts}
use Rattle.paw_stage.specs.Disk.{Disk, MayLeave}
use Rattle.paw_stage.specs.Stage.{Standing, file_bytes}
use Rattle.paw_stage.specs.declared.StageCall.{StageCall}
use Rattle.paw_stage.specs.declared.StageCall.TheVariants as call
use Rattle.paw_effects.specs.Story.{Story}
use Rattle.paw_reading.specs.Turn.{Unended, reading}
use Rattle.paw_turn.specs.inner.Player.{PlayerView}
use Rattle.paw_journal.specs.Session.{Digests, IsUnmade, recover}
use Rattle.paw_journal.specs.Journal.{writing_calls}
use Rattle.paw_journal.specs.inner.Store.{InStore}
use Rattle.paw_state.specs.State.{State}
use Rattle.paw_play.specs.declared.PlayEnd.{PlayEnd}
use Rattle.paw_play.specs.declared.PlayEnd.TheVariants as end
use Rattle.paw_play.specs.Session.{IsOfStory}
use Rattle.paw_play.specs.Walk.{EndingOf}
use Rattle.paw_play.specs.Stands.{Stands}
use Rattle.paw_play.specs.Played.{PlayedSession, going_on, session_begun, from_lines, from_state}
use Rattle.paw_play.specs.Laws.{MayBeLeft}
use Rattle.paw_play.specs.inner.Calls.{DoneWithMoments}
use Rattle.paw_play.specs.inner.Open.{IsOpen}
use Rattle.paw_host.specs.Replies.{NamedSession, At, From, Answer, from_end, begun_answer, answer}
use Rattle.paw_host.specs.Promise.{Stores, LeftOfMaking}

-- What a reply says where a session brings no piece, by how playing it ended.
abbrev pub end_word : PlayEnd → Text
end_word end.Ended = codes "over"
end_word (end.Long events) = codes "full"
end_word (end.Spent kind) = codes "spent"
end_word (end.TooDeep table) = codes "too deep"
end_word _ = codes "refused"

-- A session is open where it takes texts, unless it is over or full.
abbrev pub TakesTexts : NamedSession → Type 0
TakesTexts (At seed es) = Unit {0}
TakesTexts (From st piece) = Unit {0}
TakesTexts _ = ⊥

-- How the reading of a session ends with these lines more.
abbrev pub ending_with : Story → NamedSession → EndingOf
ending_with g (At seed es) fs = reading g seed (es ++ fs)
ending_with g (From st piece) fs = going_on g st piece fs
ending_with g _ fs = Unended

-- What becomes of a session once a text has brought a piece.
abbrev pub session_with : Story → NamedSession → Text → NamedSession
session_with g (At seed es) text = At seed (es ++ text ∷ [])
session_with g (From st piece) text = from_end (st.events + 1) (going_on g st piece (text ∷ []))
session_with g session text = session

-- The session of a name, which takes texts, and the one that is played for it.
pub data IsPlayedAs (g : Story) : NamedSession → PlayedSession → Type 0 where
  begun : (seed : Seed) (name : Name) → IsPlayedAs g (At seed []) (session_begun g seed name)
  after_lines : (seed : Seed) (es : Lines) (digests : Digests) (name : Name) → IsOfStory g digests →
      IsPlayedAs g (At seed es) (from_lines g seed es digests name)
  after_state : (st : State) (piece : Text) (digests : Digests) (name : Name) → IsOfStory g digests →
      IsPlayedAs g (From st piece) (from_state g st piece digests name)

-- The reply grew by the body of an answer, and the store keeps the answer's session.
pub record Answers (g : Story) (a : Answer) (before after : Text) (bytes : Bytes) : Type 0 where
  pub body : after ≡ before ++ a.body
  pub stores : Stores g a.session bytes

-- At a moment only the attached store may differ from what stood, and this holds of whatever a crash leaves of it.
abbrev pub InFile : (Bytes → Type 0) → Standing → Standing → Type 0
InFile Left old m = InStore old (λ (d : Disk). (image : Bytes) → MayLeave d image → Left image) m

-- The bytes are those of one session or of another.
abbrev pub StoresEither : Story → NamedSession → NamedSession → Bytes → Type 0
StoresEither g before after bytes = Stores g before bytes ⊎ Stores g after bytes

-- The bytes are none, or those of a session that is made, which then is one that stands at no lines.
abbrev pub LeftOfBeginning : Story → Seed → Bytes → Type 0
LeftOfBeginning g seed bytes =
    (bytes ≡ []) ⊎ (((begun_answer g seed).session ≡ At seed []) × (IsUnmade (recover bytes) ⊎ Stands g seed [] bytes))

-- All stands as it did, except for the file of this name, and for which store is attached.
pub record IsAside (name : Name) (old new : Standing) : Type 0 where
  pub lines : new.lines ≡ old.lines
  pub asked : new.asked ≡ old.asked
  pub shown : new.shown ≡ old.shown
  pub files : (f : Name) → f ≢ name → new.files f ≡ old.files f

-- A moment at which a session is asked for something: only the file of its name may differ from what stood, and
-- whatever a crash leaves of that is of the session before; or the store is attached, and it is of the session after,
-- or of one that is made.
pub record InAnswer (g : Story) (seed : Seed) (name : Name) (before after : NamedSession) (old m : Standing)
    : Type 0 where
  pub asked : m.asked ≡ old.asked
  pub shown : m.shown ≡ old.shown
  pub files : (f : Name) → f ≢ name → m.files f ≡ old.files f
  pub others : (f : Name) → f ≢ name → (bytes : Bytes) → MayBeLeft f m bytes → bytes ≡ file_bytes old f
  pub attached : (m.attached ≡ old.attached) ⊎ (m.attached ≡ Some name) ⊎ (m.attached ≡ None)
  pub left : (bytes : Bytes) → MayBeLeft name m bytes → Stores g before bytes
      ⊎ ((m.attached ≡ Some name) × (Stores g after bytes ⊎ LeftOfMaking g seed before after bytes))

-- The bytes are of one session or of another, or of one that is made.
abbrev pub LeftOf : Story → Seed → NamedSession → NamedSession → Bytes → Type 0
LeftOf g seed before after bytes = Stores g before bytes ⊎ Stores g after bytes ⊎ LeftOfMaking g seed before after bytes

-- What the text is answered with, whatever session the open one is played for: the reply grows by the answer, and each
-- moment keeps the session before it or after it.
abbrev pub TakesText : {S F A E : Type 0} → Ghosts S → S → S → Story → ℕ → PlayerView F → Text → Text → Text → Text →
    Result A E → Type 0
TakesText stage old new g events seat piece text before after result =
    (seed : Seed) (named : NamedSession) (s : PlayedSession) → IsPlayedAs g named s →
    Stores g named (stage.standing old).disk.bytes → events ≡ s.before →
    IsOpen g s 0 [] seat [] piece (stage.standing old).disk.bytes →
    DoneWithMoments stage old new
    (OnOk result (Answers g (answer g seed named (Some text)) before after (stage.standing new).disk.bytes))
    (InFile (StoresEither g named (answer g seed named (Some text)).session) (stage.standing old))

-- The calls by which a session is asked for something.
abbrev pub answer_calls : List StageCall
answer_calls = call.Attach ∷ call.Read ∷ writing_calls
