-- The promise of the host over the files of all names: what was shown, and what a crash leaves of each file, at each
-- moment and at the end.
use Rattle.std.specs.Prelude.{◌≡◌, ◌≢◌, ◌⊎◌, ℕ, zero, suc, ◌+◌, ◌≤◌, true, [], ◌∷◌, ◌++◌, length, take, drop, All}
use Rattle.std.specs.Prelude.{Option, Some, None}
use Rattle.std.specs.List.{AllByRecursion}
use Rattle.paw_base.specs.Bytes.{Bytes, Lines, Name, Seed, Text}
use Rattle.paw_effects.specs.Story.{Story}
use Rattle.paw_effects.specs.Standing.{AreBytes}
use Rattle.paw_stage.specs.Stage.{Standing, file_bytes}
use Rattle.paw_journal.specs.Session.{Digests, IsUnmade, recover}
use Rattle.paw_state.specs.State.{State}
use Rattle.paw_play.specs.Session.{IsOfStory}
use Rattle.paw_play.specs.Played.{ShowsState}
use Rattle.paw_play.specs.Stands.{Stands, IsPlayedWith}
use Rattle.paw_play.specs.Laws.{ShowsSome, MayBeLeft}
use Rattle.paw_host.specs.Names.{Request, request_of, is_name, store_name}
use Rattle.paw_host.specs.Replies.{NamedSession, Absent, At, From, Refused, Sessions, replies, sessions_after}

-- A file with these bytes is refused: it isn't empty, and it shows no session of the game and its routines.
abbrev pub IsRefused : Story → Bytes → Type 0
IsRefused g bytes = (bytes ≢ []) × ¬ ShowsSome g bytes

-- The bytes of a store hold a session of the story, which shows this state of the game and this piece.
pub record ShowsThis (g : Story) (state : State) (piece : Text) (bytes : Bytes) : Type 0 where
  pub digests : Digests
  pub belongs : IsOfStory g digests
  pub shows : ShowsState g.game digests bytes state piece

-- What a name's file holds, by the session of the name: nothing; bytes of a store that stands for its lines; bytes that
-- show the state from which it goes on, and its last piece; or bytes that are refused.
abbrev pub Stores : Story → NamedSession → Bytes → Type 0
Stores g Absent bytes = bytes ≡ []
Stores g (At seed lines) bytes = Stands g seed lines bytes
Stores g (From state piece) bytes = ShowsThis g state piece bytes
Stores g (Refused kept) bytes = (bytes ≡ kept) × IsRefused g kept

-- A session is possible where the game may be played with the lines that it stands at, if it stands at any.
abbrev pub MayBe : Story → NamedSession → Type 0
MayBe g (At seed lines) = IsPlayedWith g seed lines
MayBe g _ = Unit {0}

-- The file of each name is that of its session.
abbrev pub AllStore : Story → Sessions → Standing → Type 0
AllStore g sessions s =
    (name : Name) → is_name name ≡ true → Stores g (sessions name) (file_bytes s (store_name name))

-- Whatever a crash at this moment leaves of the file of a name is that of its session.
abbrev pub AllLeft : Story → Sessions → Standing → Type 0
AllLeft g sessions m = (name : Name) → is_name name ≡ true → (bytes : Bytes) →
    MayBeLeft (store_name name) m bytes → Stores g (sessions name) bytes

-- A crash may leave these bytes while a name's first session is made: no session, or one that stands at no lines.
abbrev pub LeftOfMaking : Story → Seed → NamedSession → NamedSession → Bytes → Type 0
LeftOfMaking g seed Absent (At own lines) bytes = IsUnmade (recover bytes) ⊎ Stands g seed [] bytes
LeftOfMaking g seed _ _ bytes = ⊥

-- Whatever a crash at this moment leaves of the file of a name is that of its session before a line; or its store is
-- attached, and it is that of its session after the line, or that session is being made. Where the line isn't about the
-- name, both sessions are the same.
abbrev pub EachLeft : Story → Seed → Sessions → Sessions → Standing → Type 0
EachLeft g seed before after m = (name : Name) → is_name name ≡ true → (bytes : Bytes) →
    MayBeLeft (store_name name) m bytes →
    Stores g (before name) bytes
    ⊎ ((m.attached ≡ Some (store_name name))
    × (Stores g (after name) bytes ⊎ LeftOfMaking g seed (before name) (after name) bytes))

-- The text begins with `from`, and is a first part of `to`.
abbrev pub IsBetween : Text → Text → Text → Type 0
IsBetween from to text = ((more : Text) × (text ≡ from ++ more)) × ((rest : Text) × (text ++ rest ≡ to))

-- This number of lines was taken, and this text was shown for them. The last one is being answered, and the file of
-- each name is as before it, or as after it where its store is attached. The replies to the lines before it were shown.
-- Its own is shown only once the file of each name is as after it.
abbrev pub IsUpToDate : Story → Seed → Sessions → Lines → ℕ → Text → Standing → Type 0
IsUpToDate g seed first lines zero text m = (text ≡ []) × AllLeft g first m
IsUpToDate g seed first lines (suc n) text m =
    EachLeft g seed (sessions_after g seed first (take n lines)) (sessions_after g seed first (take (suc n) lines)) m
    × ((text ≡ replies g seed first (take n lines))
    ⊎ (IsBetween (replies g seed first (take n lines)) (replies g seed first (take (suc n) lines)) text
    × AllLeft g (sessions_after g seed first (take (suc n) lines)) m))

-- The store that is attached once a line was answered: that of the name that it asks for, if any, or the one before.
abbrev pub attached_with : Option Request → Option Name → Option Name
attached_with None attached = attached
attached_with (Some r) attached = Some (store_name r.name)

-- The store that is attached after these lines.
unfoldable pub attached_after : Option Name → Lines → Option Name
attached_after attached [] = attached
attached_after attached (line ∷ lines) = attached_after (attached_with (request_of line) attached) lines

-- What may be attached while a line is being answered: the store that was attached before, that of the line's name, or
-- none; for a line without a name, only the store before.
abbrev pub MayAttach : Option Request → Option Name → Option Name → Type 0
MayAttach None before attached = attached ≡ before
MayAttach (Some r) before attached = (attached ≡ before) ⊎ (attached ≡ Some (store_name r.name)) ⊎ (attached ≡ None)

-- What may be attached while the last of these lines is being answered.
unfoldable pub AttachedIn : Option Name → Lines → Option Name → Type 0
AttachedIn before [] attached = attached ≡ before
AttachedIn before (line ∷ []) attached = MayAttach (request_of line) before attached
AttachedIn before (line ∷ next ∷ lines) attached =
    AttachedIn (attached_with (request_of line) before) (next ∷ lines) attached

-- This file is that of no name that these lines ask for.
abbrev pub IsNotOf : Lines → Name → Type 0
IsNotOf lines file = AllByRecursion (λ line. (r : Request) → request_of line ≡ Some r → file ≢ store_name r.name) lines

-- A moment of the host. Since the call began lines were taken and a text was shown, and the files are up to date with
-- both. The attached store is that of a line. No file has changed that isn't that of a name which these lines ask for.
pub record InHost (g : Story) (seed : Seed) (first : Sessions) (old m : Standing) : Type 0 where
  pub taken : ℕ
  pub text : Text
  pub there : taken ≤ length old.lines
  pub asked : m.asked ≡ old.asked + taken
  pub shown : m.shown ≡ old.shown ++ text
  pub up_to_date : IsUpToDate g seed first old.lines taken text m
  pub attached : AttachedIn old.attached (take taken old.lines) m.attached
  pub others : (file : Name) → IsNotOf (take taken old.lines) file → m.files file ≡ old.files file

-- The first n lines were taken, and each got its reply. The file of each name is that of its session after them, and
-- the store of the last name that was asked for is attached. No other file has changed.
pub record Answered (g : Story) (seed : Seed) (first : Sessions) (old new : Standing) (n : ℕ) : Type 0 where
  pub there : n ≤ length old.lines
  pub lines : new.lines ≡ drop n old.lines
  pub asked : new.asked ≡ old.asked + n
  pub shown : new.shown ≡ old.shown ++ replies g seed first (take n old.lines)
  pub files : AllStore g (sessions_after g seed first (take n old.lines)) new
  pub attached : new.attached ≡ attached_after old.attached (take n old.lines)
  pub others : (file : Name) → IsNotOf (take n old.lines) file → new.files file ≡ old.files file

-- The host may begin with these sessions: each may be, the file of each name is that of its session, and the lines are
-- bytes.
pub record BeginsWith (g : Story) (first : Sessions) (old : Standing) : Type 0 where
  pub may : (name : Name) → is_name name ≡ true → MayBe g (first name)
  pub files : AllStore g first old
  pub lines : All AreBytes old.lines
