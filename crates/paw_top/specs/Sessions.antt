-- How playing the game of an image with a session ends, and what it leaves.
use Rattle.std.specs.Prelude.{◌≡◌, ◌⊎◌, []}
use Rattle.paw_base.specs.Bytes.{Name, RoutineAnswers, Seed}
use Rattle.paw_game.specs.Game.{GameLists}
use Rattle.paw_effects.specs.Story.{story_of}
use Rattle.paw_stage.specs.Stage.{Standing}
use Rattle.paw_play.specs.Keeping.{InNewSession, InPlay}
use Rattle.paw_play.specs.Play.{NewSession, PlaysAgain, GoesOn, NotYet, store_bytes}
use Rattle.paw_play.specs.Played.{PlayedSession, GoesOnFrom, session_begun}
use Rattle.paw_top.specs.Ends.{PlaysFile}
use Rattle.paw_play.specs.ImageFiles.{Holds}
use Rattle.paw_top.specs.declared.outcome.Outcome.{Outcome}

-- ---- how it ends ----

-- A new session of the game that this file holds is played, with these answers of routines; or why it isn't.
abbrev pub PlaysNewIn : RoutineAnswers → Name → Name → Seed → Standing → Standing → Outcome → Type 0
PlaysNewIn answers name store seed old new o =
    PlaysFile (λ g end. NewSession (session_begun (story_of g answers) seed store) old new end) name old new o

-- A session of the game that this file holds is resumed, with these answers of routines; or why it isn't.
abbrev pub PlaysAgainIn : RoutineAnswers → Name → Name → Standing → Standing → Outcome → Type 0
PlaysAgainIn answers name store old new o =
    PlaysFile (λ g end. PlaysAgain (story_of g answers) store old new end) name old new o

-- A session of the game that this file holds goes on, or the file can't be opened.
abbrev pub GoesOnIn : Name → GameLists → PlayedSession → Standing → Standing → Outcome → Type 0
GoesOnIn name g s old new o = PlaysFile (λ h end. (h ≡ g) × GoesOn s old new end) name old new o

-- A session is resumed. Where one of the story goes on from the bytes of its store, from the state that they show or
-- after the lines that they stand for, it is played on and never refused.
pub record ResumesIn (answers : RoutineAnswers) (name store : Name) (old new : Standing) (o : Outcome) : Type 0 where
  pub again : PlaysAgainIn answers name store old new o
  pub goes_on : (g : GameLists) (s : PlayedSession) → Holds old name g →
      GoesOnFrom (story_of g answers) store (store_bytes old store) s → GoesOnIn name g s old new o

-- ---- what stands at each moment ----

-- A way to speak of moments in two parts, each with its own kind: that all come so, of the first kind until some time,
-- and of the second from then on; or that something is one of them.
abbrev pub TwoParts : Type 1
TwoParts = (Standing → Type 0) → (Standing → Type 0) → Type 0

-- What stands is a moment of one of the two parts.
abbrev pub IsMoment : Standing → TwoParts
IsMoment now Before After = Before now ⊎ After now

-- The moments of a new session in an empty store: until the store is attached, and from then on.
abbrev pub NewAtEachMoment : TwoParts → RoutineAnswers → Name → Name → Seed → Standing → Type 0
NewAtEachMoment Come answers name store seed old = (g : GameLists) → Holds old name g → store_bytes old store ≡ [] →
    Come (NotYet store old) (InNewSession (session_begun (story_of g answers) seed store) old)

-- The moments of a session that is resumed, where one of the story goes on from the bytes of its store.
abbrev pub AgainAtEachMoment : TwoParts → RoutineAnswers → Name → Name → Standing → Type 0
AgainAtEachMoment Come answers name store old = (g : GameLists) (s : PlayedSession) → Holds old name g →
    GoesOnFrom (story_of g answers) store (store_bytes old store) s → Come (NotYet store old) (InPlay s old)
