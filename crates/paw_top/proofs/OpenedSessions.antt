-- A session that is opened: what is loaded before changes nothing.
use Rattle.std.proofs.Common.{◌≡◌, sym, ap, subst}
use Rattle.paw_base.specs.Bytes.{Name, Seed}
use Rattle.paw_game.specs.Game.{GameLists}
use Rattle.paw_effects.specs.Story.{Story, story_of}
use Rattle.paw_stage.specs.Stage.{Standing}
use Rattle.paw_stage.specs.AcrossCalls.{InTwoParts}
use Rattle.paw_stage.specs.declared.Stage.{Ghosts}
use Rattle.paw_play.specs.declared.PlayEnd.{PlayEnd}
use Rattle.paw_play.specs.Keeping.{InNewSession, InPlay}
use Rattle.paw_play.specs.Play.{NewSession, PlaysAgain, GoesOn, NotYet, store_bytes}
use Rattle.paw_play.specs.Played.{PlayedSession, GoesOnFrom, session_begun}
use Rattle.paw_play.specs.ImageFiles.{Holds}
use Rattle.paw_play.proofs.ImageFiles.{same_game}

-- The story that is played is the one of the file.
pub same_story : (old : Standing) (name : Name) (game : GameLists) (s : Story) → Holds old name game → Holds old name s.game → story_of game s.answers ≡ s
same_story old name game s mine holds = ap (λ (h : GameLists). story_of h s.answers) (same_game old name game s.game mine holds)

-- How playing ends at a stage where nothing has changed since.
pub plays_new : (s : PlayedSession) (old mid new : Standing) (o : PlayEnd) → mid ≡ old → NewSession s mid new o → NewSession s old new o
plays_new s old mid new o still p = subst (λ q. NewSession s q new o) still p

pub plays_again : (g : Story) (store : Name) (old mid new : Standing) (o : PlayEnd) → mid ≡ old → PlaysAgain g store mid new o →
    PlaysAgain g store old new o
plays_again g store old mid new o still p = subst (λ q. PlaysAgain g store q new o) still p

pub goes_on : (s : PlayedSession) (old mid new : Standing) (o : PlayEnd) → mid ≡ old → GoesOn s mid new o → GoesOn s old new o
goes_on s old mid new o still p = subst (λ q. GoesOn s q new o) still p

-- The session goes on from the same bytes, and is of the same story.
pub goes_from : (g k : Story) (s : PlayedSession) (store : Name) (old mid : Standing) → mid ≡ old → k ≡ g →
    GoesOnFrom g store (store_bytes old store) s → GoesOnFrom k store (store_bytes mid store) s
goes_from g k s store old mid still same h =
    subst (λ q. GoesOnFrom q store (store_bytes mid store) s) (sym same)
    (subst (λ q. GoesOnFrom g store (store_bytes q store) s) (sym still) h)

-- The moments of a new session at a stage where nothing has changed since.
pub new_parts : {S : Type 0} (gs : Ghosts S) (before after : S) (g k : Story) (seed : Seed) (store : Name) (old mid : Standing) → mid ≡ old → k ≡ g →
    InTwoParts gs before after (NotYet store mid) (InNewSession (session_begun k seed store) mid) →
    InTwoParts gs before after (NotYet store old) (InNewSession (session_begun g seed store) old)
new_parts gs before after g k seed store old mid still same p =
    subst (λ q. InTwoParts gs before after (NotYet store q) (InNewSession (session_begun g seed store) q)) still
    (subst (λ q. InTwoParts gs before after (NotYet store mid) (InNewSession (session_begun q seed store) mid)) same p)

-- And those of one that is taken up again.
pub again_parts : {S : Type 0} (gs : Ghosts S) (before after : S) (s : PlayedSession) (store : Name) (old mid : Standing) → mid ≡ old →
    InTwoParts gs before after (NotYet store mid) (InPlay s mid) → InTwoParts gs before after (NotYet store old) (InPlay s old)
again_parts gs before after s store old mid still p =
    subst (λ q. InTwoParts gs before after (NotYet store q) (InPlay s q)) still p
