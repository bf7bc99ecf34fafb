-- An image that isn't opened.
use Rattle.std.proofs.Common.{◌≡◌, subst}
use Rattle.paw_base.specs.Bytes.{Bytes, Name}
use Rattle.paw_base.specs.declared.limits.TheConstants.{IMAGE_LIMIT}
use Rattle.paw_game.specs.Game.{GameLists}
use Rattle.paw_play.specs.declared.PlayEnd.{PlayEnd}
use Rattle.paw_stage.specs.Stage.{Standing}
use Rattle.paw_stage.specs.declared.StageCall.TheVariants as call
use Rattle.paw_top.specs.declared.outcome.Outcome.{Outcome}
use Rattle.paw_top.specs.declared.outcome.Outcome.TheVariants as outcome
use Rattle.paw_stage.specs.inner.Loads.{LoadsSome}
use Rattle.paw_top.specs.inner.Loads.{LoadsNone, GivesNone}
use Rattle.paw_top.specs.Opens.{Unopened, damaged, absent, failed, without_memory}
use Rattle.paw_top.specs.Ends.{PlaysFile, unopened}
use Rattle.paw_play.proofs.ImageFiles.{damage_loaded}

-- A load that gives nothing says why its game isn't played.
pub no_file : (name : Name) (old new : Standing) (o : Outcome) → LoadsNone name old new o → Unopened name old new o
no_file name old new (outcome.Outside call.LoadAbsent) h = absent h.0 h.1
no_file name old new (outcome.Outside call.Load) h = failed h
no_file name old new (outcome.Memory at) h = without_memory at h
no_file name old new _ h = absurd h

-- And so do bytes that give no game.
pub no_image : (name given : Bytes) (old new : Standing) (o : Outcome) → LoadsSome name IMAGE_LIMIT old new given → GivesNone given o → Unopened name old new o
no_image name given old new (outcome.ImageDamaged at) f h = damaged at (damage_loaded name given old new at f h.0 h.1) f.3
no_image name given old new (outcome.Memory at) f h = without_memory at f.3
no_image name given old new _ f h = absurd h

-- So the game of the file isn't played.
pub unloaded : {Comes : GameLists → PlayEnd → Type 0} (name : Name) (old new : Standing) (o : Outcome) → LoadsNone name old new o →
    PlaysFile Comes name old new o
unloaded name old new o h = unopened o (no_file name old new o h)

pub undecoded : {Comes : GameLists → PlayEnd → Type 0} (name given bytes : Bytes) (old new : Standing) (o : Outcome) → bytes ≡ given →
    LoadsSome name IMAGE_LIMIT old new given → GivesNone bytes o → PlaysFile Comes name old new o
undecoded name given bytes old new o e f h = unopened o (no_image name given old new o f (subst (λ b. GivesNone b o) e h))
