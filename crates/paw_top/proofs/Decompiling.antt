-- Showing a text of a game, step by step.
use Rattle.std.proofs.Common.{◌≡◌, subst}
use Rattle.paw_base.specs.Bytes.{Bytes, Name, Text}
use Rattle.paw_base.specs.declared.limits.TheConstants.{IMAGE_LIMIT}
use Rattle.paw_game.specs.Game.{GameLists}
use Rattle.paw_stage.specs.Stage.{Standing}
use Rattle.paw_stage.specs.declared.StageCall.TheVariants as call
use Rattle.paw_top.specs.Decompile.{ShowsTextOf, done, unopened, unshown}
use Rattle.paw_play.specs.ImageFiles.{Holds}
use Rattle.paw_stage.specs.inner.Loads.{LoadsSome}
use Rattle.paw_top.specs.inner.Loads.{LoadsNone, GivesNone}
use Rattle.paw_top.specs.Shows.{Shows}
use Rattle.paw_top.specs.declared.outcome.Outcome.{Outcome}
use Rattle.paw_top.specs.declared.outcome.Outcome.TheVariants as outcome
use Rattle.paw_top.specs.declared.outcome.MemoryAt.{MemoryAt}
use Rattle.paw_top.proofs.Refusals as refused

-- Of a file that isn't opened nothing is shown.
pub no_file : {told : GameLists → Text} {at : MemoryAt} (name : Name) (old new : Standing) (o : Outcome) → LoadsNone name old new o →
    ShowsTextOf told at name old new o
no_file name old new o h = unopened o (refused.no_file name old new o h)

pub no_game : {told : GameLists → Text} {at : MemoryAt} (name given : Bytes) (old new : Standing) (o : Outcome) →
    LoadsSome name IMAGE_LIMIT old new given → GivesNone given o → ShowsTextOf told at name old new o
no_game name given old new o f h = unopened o (refused.no_image name given old new o f h)

shows_so : (told : GameLists → Text) (at : MemoryAt) (name : Name) (g : GameLists) (old new : Standing) (o : Outcome) → Holds old name g →
    Shows (told g) old new o → ShowsTextOf told at name old new o
shows_so told at name g old new outcome.Done h s = done g h s
shows_so told at name g old new (outcome.Outside call.Show) h s = unshown g h s
shows_so told at name g old new _ h s = absurd s

-- A text that is shown follows from the game, as far as it was shown.
pub shows_told : (told : GameLists → Text) (at : MemoryAt) (name text : Bytes) (g : GameLists) (old mid new : Standing) (o : Outcome) →
    Holds old name g → mid ≡ old → text ≡ told g → Shows text mid new o → ShowsTextOf told at name old new o
shows_told told at name text g old mid new o h still is s =
    shows_so told at name g old new o h (subst (λ q. Shows (told g) q new o) still (subst (λ t. Shows t mid new o) is s))
