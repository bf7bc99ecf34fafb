use Rattle.std.proofs.Common.{[], ◌∷◌, ◌∙◌, refl, subst}
use Rattle.paw_check.specs.Shown.{verdict_text}
use Rattle.paw_check.specs.Verdicts.{bounds}
use Rattle.paw_game.specs.Game.{GameLists}
use Rattle.paw_top.specs.Decompile.{lacking_memory}
use Rattle.paw_top.specs.inner.Loads.{GivesNone}
use Rattle.paw_top.proofs.Decompiling.{no_file, no_game, shows_told}
use Rattle.paw_play.proofs.ImageFiles.{holds_loaded}
use Rattle.paw_stage.specs.declared.StageCall.TheVariants as call
use Rattle.paw_stage.specs.Loads.{load_calls}
use Rattle.paw_top.specs.declared.outcome.MemoryAt.TheVariants as memory
use Rattle.paw_journal.proofs.Serving.{in_front, behind, serves_among, serves_still, serves_then}
use Rattle.paw_top.proofs.decompile.check.Goals as goal

pub returns-in-Err-clause-checks : goal.returns-in-Err-clause-checks
returns-in-Err-clause-checks g c = λ tells. no_file c.args.image.now _ _ c.in-Err.outcome (c.in-Err.ensures.none tells)

pub returns-in-Err-game_in-clause-checks : goal.returns-in-Err-game_in-clause-checks
returns-in-Err-game_in-clause-checks g c = λ tells.
    no_game c.args.image.now c.in-Ok.given.items _ _ c.in-Err-game_in.outcome (c.in-Ok.ensures.some tells)
    (subst (λ b. GivesNone b c.in-Err-game_in.outcome) c.as_slice.ensures.value c.in-Err-game_in.ensures.none)

pub returns-in_default-clause-checks : goal.returns-in_default-clause-checks
returns-in_default-clause-checks g c = λ tells. let f = c.in-Ok.ensures.some tells in lacking_memory f.3

pub returns-clause-checks : goal.returns-clause-checks
returns-clause-checks g c = λ tells.
    let f = c.in-Ok.ensures.some tells in
    let holds = holds_loaded c.args.image.now _ _ _ _ c.in-Ok-game_in.given c.as_slice.ensures.value f c.in-Ok-game_in.ensures.found in
    shows_told (λ (g : GameLists).
    verdict_text (bounds g)) memory.Check c.args.image.now c.as_bytes.result.now c.in-Ok-game_in.given _ _ _ c.show_text.result holds f.3
    (c.as_bytes.ensures.value ∙ c.in-Ok-verdict_of.ensures.text)
    (c.show_text.ensures.shows (c.load.ensures.serves.tells.0 tells))

pub returns-in-Err-clause-serves : goal.returns-in-Err-clause-serves
returns-in-Err-clause-serves g c = serves_among _ _ _ _ _ _ (behind (call.Show ∷ []) load_calls) c.in-Err.ensures.serves

pub returns-in-Err-game_in-clause-serves : goal.returns-in-Err-game_in-clause-serves
returns-in-Err-game_in-clause-serves g c = serves_still _ _ _ _ _ _ c.in-Err-game_in.ensures.fine c.in-Ok.ensures.serves

pub returns-in_default-clause-serves : goal.returns-in_default-clause-serves
returns-in_default-clause-serves g c = serves_still _ _ _ _ _ _ refl c.in-Ok.ensures.serves

pub returns-clause-serves : goal.returns-clause-serves
returns-clause-serves g c = serves_then _ _ _ _ _ _ _ c.in-Ok.ensures.serves
    (serves_among _ _ _ _ _ _ (in_front (call.Show ∷ []) load_calls) c.show_text.ensures.serves)
