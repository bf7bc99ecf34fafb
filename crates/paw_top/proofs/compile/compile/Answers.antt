use Rattle.std.proofs.Common.{[], ◌∷◌, ◌∙◌, ap, sym, subst, length}
use Rattle.paw_grammar.specs.Spells.{game_spelled}
use Rattle.paw_top.specs.Compile.{memory, image_line}
use Rattle.paw_top.specs.inner.Compile.{IsRefusal}
use Rattle.paw_top.specs.declared.outcome.MemoryAt.TheVariants as at
use Rattle.paw_top.proofs.Compiling.{no_source, no_image, saves_image}
use Rattle.paw_stage.specs.declared.StageCall.TheVariants as call
use Rattle.paw_stage.specs.Loads.{load_calls}
use Rattle.paw_top.specs.Answers.{failed_call}
use Rattle.paw_top.proofs.Answering.{refused_faulted}
use Rattle.paw_journal.proofs.Serving.{in_front, behind, serves_among, serves_still, serves_then}
use Rattle.paw_top.proofs.compile.compile.Goals as goal

pub returns-in-Err-clause-compiles : goal.returns-in-Err-clause-compiles
returns-in-Err-clause-compiles g c = λ tells. no_source c.args.source.now c.args.image.now _ _ c.in-Err.outcome (c.in-Err.ensures.none tells)

pub returns-in-Err-image_of-clause-compiles : goal.returns-in-Err-image_of-clause-compiles
returns-in-Err-image_of-clause-compiles g c = λ tells.
    no_image c.args.source.now c.args.image.now c.in-Ok.given.items _ _ c.in-Err-image_of.refusal (c.in-Ok.ensures.some tells)
    (subst (λ b. IsRefusal (game_spelled b) c.in-Err-image_of.refusal) c.as_slice.ensures.value c.in-Err-image_of.ensures.refusal)

pub returns-in-Err-line_of-clause-compiles : goal.returns-in-Err-line_of-clause-compiles
returns-in-Err-line_of-clause-compiles g c = λ tells.
    let f = c.in-Ok.ensures.some tells in
    rw c.in-Err-line_of.ensures.memory (memory at.Image f.3)

pub returns-clause-compiles : goal.returns-clause-compiles
returns-clause-compiles g c = λ tells.
    let made = c.in-Ok-image_of.ensures.image in
    saves_image c.args.source.now c.args.image.now c.in-Ok.given.items c.as_slice-2.result.now c.as_bytes.result.now _ _
    _ c.save_and_show.result (c.in-Ok.ensures.some tells)
    (made.0, ap game_spelled (sym c.as_slice.ensures.value) ∙ made.1, c.as_slice-2.ensures.value ∙ made.2)
    (c.as_bytes.ensures.value ∙ c.in-Ok-line_of.ensures.line
    ∙ ap image_line (c.len.ensures ∙ c.in-Ok-image_of.made.ok.0 ∙ ap length (sym c.as_slice-2.ensures.value)))
    (c.save_and_show.ensures.saves (c.load.ensures.serves.tells.0 tells))

pub returns-in-Err-clause-serves : goal.returns-in-Err-clause-serves
returns-in-Err-clause-serves g c = serves_among _ _ _ _ _ _ (behind (call.Save ∷ call.Show ∷ []) load_calls) c.in-Err.ensures.serves

pub returns-in-Err-image_of-clause-serves : goal.returns-in-Err-image_of-clause-serves
returns-in-Err-image_of-clause-serves g c =
    serves_still _ _ _ _ _ _ (refused_faulted _ c.in-Err-image_of.refusal c.in-Err-image_of.ensures.refusal) c.in-Ok.ensures.serves

pub returns-in-Err-line_of-clause-serves : goal.returns-in-Err-line_of-clause-serves
returns-in-Err-line_of-clause-serves g c = serves_still _ _ _ _ _ _ (ap failed_call c.in-Err-line_of.ensures.memory) c.in-Ok.ensures.serves

pub returns-clause-serves : goal.returns-clause-serves
returns-clause-serves g c = serves_then _ _ _ _ _ _ _ c.in-Ok.ensures.serves
    (serves_among _ _ _ _ _ _ (in_front (call.Save ∷ call.Show ∷ []) load_calls) c.save_and_show.ensures.serves)
