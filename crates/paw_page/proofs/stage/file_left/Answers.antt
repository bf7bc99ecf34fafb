use Rattle.std.proofs.Common.{length, refl, ap, sym, ◌∙◌, arith}
use Rattle.std.specs.Prelude.{◌^◌, Some}
use Rattle.std.proofs.lemmas.Option.{slice_get_read}
use Rattle.paw_stage.specs.inner.Memory.{standing_of}
use Rattle.paw_page.proofs.Left.{given_whole, third_named}
use Rattle.paw_page.proofs.stage.file_left.Goals as goal

pub returns-in-Ok-clause-left : goal.returns-in-Ok-clause-left
returns-in-Ok-clause-left c =
    let answer = c.in-Ok.ensures.answer in
    let got = c.in-Some.ensures.lookup in
    let words = c.args.words.now in
    let named = third_named words c.in-Some.name.now (standing_of c.args.stage.now)
    (slice_get_read words (length words) 2 c.in-Some.name.now refl got.3.0 got.1) in
    ap (λ (l : _). Some l) (given_whole (2 ^ 64) c.in-Ok.bytes.items answer.0 answer.2 (omega (arith, c.in-Ok.bytes.small, c.in-Ok.bytes.ok)))
    ∙ (sym answer.1 ∙ (ap (standing_of c.args.stage.now).files c.as_str.ensures.value ∙ sym named))
