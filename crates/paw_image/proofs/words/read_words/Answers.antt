use Rattle.std.proofs.Common.{◌≡◌, Ok, subst, ap, ◌∙◌}
use Rattle.std.proofs.lemmas.Result.{err_from_is_err_and}
use Rattle.paw_base.specs.Bytes.{Bytes}
use Rattle.paw_read_error.specs.inner.Gives.{Fails}
use Rattle.paw_image.specs.Damage.{checked_word}
use Rattle.paw_image.specs.inner.Words.{last_letters}
use Rattle.paw_image.proofs.ListLoop.{goes_on, ends, is_done, word_more, no_word_more, last_is}
use Rattle.paw_image.proofs.words.read_words.Goals as goal

pub returns-in_err-word : goal.returns-in_err-word
returns-in_err-word c =
    let p = err_from_is_err_and c.from_residual.result c.from_residual.ensures.1 in
    let fault = c.in_err-word.field-0.0 in
    let rest = c.loop.rest.now in
    let last = c.last_letters.ensures.value ∙ ap last_letters c.deref.ensures.value in
    let fails = subst (λ (b : Bytes). Fails fault (checked_word b rest)) last c.in_err-word.ensures.gives in
    let more = word_more _ c.args.count c.loop.counter rest c.loop-test.true in
    record { gives = rw (p.1, p.2) (ends c.loop.words.items _ _ _ _ more c.loop.invariant fault fails) }

pub loop-preserved : goal.loop-preserved
loop-preserved c =
    let word = c.in_ok-word.word in
    let after = c.in_ok-word.after.now in
    let rest = c.loop.rest.now in
    let last = c.last_letters.ensures.value ∙ ap last_letters c.deref.ensures.value in
    let read = subst (λ (b : Bytes). checked_word b rest ≡ Ok (word, after)) last c.in_ok-word.ensures.gives in
    let more = word_more _ c.args.count c.loop.counter rest c.loop-test.true in
    rw (c.in_ok-push.ensures.items, last_is c.loop.words.items word)
    (goes_on c.loop.words.items _ _ _ _ more c.loop.invariant word after read)

pub returns : goal.returns
returns c =
    let none = no_word_more _ c.args.count c.loop.counter c.loop.rest.now c.loop-test.false in
    record { gives = is_done c.loop.words.items c.loop.rest.now _ _ none c.loop.invariant }
