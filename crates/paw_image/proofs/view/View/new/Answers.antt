use Rattle.std.proofs.Common.{List, IsTrue, sym, subst, arith}
use Rattle.paw_game.specs.declared.parts.Word.{Word}
use Rattle.paw_game.specs.Valid.{words_are_valid}
use Rattle.paw_image.proofs.ViewLaws.{index_from, damage_is_none}
use Rattle.paw_image.proofs.WholeLaws.{over_is_bad}
use Rattle.paw_image.proofs.view.View.new.Goals as goal

pub returns-then-bytes-gt-IMAGE_LIMIT-clause-at : goal.returns-then-bytes-gt-IMAGE_LIMIT-clause-at
returns-then-bytes-gt-IMAGE_LIMIT-clause-at c = over_is_bad c.args.bytes.now c.if-bytes-gt-IMAGE_LIMIT.true

pub new-requires : goal.new-requires
new-requires c =
    let index = index_from c.args.bytes.now c.in-Ok.passed.front c.in-Ok.passed.lists.now c.in-Ok.passed.offsets
    (λ i. omega (arith, c.type_inv.bytes i)) c.if-bytes-gt-IMAGE_LIMIT.false c.in-Ok.ensures.whole
    c.in-Ok.ensures.passed in
    record { valid = subst (λ (ws : List Word). IsTrue (words_are_valid ws)) (sym index.spelled) index.image.valid.words }

pub invariant_of-result : goal.invariant_of-result
invariant_of-result c =
    rw c.in_ok-words-in-Ok.ensures.words
    (index_from c.args.bytes.now c.in-Ok.passed.front c.in-Ok.passed.lists.now c.in-Ok.passed.offsets
    (λ i. omega (arith, c.type_inv.bytes i)) c.if-bytes-gt-IMAGE_LIMIT.false c.in-Ok.ensures.whole
    c.in-Ok.ensures.passed)

pub returns-in_ok-words-in-Ok-clause-found : goal.returns-in_ok-words-in-Ok-clause-found
returns-in_ok-words-in-Ok-clause-found c =
    (index_from c.args.bytes.now c.in-Ok.passed.front c.in-Ok.passed.lists.now c.in-Ok.passed.offsets
    (λ i. omega (arith, c.type_inv.bytes i)) c.if-bytes-gt-IMAGE_LIMIT.false c.in-Ok.ensures.whole
    c.in-Ok.ensures.passed).image

pub returns-in-Err-clause-damaged : goal.returns-in-Err-clause-damaged
returns-in-Err-clause-damaged c = damage_is_none c.args.bytes.now c.in-Err.refusal c.in-Err.ensures.at
