use Rattle.std.proofs.Common.{sym, ap, not, eqb, ne_eqb, ◌∙◌, arith}
use Rattle.paw_phrase.proofs.LetterTable.{in_token, letter_is}
use Rattle.paw_phrase.proofs.tokens.letter_of.Goals as goal

pub returns-then-letter-eq0-clause-none : goal.returns-then-letter-eq0-clause-none
returns-then-letter-eq0-clause-none c =
    sym (in_token c.args.byte (omega (arith, c.ranges.byte.fits))) ∙ ap (λ n. not (eqb n 0)) c.if-letter-eq0.true

pub returns-else-letter-eq0-clause-some : goal.returns-else-letter-eq0-clause-some
returns-else-letter-eq0-clause-some c =
    let token = sym (in_token c.args.byte (omega (arith, c.ranges.byte.fits))) ∙ ap not (ne_eqb _ _ c.if-letter-eq0.false) in
    (token, letter_is c.args.byte (omega (arith, c.ranges.byte.fits)) token)
