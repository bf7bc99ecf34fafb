use Rattle.std.proofs.Common.{◌≡◌, ◌+◌, length, set, sym, ap, subst, ◌∙◌, arith}
use Rattle.paw_phrase.proofs.Lexemes.{IsToken, letter_taken, cut, lexemes-token}
use Rattle.paw_phrase.proofs.tokens.first_token.Goals as goal
use Rattle.paw_phrase.proofs.tokens.first_token.Goals.{then-i-lt-WORD_LENGTH, else-i-lt-WORD_LENGTH}

pub returns-in_default-clause-value : goal.returns-in_default-clause-value
returns-in_default-clause-value c =
    lexemes-token c.args.bytes.now c.loop-i.i c.loop-i.letters c.requires.begins c.requires.token (omega arith)
    (λ _. c.in_default.ensures.none) c.loop-i.invariant

pub loop-i-preserved : goal.loop-i-preserved
loop-i-preserved c =
    let s = c.args.bytes.now in
    let token = c.in-Some.ensures.some.0 in
    elim c.if-i-lt-WORD_LENGTH.branch [
      | then-i-lt-WORD_LENGTH w ↦
          subst (IsToken s (c.loop-i.i + 1)) (sym (w.letters-is ∙ ap (set c.loop-i.letters c.loop-i.i) c.in-Some.ensures.some.1))
          (letter_taken s c.loop-i.i c.loop-i.letters c.loop-i.invariant c.loop-i-test.true token w.if-i-lt-WORD_LENGTH.true)
      | else-i-lt-WORD_LENGTH w ↦
          subst (IsToken s (c.loop-i.i + 1)) (sym w.letters-is)
          (cut s c.loop-i.i c.loop-i.letters c.loop-i.invariant c.loop-i-test.true token w.if-i-lt-WORD_LENGTH.false)
    ]

pub returns-clause-value : goal.returns-clause-value
returns-clause-value c =
    let s = c.args.bytes.now in
    let all : c.loop-i.i ≡ length s = omega arith in
    lexemes-token s (length s) c.loop-i.letters c.requires.begins c.requires.token (omega arith)
    (λ more. absurd (omega arith)) (subst (λ n. IsToken s n c.loop-i.letters) all c.loop-i.invariant)
