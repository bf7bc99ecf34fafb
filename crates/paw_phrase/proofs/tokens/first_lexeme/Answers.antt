use Rattle.std.proofs.Common.{sym, ap, ◌∙◌, arith}
use Rattle.std.proofs.lemmas.List.{drop_all}
use Rattle.paw_phrase.specs.Phrase.{lexemes}
use Rattle.paw_phrase.proofs.Lexemes.{lexemes-blank, lexemes-separator, lexemes-empty}
use Rattle.paw_phrase.proofs.tokens.first_lexeme.Goals as goal

pub returns-then-is_separator-clause-value : goal.returns-then-is_separator-clause-value
returns-then-is_separator-clause-value c =
    c.loop-i.invariant
    ∙ lexemes-separator c.args.bytes.now c.loop-i.i c.loop-i-test.true (sym c.if-is_in_token.ensures.value) (sym c.if-is_separator.ensures.value)

pub loop-i-preserved : goal.loop-i-preserved
loop-i-preserved c =
    c.loop-i.invariant
    ∙ lexemes-blank c.args.bytes.now c.loop-i.i c.loop-i-test.true (sym c.if-is_in_token.ensures.value) (sym c.if-is_separator.ensures.value)

pub returns-clause-value : goal.returns-clause-value
returns-clause-value c = c.loop-i.invariant ∙ ap lexemes (drop_all c.loop-i.i c.args.bytes.now (omega arith)) ∙ lexemes-empty
