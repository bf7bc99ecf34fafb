use Rattle.std.proofs.Common.{◌-◌, drop, arith}
use Rattle.std.proofs.lemmas.List.{length-take}
use Rattle.paw_lex.proofs.TokenCuts.{blanks_at, next_token_at}
use Rattle.paw_lex.proofs.tokens.next_token.Goals as goal

pub returns-in-Some-clause-tokens : goal.returns-in-Some-clause-tokens
returns-in-Some-clause-tokens c =
    let len = length-take (c.args.line.now.to - c.args.from) (drop c.args.from c.args.source.now) in
    next_token_at c.args.source.now c.args.from c.args.line.now.to c.in-Some.token.from c.in-Some.token.to
    (omega (arith, c.in-Some.ensures.offsets)) (omega (arith, c.in-Some.ensures.offsets, len)) c.in-Some.ensures.tokens

pub returns-in-Some-clause-blanks : goal.returns-in-Some-clause-blanks
returns-in-Some-clause-blanks c =
    let args = c.args in
    let len = length-take (args.line.now.to - args.from) (drop args.from args.source.now) in
    blanks_at args.source.now args.from args.line.now.to c.in-Some.token.from
    (omega (arith, c.in-Some.ensures.offsets, len)) c.in-Some.ensures.blanks
