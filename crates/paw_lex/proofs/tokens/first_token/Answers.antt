use Rattle.paw_lex.proofs.TokenCuts.{blanks_first, none_left, one_left}
use Rattle.paw_lex.proofs.tokens.first_token.Goals as goal

pub returns-then-len-eq0-clause-tokens : goal.returns-then-len-eq0-clause-tokens
returns-then-len-eq0-clause-tokens c = none_left c.args.bytes.now c.blanks-from.result c.token_len-len.result c.blanks-from.ensures.value
    c.token_len-len.ensures.value c.if-len-eq0.true

pub returns-clause-tokens : goal.returns-clause-tokens
returns-clause-tokens c = one_left c.args.bytes.now c.blanks-from.result c.token_len-len.result c.blanks-from.ensures.value
    c.token_len-len.ensures.value c.if-len-eq0.false

pub returns-clause-blanks : goal.returns-clause-blanks
returns-clause-blanks c = blanks_first c.args.bytes.now c.blanks-from.result c.blanks-from.ensures.value
