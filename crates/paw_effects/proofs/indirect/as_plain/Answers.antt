use Rattle.std.proofs.Common.{◌∙◌, refl, sym}
use Rattle.paw_base.proofs.Table.{plain_below, plain_of_code, indirect_of_code}
use Rattle.paw_game.proofs.Right.{right-code}
use Rattle.paw_effects.specs.Indirect.{as_plain}
use Rattle.paw_effects.proofs.Carried.{plain_itself, taken, carried_right, carried_kind}
use Rattle.paw_effects.proofs.indirect.as_plain.Goals as goal

pub plain_code-code-requires : goal.plain_code-code-requires
plain_code-code-requires g c = record {
  code = right-code (g.T.Tables.game c.args.tables.now) c.args.c c.requires.condact;
}

pub is_first_argument-requires : goal.is_first_argument-requires
is_first_argument-requires g c = record {
  code = right-code (g.T.Tables.game c.args.tables.now) c.args.c c.requires.condact;
}

pub returns-then-c-lt-INDIRECT-clause-value : goal.returns-then-c-lt-INDIRECT-clause-value
unfolding as_plain
returns-then-c-lt-INDIRECT-clause-value g c =
    let low = c.if-c-lt-INDIRECT.true in
    let code = right-code (g.T.Tables.game c.args.tables.now) c.args.c c.requires.condact in
    rw (c.plain_code-code.ensures.value ∙ plain_itself c.args.c.code (plain_of_code c.args.c.code code low), plain_below c.args.c.code low) refl

pub returns-then-c-lt-INDIRECT-clause-right : goal.returns-then-c-lt-INDIRECT-clause-right
returns-then-c-lt-INDIRECT-clause-right g c =
    let code = right-code (g.T.Tables.game c.args.tables.now) c.args.c c.requires.condact in
    rw (c.plain_code-code.ensures.value ∙ plain_itself c.args.c.code (plain_of_code c.args.c.code code c.if-c-lt-INDIRECT.true)) c.requires.condact

pub returns-then-c-lt-INDIRECT-clause-kind : goal.returns-then-c-lt-INDIRECT-clause-kind
returns-then-c-lt-INDIRECT-clause-kind g c =
    let code = right-code (g.T.Tables.game c.args.tables.now) c.args.c c.requires.condact in
    rw (c.plain_code-code.ensures.value ∙ plain_itself c.args.c.code (plain_of_code c.args.c.code code c.if-c-lt-INDIRECT.true)) refl

pub returns-then-is_first_argument-clause-value : goal.returns-then-is_first_argument-clause-value
returns-then-is_first_argument-clause-value g c =
    let game = g.T.Tables.game c.args.tables.now in
    let indirect = indirect_of_code c.args.c.code (right-code game c.args.c c.requires.condact) c.if-c-lt-INDIRECT.false in
    rw c.if-is_first_argument.true at
    (taken game c.args.world.now c.args.c c.plain_code-code.result c.flag-value.result c.is_first_argument.result indirect
    c.plain_code-code.ensures.value c.flag-value.ensures.value c.is_first_argument.ensures.value)

pub returns-then-is_first_argument-clause-right : goal.returns-then-is_first_argument-clause-right
returns-then-is_first_argument-clause-right g c =
    let game = g.T.Tables.game c.args.tables.now in
    carried_right game c.args.world.now c.args.c _ (sym (returns-then-is_first_argument-clause-value g c)) c.requires.condact

pub returns-then-is_first_argument-clause-kind : goal.returns-then-is_first_argument-clause-kind
returns-then-is_first_argument-clause-kind g c =
    let game = g.T.Tables.game c.args.tables.now in
    carried_kind game c.args.world.now c.args.c _ (sym (returns-then-is_first_argument-clause-value g c))
    (right-code game c.args.c c.requires.condact)

pub returns-else-is_first_argument-clause-value : goal.returns-else-is_first_argument-clause-value
returns-else-is_first_argument-clause-value g c =
    let game = g.T.Tables.game c.args.tables.now in
    let indirect = indirect_of_code c.args.c.code (right-code game c.args.c c.requires.condact) c.if-c-lt-INDIRECT.false in
    rw c.if-is_first_argument.false at
    (taken game c.args.world.now c.args.c c.plain_code-code.result c.flag-value.result c.is_first_argument.result indirect
    c.plain_code-code.ensures.value c.flag-value.ensures.value c.is_first_argument.ensures.value)
