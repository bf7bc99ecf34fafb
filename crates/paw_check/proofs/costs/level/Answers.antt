use Rattle.std.proofs.Common.{◌≡◌, ap, ◌∙◌, length, [], rules}
use Rattle.std.proofs.lemmas.Option.{unwrap_or-slice_get}
use Rattle.paw_game.specs.Game.{GameLists}
use Rattle.paw_check.specs.inner.Capped.{in_32_bits}
use Rattle.paw_check.specs.inner.Own.{own_in}
use Rattle.paw_check.proofs.Cells.{before_none, before_more, before_all}
use Rattle.paw_check.proofs.costs.level.Goals as goal

pub loop-number-init : goal.loop-number-init
loop-number-init c =
    rw c.new-rows.ensures.items (before_none c.count_of-objects.result (own_in c.args.own.now) c.args.changing c.as_slice-tables.result.now c.args.called.now)

pub loop-number-preserved : goal.loop-number-preserved
loop-number-preserved c =
    let item = c.entries_at-entries.ensures.value ∙ unwrap_or-slice_get c.as_slice-tables.result.now c.loop-number.number [] in
    rw c.in_ok-push.ensures.items
    (before_more c.count_of-objects.result (own_in c.args.own.now) c.args.changing c.as_slice-tables.result.now c.args.called.now
    c.loop-number.rows.items c.loop-number.number c.table_row.result c.entries_at-entries.result.now c.loop-number.invariant
    item c.table_row.ensures.value)

pub returns-clause-value : goal.returns-clause-value
returns-clause-value c =
    let many : c.count_of-objects.result ≡ in_32_bits (length c.args.parts.now.objects) = search rules in
    let whole = rw (c.as_slice-tables.ensures.value ∙ ap (λ (h : GameLists). h.tables) c.parts.view_is) at c.loop-number-test.false in
    let holds = rw (c.as_slice-tables.ensures.value ∙ ap (λ (h : GameLists). h.tables) c.parts.view_is) at c.loop-number.invariant in
    before_all c.args.parts.now c.count_of-objects.result (own_in c.args.own.now) c.args.changing c.args.called.now c.loop-number.rows.items
    c.loop-number.number many whole holds
