use Rattle.std.proofs.Common.{◌+◌, ◌++◌, [], drop, if◌then◌else◌, sym, ap, ◌∙◌}
use Rattle.paw_author.specs.Fragments.{LinesInParts}
use Rattle.paw_author.specs.Hooks.{unit_lines}
use Rattle.paw_author.specs.Order.{is_own, own_lines}
use Rattle.paw_author.proofs.Rows.{go_on, at_last, one_own, none_own}
use Rattle.paw_author.proofs.order.add_own_lines.Goals as goal

pub loop-u-preserved : goal.loop-u-preserved
loop-u-preserved c =
    let all = c.args.all.now in
    let section = c.args.section in
    let file = c.args.file in
    let units = c.args.units.now in
    let i = c.loop-u.u-index in
    let u = c.u-item.result in
    let before = c.loop-u.out.items in
    go_on before (if is_own section file u then unit_lines all u else []) (own_lines all section file (drop (i + 1) units))
    (c.args.out.now.items ++ own_lines all section file units) c.add_own_unit.new.out.items c.in_ok-add_own_unit.ensures.value
    (ap (λ (more : LinesInParts). before ++ more) (sym (one_own all section file units i u c.u-item.is c.loop-u-test.true))
    ∙ c.loop-u.invariant)

pub returns : goal.returns
returns c =
    let all = c.args.all.now in
    let section = c.args.section in
    let file = c.args.file in
    let units = c.args.units.now in
    record {
      value = at_last c.loop-u.out.items (own_lines all section file (drop c.loop-u.u-index units))
          (c.args.out.now.items ++ own_lines all section file units)
          (none_own all section file units c.loop-u.u-index c.loop-u-test.false) c.loop-u.invariant;
    }
