use Rattle.std.proofs.Common.{◌+◌, ◌++◌, [], drop, if◌then◌else◌, sym, ap, ◌∙◌}
use Rattle.paw_author.specs.Fragments.{LinesInParts}
use Rattle.paw_author.specs.Hooks.{is_entry_for, lines_for}
use Rattle.paw_author.proofs.Rows.{go_on, at_last, one_for, none_for}
use Rattle.paw_author.proofs.hooks.add_lines_for.Goals as goal

pub loop-u-preserved : goal.loop-u-preserved
loop-u-preserved c =
    let name = c.args.name.now in
    let all = c.args.all.now in
    let i = c.loop-u.u-index in
    let u = c.u-item.result in
    let before = c.loop-u.out.items in
    go_on before (if is_entry_for name u then u.lines else []) (lines_for name (drop (i + 1) all))
    (c.args.out.now.items ++ lines_for name all) c.add_entry_for.new.out.items c.in_ok-add_entry_for.ensures.value
    (ap (λ (more : LinesInParts). before ++ more) (sym (one_for name all i u c.u-item.is c.loop-u-test.true))
    ∙ c.loop-u.invariant)

pub returns : goal.returns
returns c =
    let name = c.args.name.now in
    let all = c.args.all.now in
    record {
      value = at_last c.loop-u.out.items (lines_for name (drop c.loop-u.u-index all)) (c.args.out.now.items ++ lines_for name all)
          (none_for name all c.loop-u.u-index c.loop-u-test.false) c.loop-u.invariant;
    }
