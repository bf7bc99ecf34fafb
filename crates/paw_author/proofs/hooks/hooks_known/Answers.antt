use Rattle.std.proofs.Common.{◌+◌, take, drop, sym, ◌∙◌}
use Rattle.std.proofs.lemmas.Result.{err_from_is_err_and}
use Rattle.paw_author.specs.Hooks.{hooks_known}
use Rattle.paw_author.proofs.HookLaws.{one_hook, no_hook}
use Rattle.paw_author.proofs.RowOfFiles.{bound_fails, bound_goes_on}
use Rattle.paw_author.proofs.hooks.hooks_known.Goals as goal

pub returns-in_err-hook_known : goal.returns-in_err-hook_known
returns-in_err-hook_known c =
    let p = err_from_is_err_and c.from_residual.result c.from_residual.ensures.1 in
    let hooks = c.args.hooks.now in
    let all = c.args.all.now in
    let i = c.loop-i.i in
    let is = one_hook hooks all i c.index-all-i.result c.index-all-i.is c.loop-i-test.true in
    record {
      gives = rw (p.1, p.2) (bound_fails c.in_err-hook_known.field-0.0 _ (λ _. hooks_known hooks (take (i + 1) all) (drop (i + 1) all)) _
          (sym c.loop-i.invariant ∙ is) c.in_err-hook_known.ensures.gives);
    }

pub loop-i-preserved : goal.loop-i-preserved
loop-i-preserved c =
    let hooks = c.args.hooks.now in
    let all = c.args.all.now in
    let i = c.loop-i.i in
    let is = one_hook hooks all i c.index-all-i.result c.index-all-i.is c.loop-i-test.true in
    sym (bound_goes_on tt _ (λ _. hooks_known hooks (take (i + 1) all) (drop (i + 1) all)) _
    (sym c.loop-i.invariant ∙ is) c.in_ok-hook_known.ensures.gives)

pub returns : goal.returns
returns c = record { gives = sym c.loop-i.invariant ∙ no_hook c.args.hooks.now c.args.all.now c.loop-i.i c.loop-i-test.false }
