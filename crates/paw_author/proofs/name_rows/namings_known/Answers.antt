use Rattle.std.proofs.Common.{◌+◌, take, drop, sym, ◌∙◌}
use Rattle.std.proofs.lemmas.Result.{err_from_is_err_and}
use Rattle.paw_author.specs.Known.{NumbersGiven}
use Rattle.paw_author.specs.NameRows.{namings_known}
use Rattle.paw_author.proofs.HookLaws.{one_name_row, no_name_row}
use Rattle.paw_author.proofs.RowOfFiles.{bound_fails, bound_goes_on}
use Rattle.paw_author.proofs.name_rows.namings_known.Goals as goal

pub returns-in_err-next : goal.returns-in_err-next
returns-in_err-next c =
    let p = err_from_is_err_and c.from_residual.result c.from_residual.ensures.1 in
    let all = c.args.all.now in
    let i = c.loop-i.i in
    let is = one_name_row all i c.index-all-i.result c.loop-i.next c.index-all-i.is c.loop-i-test.true in
    record {
      gives = rw (p.1, p.2) (bound_fails c.in_err-next.field-0.0 _ (λ (next : NumbersGiven). namings_known (take (i + 1) all) next (drop (i + 1) all)) _
          (sym c.loop-i.invariant ∙ is) c.in_err-next.ensures.gives);
    }

pub loop-i-preserved : goal.loop-i-preserved
loop-i-preserved c =
    let all = c.args.all.now in
    let i = c.loop-i.i in
    let is = one_name_row all i c.index-all-i.result c.loop-i.next c.index-all-i.is c.loop-i-test.true in
    sym (bound_goes_on c.in_ok-next.next _ (λ (next : NumbersGiven). namings_known (take (i + 1) all) next (drop (i + 1) all)) _
    (sym c.loop-i.invariant ∙ is) c.in_ok-next.ensures.gives)

pub returns : goal.returns
returns c = record { gives = sym c.loop-i.invariant ∙ no_name_row c.args.all.now c.loop-i.i c.loop-i.next c.loop-i-test.false }
