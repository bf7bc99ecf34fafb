use Rattle.std.proofs.Common.{◌∙◌, sym, rules, ◌≡◌}
use Rattle.std.specs.Prelude.{count_by}
use Rattle.paw_check.specs.Calls.{is_call_of}
use Rattle.paw_check.specs.inner.Capped.{is_for_every}
use Rattle.paw_check.proofs.Rows.{holds_every}
use Rattle.paw_check.proofs.sums.count_every.Goals as goal

pub returns-then-is_for_every : goal.returns-then-is_for_every
returns-then-is_for_every c =
    let same : c.as_slice.result.now ≡ c.args.entry.now.condacts = search rules in
    record {
      value = λ f holds. holds_every f (λ u. count_by (is_call_of u)) (is_for_every c.args.changing c.args.entry.now) c.as_slice.result.now
          c.args.entry.now.condacts _ (sym c.is_for_every.ensures.value ∙ c.if-is_for_every.true) same (c.count_calls.ensures.value f holds);
    }
