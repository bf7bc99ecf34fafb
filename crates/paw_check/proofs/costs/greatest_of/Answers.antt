use Rattle.std.proofs.Common.{◌≡◌, ap, ◌∙◌, max, drop, length, ℕ, ◌+◌, arith, rules}
use Rattle.paw_check.specs.Measures.{greatest}
use Rattle.paw_check.proofs.Greatest.{most_more, most_all}
use Rattle.paw_check.proofs.costs.greatest_of.Goals as goal

pub loop-taken-preserved : goal.loop-taken-preserved
loop-taken-preserved c =
    let long : length c.args.row.now ≡ 256 = search rules in
    ap (λ (n : ℕ). max n (greatest (drop (c.loop-taken.taken-index + 1) c.args.row.now))) c.greater-most.ensures.value
    ∙ most_more c.loop-taken.most c.args.row.now c.loop-taken.taken-index 0 _ (omega (arith, c.loop-taken-test.true, long)) c.loop-taken.invariant

pub returns-clause-value : goal.returns-clause-value
returns-clause-value c =
    let long : length c.args.row.now ≡ 256 = search rules in
    most_all c.loop-taken.most c.args.row.now c.loop-taken.taken-index _ (omega (arith, c.loop-taken-test.false, long)) c.loop-taken.invariant
