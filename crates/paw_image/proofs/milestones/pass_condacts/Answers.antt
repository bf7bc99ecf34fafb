use Rattle.std.proofs.Common.{◌≡◌, ℕ, suc, ◌+◌, ◌-◌, ◌*◌, ◌/◌, ◌≤◌, [], ◌∷◌, length, Ok, subst, ap, ◌∙◌, arith}
use Rattle.std.proofs.lemmas.List.{length-append}
use Rattle.std.proofs.lemmas.Result.{err_from_is_err_and}
use Rattle.paw_image.specs.Damage.{each, after_condact}
use Rattle.paw_image.proofs.CondactLaws.{each_none, each_more, eights_fail, milestone_small, milestone_is, same_before}
use Rattle.paw_image.proofs.CondactLaws.{MilestonesSoFar, one_more_milestone, all_milestones, on_ok}
use Rattle.paw_image.proofs.milestones.pass_condacts.Goals as goal

pub loop-init : goal.loop-init
loop-init c = record {
  left = each_none (after_condact c.args.rules.now) c.args.bytes.now;
  long = omega arith;
  marked = λ k lt. absurd (omega (arith, lt));
  extends = λ k x e. e;
}

pub returns-in_err-rest-clause-gives : goal.returns-in_err-rest-clause-gives
returns-in_err-rest-clause-gives c =
    let p = err_from_is_err_and c.from_residual.result c.from_residual.ensures.1 in
    let within : c.loop.counter * 8 + 8 ≤ c.args.count = omega (arith, c.loop-test.true, c.saturating_sub-eights.ensures) in
    rw (p.1, p.2) (eights_fail (after_condact c.args.rules.now) c.loop.counter c.args.count c.args.bytes.now c.loop.rest.now
    c.in_err-rest.field-0.0 within c.loop.invariant.left c.in_err-rest.ensures.gives)

pub overflow_cast-saturating_sub : goal.overflow_cast-saturating_sub
overflow_cast-saturating_sub c =
    let d = c.args.rules.now in
    let n = suc c.loop.counter * 8 in
    let within : n ≤ 255 = omega (arith, c.loop-test.true, c.saturating_sub-eights.ensures, c.ranges.count.fits) in
    let gone = each_more (after_condact d) (c.loop.counter * 8) 8 n c.args.bytes.now c.loop.rest.now
    (omega arith) c.loop.invariant.left ∙ c.in_ok-rest.ensures.gives in
    let small = milestone_small d n c.args.bytes.now c.in_ok-rest.rest.now (λ i. omega (arith, c.type_inv.bytes i)) gone within in
    omega (arith, small, c.saturating_sub.ensures)

pub loop-preserved : goal.loop-preserved
loop-preserved c =
    let d = c.args.rules.now in
    let bytes = c.args.bytes.now in
    let milestones = c.loop.milestones.items in
    let i = c.loop.counter in
    let rest = c.in_ok-rest.rest.now in
    let n = suc i * 8 in
    let gone = each_more (after_condact d) (i * 8) 8 n bytes c.loop.rest.now (omega arith) c.loop.invariant.left ∙ c.in_ok-rest.ensures.gives in
    let goes_on = milestone_is d n bytes rest (λ k. omega (arith, c.type_inv.bytes k)) gone in
    let same : n ≡ (i + 1) * 8 = omega arith in
    let items = c.in_ok-push.ensures.items in
    record {
      left = subst (λ (k : ℕ). each (after_condact d) k bytes ≡ Ok rest) same gone;
      long = ap length items ∙ omega (arith, length-append milestones (c.saturating_sub.result ∷ []), c.loop.invariant.long);
      marked = rw (items, c.saturating_sub.ensures)
          (one_more_milestone milestones bytes (length c.args.milestones.now.items) i (length bytes - length rest)
          c.loop.invariant.long c.loop.invariant.marked goes_on);
      extends = λ k x e. rw items (same_before milestones (c.saturating_sub.result ∷ []) k x (c.loop.invariant.extends k x e));
    }

pub returns-clause-gives : goal.returns-clause-gives
returns-clause-gives c =
    let pass = after_condact c.args.rules.now in
    let eights = c.saturating_sub-eights.result / 8 in
    let all : c.loop.counter ≡ eights = omega (arith, c.loop-test.false, c.loop.auto.counter-end) in
    let so_far = subst (λ (n : ℕ). each pass (n * 8) c.args.bytes.now ≡ Ok c.loop.rest.now) all c.loop.invariant.left in
    let sum : c.args.count ≡ eights * 8 + (c.args.count - eights * 8) = omega (arith, c.saturating_sub-eights.ensures) in
    rw (each_more pass (eights * 8) (c.args.count - eights * 8) c.args.count c.args.bytes.now c.loop.rest.now sum so_far) c.pass_each-2.ensures.gives

pub returns-clause-milestones : goal.returns-clause-milestones
returns-clause-milestones c =
    let milestones = c.loop.milestones.items in
    let start = length c.args.milestones.now.items in
    let bytes = c.args.bytes.now in
    let all : c.loop.counter ≡ (c.args.count - 1) / 8 = omega (arith, c.loop-test.false, c.loop.auto.counter-end, c.saturating_sub-eights.ensures) in
    let marked = subst (λ (n : ℕ). MilestonesSoFar milestones start n bytes) all c.loop.invariant.marked in
    on_ok c.pass_each-2.result (all_milestones milestones bytes start c.args.count marked)
