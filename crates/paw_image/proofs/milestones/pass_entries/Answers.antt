use Rattle.std.proofs.Common.{◌≡◌, ◌-◌, [], ◌∷◌, length, ap, sym, ◌∙◌, arith}
use Rattle.std.proofs.lemmas.List.{length-append}
use Rattle.std.proofs.lemmas.Result.{err_from_is_err_and}
use Rattle.paw_image.specs.Damage.{after_entry}
use Rattle.paw_image.proofs.CondactLaws.{one_more_entry}
use Rattle.paw_image.proofs.EachLoop.{each_goes_on, each_ends, each_is_done, begins_go_on, begins_are_done}
use Rattle.paw_image.proofs.EndLaws.{entry_end}
use Rattle.paw_image.proofs.milestones.pass_entries.Goals as goal

pub returns-in_err-rest-clause-gives : goal.returns-in_err-rest-clause-gives
returns-in_err-rest-clause-gives c =
    let p = err_from_is_err_and c.from_residual-in_err-rest.result c.from_residual-in_err-rest.ensures.1 in
    rw (p.1, p.2) (each_ends (after_entry c.args.rules.now) c.args.count c.loop.counter c.loop.rest.now _ c.in_err-rest.field-0.0
    c.loop-test.true c.in_err-rest.ensures.gives c.loop.invariant.left)

pub loop-preserved : goal.loop-preserved
loop-preserved c =
    let d = c.args.rules.now in
    let all = c.args.all.now in
    let rest = c.loop.rest.now in
    let after = c.in_ok-rest.rest.now in
    let offsets = c.loop.offsets.items in
    let firsts = c.loop.firsts.items in
    let milestones = c.loop.milestones.items in
    let more = c.pass_entry.new.milestones.items in
    let inv = c.loop.invariant in
    let gives = c.in_ok-rest.ensures.gives in
    let place = c.in_ok-push.ensures.items in
    let first = c.in_ok-push-2.ensures.items in
    let len : c.len.result ≡ length milestones = omega (arith, c.len.ensures, c.loop.milestones.ok.0) in
    let same : length offsets ≡ length firsts = inv.many ∙ sym inv.firsts in
    record {
      left = each_goes_on (after_entry d) c.args.count c.loop.counter rest _ after c.loop-test.true gives inv.left;
      goes_on = rw (place, c.saturating_sub.ensures)
          (begins_go_on (after_entry d) (length all) offsets c.args.count c.loop.counter rest _ after c.loop-test.true gives inv.goes_on);
      many = ap length place ∙ omega (arith, length-append offsets (c.saturating_sub.result ∷ []), inv.many);
      firsts = ap length first ∙ omega (arith, length-append firsts (c.len.result ∷ []), inv.firsts);
      few = omega (arith, c.in_ok-rest.ensures.few, inv.few);
      end = λ at. entry_end all rest after (λ i. omega (arith, c.type_inv.all i)) (inv.end at) d gives;
      marked = λ at. rw (place, c.saturating_sub.ensures, first, len)
          (one_more_entry all offsets firsts milestones more (length all - length rest) same (inv.marked at) c.in_ok-rest.ensures.extends
          (rw (inv.end at) c.in_ok-rest.ensures.milestones));
    }

pub returns-clause-gives : goal.returns-clause-gives
returns-clause-gives c = each_is_done (after_entry c.args.rules.now) c.args.count c.loop.counter c.loop.rest.now _ c.loop-test.false c.loop.invariant.left

pub returns-clause-offsets : goal.returns-clause-offsets
returns-clause-offsets c =
    begins_are_done (after_entry c.args.rules.now) (length c.args.all.now) c.loop.offsets.items c.args.count c.loop.counter c.loop.rest.now _
    c.loop-test.false c.loop.invariant.goes_on
