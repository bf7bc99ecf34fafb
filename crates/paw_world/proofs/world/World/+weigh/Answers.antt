use Rattle.std.proofs.Common.{arith, ◌≡◌, ◌+◌, ◌∙◌, sym, ap, min, Some}
use Rattle.paw_world.specs.Weight.{weight_down}
use Rattle.paw_world.proofs.Weighed.{weight_own, weight_none_left, weight_contents, no_container, weightless}
use Rattle.paw_world.proofs.Weighed.{heavy_container}
use Rattle.paw_world.proofs.Contents.{weights_above, weights_above-some, weights_above-none}
use Rattle.paw_world.proofs.world.World.+weigh.Goals as goal
use Rattle.paw_world.proofs.world.World.+weigh.Goals.{weight_down-then-levels-eq0-via-then-levels-eq0}
use Rattle.paw_world.proofs.world.World.+weigh.Goals.{weight_down-then-levels-eq0-via-else-levels-eq0+then-not-facts}
use Rattle.paw_world.proofs.world.World.+weigh.Goals.{weight_down-then-levels-eq0-via-else-levels-eq0+else-not-facts+then-facts-eq0}

pub weight_down-returns-then-levels-eq0 : goal.weight_down-returns-then-levels-eq0
weight_down-returns-then-levels-eq0 t c =
    let f = c.facts-facts.result in
    let is = c.facts-facts.ensures.value in
    elim c.then-levels-eq0.branch [
      | weight_down-then-levels-eq0-via-then-levels-eq0 w ↦ record {
        value = sym (weight_none_left c.args.self.now c.args.levels c.args.o f is w.if-levels-eq0.true);
      }
      | weight_down-then-levels-eq0-via-else-levels-eq0+then-not-facts w ↦ record {
        value = sym (weight_own c.args.self.now c.args.levels c.args.o f is (no_container f w.if-not-facts.true));
      }
      | weight_down-then-levels-eq0-via-else-levels-eq0+else-not-facts+then-facts-eq0 w ↦ record {
        value = sym (weight_own c.args.self.now c.args.levels c.args.o f is
            (weightless f w.if-not-facts.false w.if-facts-eq0.true));
      }
    ]

pub weight_down-returns : goal.weight_down-returns
weight_down-returns t c = record {
  value = c.weight_with.ensures.value
      ∙ sym (weight_contents c.args.self.now c.args.levels c.args.o c.facts-facts.result c.facts-facts.ensures.value
      c.if-levels-eq0.false (heavy_container c.facts-facts.result c.if-not-facts.false c.if-facts-eq0.false));
}

pub weight_with-loop-o-preserved : goal.weight_with-loop-o-preserved
weight_with-loop-o-preserved t c =
    let turned : c.saturating_add-total.result ≡ min 255 (c.loop-o.total + weight_down c.args.self.now c.args.levels c.in-Some.o) =
    omega (arith, c.weight_down.ensures.value, c.saturating_add-total.ensures) in
    record {
      adds_up = ap (weights_above c.args.self.now c.args.levels c.args.p (Some c.in-Some.o)) turned
          ∙ (sym (weights_above-some c.args.self.now c.args.levels c.args.p c.loop-o.last c.loop-o.total c.in-Some.o (sym c.in-Some.ensures.value))
          ∙ c.loop-o.invariant.adds_up);
      capped = omega arith;
    }

pub weight_with-returns : goal.weight_with-returns
weight_with-returns t c = record {
  value = sym (weights_above-none c.args.self.now c.args.levels c.args.p c.loop-o.last c.loop-o.total c.loop-o.invariant.capped
      (sym c.in_default.ensures.value))
      ∙ c.loop-o.invariant.adds_up;
}
