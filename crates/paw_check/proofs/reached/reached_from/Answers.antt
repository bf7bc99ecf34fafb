use Rattle.std.proofs.Common.{◌≡◌, ap, ◌∙◌, sym, refl, arith, cond, suc, length, nat_lt, ℕ, false, filter, rules}
use Rattle.std.specs.List.{slice_index_or, range_with_len}
use Rattle.std.proofs.Math.Numerals.{add-one}
use Rattle.paw_base.specs.declared.limits.TheConstants.{LEVEL_LIMIT}
use Rattle.paw_game.specs.Game.{GameLists}
use Rattle.paw_check.specs.Calls.{called_below}
use Rattle.paw_check.specs.Verbs.{is_among}
use Rattle.paw_check.specs.inner.Capped.{called_among}
use Rattle.paw_check.proofs.MarkLaws.{marked_first, marked_more, marked_filter, levels_more, marks_same}
use Rattle.paw_check.proofs.ReachedLaws.{below_none, below_more}
use Rattle.paw_check.proofs.reached.reached_from.Goals as goal

pub loop-init : goal.loop-init
loop-init c = record {
  deepest = c.in_ok-deepest.ensures.items ∙ sym (below_none c.args.parts.now c.args.from.now);
  levels = refl;
  few = omega arith;
  marks = marked_first c.args.parts.now c.args.from.now c.mark.new.marks c.mark.ensures.value;
}

pub loop-preserved : goal.loop-preserved
loop-preserved c =
    let g = c.args.parts.now in
    let ts = c.args.from.now in
    let i = c.loop.counter in
    let next : c.in_ok-level.level.items ≡ called_below g ts (suc i) =
    c.in_ok-level.ensures.value
    ∙ ap (λ xs. called_among xs c.as_slice.result.now) (c.as_slice-tables.ensures.value ∙ ap (λ (h : GameLists). h.tables) c.parts.view_is)
    ∙ ap (called_among g.tables) (c.as_slice.ensures.value ∙ c.loop.invariant.deepest) ∙ sym (below_more g ts i) in
    record {
      deepest = next ∙ ap (called_below g ts) (sym (add-one i));
      levels = rw (add-one i) (levels_more g ts i c.loop.levels c.one_if_any-levels.result c.loop.invariant.levels
          (c.one_if_any-levels.ensures.value ∙ ap (λ xs. cond (nat_lt 0 (length xs)) 1 0) (c.as_slice-in-loop-2.ensures.value ∙ next)));
      few = omega (arith, c.loop.invariant.few, c.one_if_any-levels.ensures.small);
      marks = rw (add-one i) (marked_more g ts (suc i) c.loop.marks c.mark-in-loop.new.marks c.loop.invariant.marks
          (marks_same c.loop.marks c.mark-in-loop.new.marks _ (is_among (called_below g ts (suc i)))
          (λ u. ap (λ xs. is_among xs u) (c.as_slice-in-loop.ensures.value ∙ next)) c.mark-in-loop.ensures.value));
    }

pub returns-clause-all : goal.returns-clause-all
returns-clause-all c =
    let last : c.loop.counter ≡ LEVEL_LIMIT = omega (arith, c.loop-test.false, c.loop.auto.counter-end) in
    let marks = rw last at c.loop.invariant.marks in
    c.in_ok-all.ensures.value
    ∙ ap (λ (n : ℕ). filter (λ u. slice_index_or c.loop.marks u false) (range_with_len 0 n)) (search rules)
    ∙ marked_filter c.args.parts.now c.args.from.now (suc LEVEL_LIMIT) c.loop.marks (length c.args.parts.now.tables) c.requires.few marks
