use Rattle.std.proofs.Common.{length, ap, arith}
use Rattle.std.specs.Vec.Iter.{into_iter_items}
use Rattle.paw_grammar.specs.GrammarState.{objects_of}
use Rattle.paw_source.proofs.Made.{object_more, objects_cut, objects_end}
use Rattle.paw_source.proofs.objects.objects_of.Goals as goal

pub returns-in-None-split_first : goal.returns-in-None-split_first
returns-in-None-split_first c =
    record {
      value = objects_cut c.loop-text.objects.items (into_iter_items c.loop-text.text-iterator) c.loop-text.rest.now
          (objects_of c.args.texts.items c.args.facts.now) c.in-None-split_first.ensures.cases c.loop-text.invariant.3;
    }

pub loop-text-preserved : goal.loop-text-preserved
loop-text-preserved c =
    let steps = c.in-Some.ensures.steps in
    let shorter = ap length steps.0 in
    let fewer = steps.1 in
    let before = c.loop-text.invariant.2 in (
      tt,
      tt,
      omega (arith, shorter, fewer, before),
      object_more c.loop-text.objects.items c.push.new.self.items (into_iter_items c.loop-text.text-iterator)
          (into_iter_items c.next.new.self) c.in-Some.text c.loop-text.rest.now c.in-Some-split_first.after.now
          c.in-Some-split_first.facts.now (objects_of c.args.texts.items c.args.facts.now) steps.0
          c.in-Some-split_first.ensures.cases.0 c.in_ok-push-in-Some-split_first.ensures.items c.loop-text.invariant.3,
    )

pub returns : goal.returns
returns c =
    let none = c.in-None.ensures.steps.0 in
    let long = c.loop-text.invariant.2 in
    record {
      value = objects_end c.loop-text.objects.items (into_iter_items c.loop-text.text-iterator) c.loop-text.rest.now
          (objects_of c.args.texts.items c.args.facts.now) (omega (arith, none, long)) c.loop-text.invariant.3;
    }
