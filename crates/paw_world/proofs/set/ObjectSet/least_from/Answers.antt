use Rattle.std.proofs.Common.{arith}
use Rattle.paw_world.specs.inner.ObjectSet.{none}
use Rattle.paw_world.proofs.Bits.{least_in_word, passed_word}
use Rattle.paw_world.proofs.set.ObjectSet.least_from.Goals as goal

pub returns-in-Some : goal.returns-in-Some
returns-in-Some c = record {
  least = least_in_word c.args.self.now c.args.from _ c.loop-word.word c.loop-word.bit c.in-Some.one (omega arith)
      c.loop-word.invariant.below c.loop-word.invariant.passed (rw c.self.view_is at c.in-Some.ensures.lowest);
}

pub loop-word-preserved : goal.loop-word-preserved
loop-word-preserved c = record {
  below = omega arith;
  in_word = omega arith;
  passed = passed_word c.args.self.now c.args.from c.loop-word.word c.loop-word.bit c.loop-word.invariant.passed
      (rw c.self.view_is at c.in-None.ensures.lowest);
}

pub returns : goal.returns
returns c = record { least = none (λ k low high. c.loop-word.invariant.passed k low (omega arith)) }
