use Rattle.std.proofs.Common.{◌≡◌, ℕ, ◌+◌, ◌-◌, ◌*◌, ◌<◌, ◌≤◌}
use Rattle.paw_world.specs.inner.ObjectSet.{member}
use Rattle.paw_world.proofs.set.ObjectSet.least_from.Given as goal

-- No number that was passed is in the set.
abbrev pub invariant-loop-word : goal.invariant-loop-word
invariant-loop-word l = record {
  below : l.from ≤ 64 * l.word + l.bit;
  in_word : l.bit < 64;
  passed : (k : ℕ) → l.from ≤ k → k < 64 * l.word + l.bit → member l.self k ≡ 0;
}

abbrev pub decreases-loop-word : goal.decreases-loop-word
decreases-loop-word l = l.word_count - l.word
