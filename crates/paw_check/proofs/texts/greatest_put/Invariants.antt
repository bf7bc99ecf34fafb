use Rattle.std.proofs.Common.{◌≡◌, map, max, drop}
use Rattle.std.specs.List.{slice_index_or}
use Rattle.paw_check.specs.Measures.{greatest}
use Rattle.paw_check.proofs.texts.greatest_put.Given as goal

-- The most so far and that of the rest is that of all.
abbrev pub invariant-loop-message : goal.invariant-loop-message
invariant-loop-message l =
    max l.most (greatest (map (λ s. slice_index_or l.system s 0) (drop l.message-index l.messages)))
    ≡ greatest (map (λ s. slice_index_or l.system s 0) l.messages)
