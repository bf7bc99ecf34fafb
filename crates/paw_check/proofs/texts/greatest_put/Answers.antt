use Rattle.std.proofs.Common.{ap, ◌∙◌, max, drop, map, ℕ, ◌+◌}
use Rattle.std.specs.List.{slice_index_or}
use Rattle.paw_check.specs.Measures.{greatest}
use Rattle.paw_check.proofs.Greatest.{mapped_more, mapped_all}
use Rattle.paw_check.proofs.texts.greatest_put.Goals as goal

pub loop-message-preserved : goal.loop-message-preserved
loop-message-preserved c =
    let f : ℕ → ℕ = λ s. slice_index_or c.args.system.now s 0 in
    ap (λ (n : ℕ). max n (greatest (map f (drop (c.loop-message.message-index + 1) c.args.messages.now))))
    (c.greater-most.ensures.value ∙ ap (λ (s : ℕ). max c.loop-message.most (slice_index_or c.args.system.now s 0)) c.from.ensures)
    ∙ mapped_more f c.loop-message.most c.args.messages.now c.loop-message.message-index 0 _ c.loop-message-test.true c.loop-message.invariant

pub returns : goal.returns
returns c = record {
  value = mapped_all (λ (s : ℕ). slice_index_or c.args.system.now s 0) c.loop-message.most c.args.messages.now
      c.loop-message.message-index _ c.loop-message-test.false c.loop-message.invariant;
}
