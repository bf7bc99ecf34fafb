use Rattle.std.proofs.Common.{◌≡◌, ◌+◌, ◌%◌, length, get_or, refl, arith}
use Rattle.std.proofs.lemmas.List.{get_or_default}
use Rattle.paw_base.specs.declared.words.TheConstants.{NO_WORD}
use Rattle.paw_image.specs.inner.Orders.{entry_rank}
use Rattle.paw_image.proofs.AnyLaws.{all_said, filled_up, other_rank}
use Rattle.paw_image.proofs.order.next_any_of.Goals.{then-rank-least+in_ok-resize, else-rank-least}
use Rattle.paw_image.proofs.order.next_any_of.Goals as goal

pub loop-rank-preserved : goal.loop-rank-preserved
loop-rank-preserved c =
    let ranks = c.args.ranks.now in
    let i = c.loop-rank.rank-index in
    let r = get_or ranks i 0 in
    let here = get_or_default ranks i 0 r c.loop-rank-test.true in
    let next = c.loop-rank.next in
    elim c.if-rank-least.branch [
      | then-rank-least+in_ok-resize w ↦
          let made = w.in_ok-resize.ensures in
          let longer = w.resize.new.self in
          let entry = r % 65536 in
          let is : r ≡ entry_rank NO_WORD NO_WORD entry = omega (arith, w.if-rank-least.true, c.rank_of-least.ensures.value, c.type_inv.ranks i) in
          let long : length longer.items ≡ entry + 1 = omega (arith, made.len, longer.ok.0) in
          rw w.next-is
          (filled_up ranks c.requires.rises i r c.loop-rank-test.true here next.items c.loop-rank.invariant entry (omega arith) is longer.items long
          (λ k d lt within. made.by_index.0 k d lt (omega (arith, within, next.ok.0)))
          (λ k d past lt. made.by_index.1 k d refl (omega (arith, past, next.ok.0)) lt))
      | else-rank-least w ↦
          rw w.next-is
          (other_rank ranks c.requires.rises i r c.loop-rank-test.true here next.items c.loop-rank.invariant
          (omega (arith, w.if-rank-least.false, c.rank_of-least.ensures.value)))
    ]

pub returns : goal.returns
returns c =
    let end : c.loop-rank.rank-index ≡ length c.args.ranks.now = omega (arith, c.loop-rank.auto.rank-index-end, c.loop-rank-test.false) in
    record { next = all_said c.args.ranks.now c.loop-rank.next.items (rw end at c.loop-rank.invariant) }
