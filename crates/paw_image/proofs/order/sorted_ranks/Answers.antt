use Rattle.std.proofs.Common.{ℕ, length, List, ap, subst, arith}
use Rattle.std.specs.List.Sorted.{IsPermutation}
use Rattle.std.proofs.lemmas.List.Sorted.{IsNonDecreasingBy-from_sort}
use Rattle.paw_image.proofs.OrderLaws.{ranks_long}
use Rattle.paw_image.proofs.order.sorted_ranks.Goals as goal

pub returns : goal.returns
returns c =
    let ranks = c.sort.new.self.items in
    record {
      same = subst (λ (rs : List ℕ). IsPermutation rs ranks) c.in_ok-ranks.ensures.value c.sort.ensures.permutation;
      rises = IsNonDecreasingBy-from_sort (λ r. r) ranks c.in_ok-sort.ensures.sorted;
      few = omega (
        arith,
        c.sort.ensures.len,
        ap length c.in_ok-ranks.ensures.value,
        ranks_long c.args.bytes.now 0 c.args.offsets.now,
        c.requires.few,
      );
    }
