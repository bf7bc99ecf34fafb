use Rattle.std.proofs.Common.{rules, ltb}
use Rattle.std.proofs.lemmas.List.Sorted.{IsPartitionedBy-ltb, IsPartitionPoint-from_clause}
use Rattle.paw_image.proofs.order.index_of_rank.Goals as goal

pub returns : goal.returns
returns c =
    let run = c.args.run.now in
    record {
      parts = IsPartitionPoint-from_clause (λ r. ltb r c.args.least) run _ c.partition_point.ensures.partitioned
          (IsPartitionedBy-ltb (λ r. r) run c.args.least c.requires.rises) (λ a r q k. search rules);
    }
