use Rattle.std.proofs.Common.{rules, arith, sym}
use Rattle.std.proofs.lemmas.List.Sorted.{IsPartitionPoint-from_clause, IsPartitionedBy-ltb}
use Rattle.std.proofs.lemmas.List.Sums.{prefix_len_is}
use Rattle.extent_pool.specs.declared.extent.Extent.{Extent}
use Rattle.extent_pool.specs.Changes.{begins_before}
use Rattle.extent_pool.proofs.taken.place_of.Goals as goal

pub returns : goal.returns
returns c =
    let parted = IsPartitionedBy-ltb (λ e. e.at) c.args.extents.now c.args.byte c.requires in
    let point = IsPartitionPoint-from_clause (begins_before c.args.byte) _ _ c.partition_point.ensures.partitioned parted (λ a r q k. search rules) in
    let d : Extent = record { at = 0; len = 0 } in
    sym (prefix_len_is (begins_before c.args.byte) c.args.extents.now c.partition_point.result d c.partition_point.ensures.bound
    (λ k h. point.0 k d (omega arith) h)
    (λ h. point.1 c.partition_point.result d (omega arith) h))
