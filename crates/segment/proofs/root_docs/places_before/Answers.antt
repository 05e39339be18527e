use Rattle.std.proofs.Common.{ltb, rules, arith, sym}
use Rattle.std.proofs.lemmas.List.Sorted.{IsPartitionPoint-from_clause, IsPartitionedBy-ltb}
use Rattle.std.proofs.lemmas.List.Sums.{prefix_len_is}
use Rattle.segment.proofs.root_docs.places_before.Goals as goal

pub returns : goal.returns
returns c =
    let parted = IsPartitionedBy-ltb (λ place. place) c.args.places.now c.args.doc c.requires in
    let point = IsPartitionPoint-from_clause (λ place. ltb place c.args.doc) _ _ c.partition_point.ensures.partitioned parted (λ a r q k. search rules) in
    sym (prefix_len_is (λ place. ltb place c.args.doc) c.args.places.now c.partition_point.result 0 c.partition_point.ensures.bound
    (λ k h. point.0 k 0 (omega arith) h)
    (λ h. point.1 c.partition_point.result 0 (omega arith) h))
