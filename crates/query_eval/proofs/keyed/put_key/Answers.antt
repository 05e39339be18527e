use Rattle.std.proofs.Common.{rules, ltb, arith, get_or, refl}
use Rattle.std.proofs.lemmas.List.Sorted.{IsPartitionPoint-from_clause, IsPartitionedBy-ltb}
use Rattle.query_eval.specs.Keyed.{key_of}
use Rattle.query_eval.proofs.Leading.{keys_greater, low_false, low_true, put_end, put_start}
use Rattle.query_eval.proofs.keyed.put_key.Goals as goal

pub roots-init : goal.roots-init
roots-init c =
    let parted = IsPartitionedBy-ltb key_of c.args.roots.now c.args.key c.requires.sorted in
    let point = IsPartitionPoint-from_clause (λ k. ltb (key_of k) c.args.key) _ _ c.partition_point-at.ensures.partitioned parted (λ a r q k. search rules) in (
      refl,
      put_start c.args.roots.now c.args.key c.args.sets.now.items c.partition_point-at.result (λ j d before within. low_true (key_of (get_or c.args.roots.now j d)) c.args.key (point.0 j d (omega arith) before)),
      λ j d from within. low_false (key_of (get_or c.args.roots.now j d)) c.args.key (point.1 j d from within),
    )

pub returns-then-root-key-clause-led : goal.returns-then-root-key-clause-led
returns-then-root-key-clause-led c =
    put_end c.args.roots.now c.args.key c.args.sets.now.items c.roots.sets.items c.roots.at
    (keys_greater c.args.roots.now c.args.key c.roots.at _ c.requires.sorted c.roots-test.true (c.roots.invariant.2 c.roots.at _ (omega arith) c.roots-test.true) c.if-root-key.true)
    c.roots.invariant.1
