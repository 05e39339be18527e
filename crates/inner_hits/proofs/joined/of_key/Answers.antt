use Rattle.std.proofs.Common.{rules, ltb, arith, ◌++◌, List, drop, filter, get_or, map, ap, ◌∙◌}
use Rattle.std.proofs.lemmas.List.Sorted.{IsPartitionPoint-from_clause, IsPartitionedBy-ltb}
use Rattle.view_objects.specs.declared.hit.Hit.{Hit}
use Rattle.inner_hits.specs.Kinship.{has_key, hit_of, key_of}
use Rattle.inner_hits.proofs.Sorted.{done_all, done_at, low_false, low_true, none_ahead}
use Rattle.inner_hits.proofs.joined.of_key.Goals as goal

pub kin-init : goal.kin-init
kin-init c =
    let parted = IsPartitionedBy-ltb key_of c.args.kin.now c.args.key c.requires in
    let point = IsPartitionPoint-from_clause (λ k. ltb (key_of k) c.args.key) _ _ c.partition_point-at.ensures.partitioned parted (λ a r q k. search rules) in (
      ap (λ (l : List Hit). l ++ map hit_of (filter (has_key c.args.key) (drop c.partition_point-at.result c.args.kin.now))) c.new-hits.ensures.items
          ∙ ap (map hit_of) (none_ahead c.args.kin.now c.args.key c.partition_point-at.result (λ j d before within. low_true (key_of (get_or c.args.kin.now j d)) c.args.key (point.0 j d (omega arith) before))),
      λ j d from within. low_false (key_of (get_or c.args.kin.now j d)) c.args.key (point.1 j d from within),
    )

pub returns-then-kin-at : goal.returns-then-kin-at
returns-then-kin-at c =
    done_at c.args.kin.now c.args.key c.kin.at _ c.kin.hits.items (map hit_of (filter (has_key c.args.key) c.args.kin.now)) c.requires (c.kin.invariant.1 c.kin.at _ (omega arith) c.kin-test.true) c.if-kin-at.true c.kin-test.true c.kin.invariant.0

pub returns : goal.returns
returns c = done_all c.args.kin.now c.args.key c.kin.at c.kin.hits.items (map hit_of (filter (has_key c.args.key) c.args.kin.now)) (omega (arith, c.kin-test.false)) c.kin.invariant.0
