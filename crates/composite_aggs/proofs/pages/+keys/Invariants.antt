use Rattle.std.proofs.Common.{◌≡◌, ◌≤◌, ◌+◌, ◌*◌, length, map, drop}
use Rattle.std.specs.List.{flat_map}
use Rattle.std.specs.Option.{option_copied}
use Rattle.composite_aggs.specs.Composite.{combinations, with_value}
use Rattle.composite_aggs.specs.Kept.{Ascends, added_all, bucket_of, prefixed}
use Rattle.composite_aggs.proofs.pages.+keys.Given as goal

abbrev pub decreases-add_keys : goal.decreases-add_keys
decreases-add_keys l = 2 * length l.parts.now

abbrev pub decreases-add_values : goal.decreases-add_values
decreases-add_values l = 2 * length l.parts.now + 1

abbrev pub invariant-add_values-loop-value : goal.invariant-add_values-loop-value
invariant-add_values-loop-value l =
    (added_all (option_copied l.after) l.size l.place (map (prefixed (map (λ v. v.now) l.fn.key.items)) (flat_map (λ w. map (with_value w) (combinations l.parts)) (drop l.value-index l.values))) (map bucket_of l.kept.items)
    ≡ added_all (option_copied l.after) l.size l.place (map (prefixed (map (λ v. v.now) l.fn.key.items)) (flat_map (λ w. map (with_value w) (combinations l.parts)) l.values)) (map bucket_of l.fn.kept.items))
    × (map (λ v. v.now) l.key.items ≡ map (λ v. v.now) l.fn.key.items)
    × Ascends (map bucket_of l.kept.items)
    × (length l.kept.items ≤ l.size)
    × (l.depth ≡ length l.fn.key.items)
