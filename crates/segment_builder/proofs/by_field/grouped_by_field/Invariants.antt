use Rattle.std.proofs.Common.{◌≡◌, ℕ, ◌++◌}
use Rattle.std.specs.Ordering.{nat_cmp}
use Rattle.std.specs.Vec.Iter.{into_iter_items}
use Rattle.segment_builder.specs.Groups.{of_key, in_groups, groups_seen, AreOrdered}
use Rattle.segment_builder.proofs.by_field.grouped_by_field.Given as goal

abbrev pub invariant-entries : goal.invariant-entries
invariant-entries g l =
    (goal.iterator-entries g).can_next l.field-iterator
    × (goal.iterator-entries g).is_finite l.field-iterator
    × ((any : ℕ) → in_groups nat_cmp any (groups_seen l.groups.items) ++ of_key nat_cmp any (into_iter_items l.field-iterator) ≡ of_key nat_cmp any l.fn.entries.items)
    × AreOrdered nat_cmp (groups_seen l.groups.items)
