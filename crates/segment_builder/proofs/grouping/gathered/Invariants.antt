use Rattle.std.proofs.Common.{◌≡◌, ◌++◌}
use Rattle.std.specs.Vec.Iter.{into_iter_items}
use Rattle.segment_builder.specs.Groups.{of_key, in_groups, groups_seen, AreOrdered, AreRising}
use Rattle.segment_builder.proofs.InOrder.{AreBehind}
use Rattle.segment_builder.proofs.grouping.gathered.Given as goal

abbrev pub invariant-entries : goal.invariant-entries
invariant-entries g l =
    (goal.iterator-entries g).can_next l.key-iterator
    × (goal.iterator-entries g).is_finite l.key-iterator
    × ((any : g.row.K.Denot) → in_groups g.K.Ord.cmp any (groups_seen l.groups.items) ++ of_key g.K.Ord.cmp any (into_iter_items l.key-iterator) ≡ of_key g.K.Ord.cmp any l.fn.entries.items)
    × AreRising g.K.Ord.cmp (into_iter_items l.key-iterator)
    × AreOrdered g.K.Ord.cmp (groups_seen l.groups.items)
    × AreBehind g.K.Ord.cmp g.met.K.Ord.total (into_iter_items l.key-iterator) (groups_seen l.groups.items)
