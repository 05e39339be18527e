use Rattle.std.proofs.Common.{◌≡◌, ◌++◌, drop}
use Rattle.std.specs.List.{flat_map}
use Rattle.segment_builder.specs.Groups.{groups_seen}
use Rattle.segment_merge.specs.ByField.{group_text}
use Rattle.segment_merge.proofs.by_field.put_groups.Given as goal

abbrev pub invariant-groups : goal.invariant-groups
invariant-groups g l =
    l.into.items ++ flat_map (group_text g.P.PartItems.count g.P.PartItems.text) (groups_seen (drop l.field-index l.groups))
    ≡ l.fn.into.items ++ flat_map (group_text g.P.PartItems.count g.P.PartItems.text) (groups_seen l.groups)
