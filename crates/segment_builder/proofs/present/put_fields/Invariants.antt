use Rattle.std.proofs.Common.{◌≡◌, ◌++◌, drop}
use Rattle.std.specs.List.{flat_map}
use Rattle.segment_parts.specs.Text.{presence_text}
use Rattle.segment_builder.specs.Groups.{groups_seen}
use Rattle.segment_builder.specs.Made.{marked_groups}
use Rattle.segment_builder.proofs.present.put_fields.Given as goal

abbrev pub invariant-groups : goal.invariant-groups
invariant-groups l =
    l.into.items ++ flat_map presence_text (marked_groups l.documents (groups_seen (drop l.field-index l.groups))) ≡ l.fn.into.items ++ flat_map presence_text (marked_groups l.documents (groups_seen l.groups))
