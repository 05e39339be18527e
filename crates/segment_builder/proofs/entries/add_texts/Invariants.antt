use Rattle.std.proofs.Common.{drop}
use Rattle.std.specs.Ordering.{nat_cmp}
use Rattle.segment_builder.specs.Groups.{groups_seen, AreOrdered}
use Rattle.segment_builder.specs.Members.{text_member}
use Rattle.segment_builder.specs.Parts.{fields_with}
use Rattle.segment_builder.proofs.Added.{Adding}
use Rattle.segment_builder.proofs.entries.add_texts.Given as goal

abbrev pub invariant-fields : goal.invariant-fields
invariant-fields l =
    Adding text_member (fields_with l.doc l.fields) l.fn.into.items (fields_with l.doc (drop l.field-index l.fields)) l.into.items
    × AreOrdered nat_cmp (groups_seen l.into.items)
