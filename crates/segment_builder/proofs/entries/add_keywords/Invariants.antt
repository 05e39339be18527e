use Rattle.std.proofs.Common.{drop, map}
use Rattle.std.specs.Ordering.{nat_cmp}
use Rattle.flattener.specs.Seen.{keyword_seen}
use Rattle.segment_builder.specs.Groups.{groups_seen, AreOrdered}
use Rattle.segment_builder.specs.Members.{keyword_member}
use Rattle.segment_builder.specs.Parts.{tagged}
use Rattle.segment_builder.proofs.Added.{Adding}
use Rattle.segment_builder.proofs.entries.add_keywords.Given as goal

abbrev pub invariant-fields : goal.invariant-fields
invariant-fields l =
    Adding keyword_member (tagged l.doc (map keyword_seen l.fields)) l.fn.into.items (tagged l.doc (map keyword_seen (drop l.field-index l.fields))) l.into.items
    × AreOrdered nat_cmp (groups_seen l.into.items)
