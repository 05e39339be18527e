use Rattle.std.proofs.Common.{drop, map}
use Rattle.std.specs.Ordering.{nat_cmp}
use Rattle.flattener.specs.Seen.{word_seen}
use Rattle.segment_builder.specs.Groups.{groups_seen, AreOrdered}
use Rattle.segment_builder.specs.Members.{by_field, word_member}
use Rattle.segment_builder.specs.Parts.{tagged}
use Rattle.segment_builder.proofs.Added.{Adding}
use Rattle.segment_builder.proofs.entries.add_words.Given as goal

abbrev pub invariant-words : goal.invariant-words
invariant-words l =
    Adding word_member (by_field (tagged l.doc (map word_seen l.words))) l.fn.into.items (by_field (tagged l.doc (map word_seen (drop l.word-index l.words)))) l.into.items
    × AreOrdered nat_cmp (groups_seen l.into.items)
