use Rattle.std.proofs.Common.{◌≡◌, ◌++◌, drop, map}
use Rattle.segment_builder.specs.Entries.{bytes_lent}
use Rattle.segment_builder.specs.Terms.{entries_at, keyword_entry, once_after}
use Rattle.segment_builder.proofs.terms.put_later_keywords.Given as goal

abbrev pub invariant-rest : goal.invariant-rest
invariant-rest l =
    map keyword_entry l.into.items ++ entries_at l.doc (once_after l.last (bytes_lent (drop l.value-index l.rest))) ≡ map keyword_entry l.fn.into.items ++ entries_at l.doc (once_after l.fn.first (bytes_lent l.rest))
