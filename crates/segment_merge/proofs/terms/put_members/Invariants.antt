use Rattle.std.proofs.Common.{◌≡◌, ◌+◌, ◌++◌, drop, length, map}
use Rattle.std.specs.List.{flat_map}
use Rattle.term_table.specs.Part.{posting_text}
use Rattle.segment_merge.specs.TermRefs.{live_postings, place_lent}
use Rattle.segment_merge.proofs.terms.put_members.Given as goal

abbrev pub invariant-places : goal.invariant-places
invariant-places l =
    (l.count + length (flat_map live_postings (map place_lent (drop l.term-index l.places))) ≡ length (flat_map live_postings (map place_lent l.places)))
    × (l.into.items ++ flat_map posting_text (flat_map live_postings (map place_lent (drop l.term-index l.places))) ≡ l.fn.into.items ++ flat_map posting_text (flat_map live_postings (map place_lent l.places)))
