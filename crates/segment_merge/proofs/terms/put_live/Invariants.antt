use Rattle.std.proofs.Common.{◌≡◌, ◌+◌, ◌-◌, ◌++◌, drop, length, [], slice_index_or}
use Rattle.std.specs.List.{flat_map}
use Rattle.segment_parts.specs.Lists.{postings_of}
use Rattle.term_table.specs.Part.{posting_text}
use Rattle.segment_merge.specs.Merged.{kept}
use Rattle.segment_merge.specs.TermRefs.{live_postings, place_lent}
use Rattle.segment_merge.proofs.terms.put_live.Given as goal

abbrev pub invariant-postings : goal.invariant-postings
invariant-postings l =
    (l.cursor.postings ≡ slice_index_or (postings_of l.term.part.now.entry.columns) l.term.ordinal [])
    × (l.count + length (kept l.term.part.now.base l.term.part.now.entry.live.docs (drop l.cursor.at l.cursor.postings)) ≡ length (live_postings (place_lent l.term)))
    × (l.into.items ++ flat_map posting_text (kept l.term.part.now.base l.term.part.now.entry.live.docs (drop l.cursor.at l.cursor.postings)) ≡ l.fn.into.items ++ flat_map posting_text (live_postings (place_lent l.term)))

abbrev pub decreases-postings : goal.decreases-postings
decreases-postings l = length l.cursor.postings - l.cursor.at
