use Rattle.std.proofs.Common.{◌≡◌, ◌<◌, ◌+◌, ◌-◌, ℕ, [], length, get_or, count_by}
use Rattle.postings.specs.Postings.{ArePostings}
use Rattle.segment_parts.specs.Lists.{postings_of}
use Rattle.bucket_aggs.specs.Counts.{AreFound, is_posted}
use Rattle.bucket_aggs.proofs.posted.posting_sets.Given as goal

abbrev pub invariant-terms : goal.invariant-terms
invariant-terms l =
    (length l.counts.items ≡ l.ordinal - l.first)
    × ((k : ℕ) → k < l.ordinal - l.first → get_or l.counts.items k 0 ≡ count_by (is_posted l.set) (get_or (postings_of l.segment) (l.first + k) []))
    × ((k : ℕ) → k < l.ordinal - l.first → ArePostings (get_or (postings_of l.segment) (l.first + k) []))
    × AreFound l.segment l.set l.entry l.fn.found.items l.found.items
