use Rattle.std.proofs.Common.{◌≡◌, ◌<◌, ◌+◌, ◌-◌, ℕ, [], length, get_or, count_by}
use Rattle.postings.specs.Postings.{ArePostings}
use Rattle.bucket_aggs.specs.Counts.{is_posted}
use Rattle.bucket_aggs.proofs.posted.posting_counts.Given as goal

abbrev pub invariant-terms : goal.invariant-terms
invariant-terms l =
    (length l.counts.items ≡ l.ordinal - l.first)
    × ((k : ℕ) → k < l.ordinal - l.first → get_or l.counts.items k 0 ≡ count_by (is_posted l.set) (get_or l.postings (l.first + k) []))
    × ((k : ℕ) → k < l.ordinal - l.first → ArePostings (get_or l.postings (l.first + k) []))
