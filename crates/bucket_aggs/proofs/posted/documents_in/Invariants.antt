use Rattle.std.proofs.Common.{◌≡◌, ◌≤◌, ◌+◌, ◌-◌, length, drop, count_by}
use Rattle.bucket_aggs.specs.Counts.{is_posted}
use Rattle.bucket_aggs.proofs.posted.documents_in.Given as goal

-- of the postings passed those that count
abbrev pub invariant-postings : goal.invariant-postings
invariant-postings l =
    (l.cursor.postings ≡ l.fn.cursor.postings)
    × (l.count ≤ l.cursor.at)
    × (l.count + count_by (is_posted l.set) (drop l.cursor.at l.fn.cursor.postings) ≡ count_by (is_posted l.set) l.fn.cursor.postings)

abbrev pub decreases-postings : goal.decreases-postings
decreases-postings l = length l.cursor.postings - l.cursor.at
