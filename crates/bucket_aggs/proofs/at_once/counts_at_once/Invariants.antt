use Rattle.std.proofs.Common.{◌≡◌, ◌<◌, ◌+◌, ◌-◌, ℕ, false, [], length, get_or, replicate, count_by}
use Rattle.block_bits.specs.Flags.{is_marked}
use Rattle.postings.specs.Marks.{has_document}
use Rattle.query_eval.specs.Counted.{up_marks}
use Rattle.segment_parts.specs.Lists.{postings_of}
use Rattle.bucket_aggs.specs.Counts.{cut_from}
use Rattle.bucket_aggs.proofs.at_once.counts_at_once.Given as goal

abbrev pub invariant-terms : goal.invariant-terms
invariant-terms l =
    (length l.counts.own.items ≡ l.ordinal - l.first)
    × ((k : ℕ) → k < l.ordinal - l.first → get_or l.counts.own.items k 0 ≡ count_by is_marked (cut_from (λ doc. has_document doc (get_or (postings_of l.segment) (l.first + k) [])) 0 l.set))
    × (length l.counts.around.items ≡ l.ordinal - l.first)
    × ((k : ℕ) → k < l.ordinal - l.first → get_or l.counts.around.items k 0 ≡ up_marks l.segment l.to (cut_from (λ doc. has_document doc (get_or (postings_of l.segment) (l.first + k) [])) 0 l.set))
    × (l.marks ≡ replicate (length l.set) false)
