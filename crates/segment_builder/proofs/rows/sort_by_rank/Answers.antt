use Rattle.std.proofs.Common.{rules}
use Rattle.std.specs.Cmp.Lexicographic.{slice_cmp}
use Rattle.std.specs.Ordering.{nat_cmp}
use Rattle.std.proofs.lemmas.List.Sorted.{answers_always}
use Rattle.segment_builder.specs.Terms.{rank, term_entry}
use Rattle.segment_builder.proofs.Orders.{exact_bytes}
use Rattle.segment_builder.proofs.Ranked.{kept_at}
use Rattle.segment_builder.proofs.rows.sort_by_rank.Goals as goal

pub returns : goal.returns
returns g c =
    kept_at (slice_cmp nat_cmp) exact_bytes (term_entry g.T.Term.bytes g.T.Term.positions) rank _ _
    c.in_ok-sort_by_cached_key.ensures.permutation
    (c.in_ok-sort_by_cached_key.ensures.stable (λ entry. rank (g.T.Term.bytes entry.0)) (answers_always _ _ _ (λ f a r h called. search rules)))
