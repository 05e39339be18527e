use Rattle.std.proofs.Common.{rules}
use Rattle.std.specs.Cmp.Lexicographic.{slice_cmp}
use Rattle.std.specs.Ordering.{nat_cmp}
use Rattle.std.proofs.lemmas.Cmp.{nat_list_cmp_total}
use Rattle.std.proofs.lemmas.List.Sorted.{answers_always, ranks_by}
use Rattle.segment_builder.specs.Terms.{term_entry}
use Rattle.segment_builder.proofs.Orders.{exact_bytes}
use Rattle.segment_builder.proofs.Ranked.{kept_by, risen_by}
use Rattle.segment_builder.proofs.rows.sort_by_bytes.Goals as goal

pub returns-clause-same : goal.returns-clause-same
returns-clause-same g c =
    kept_by (slice_cmp nat_cmp) exact_bytes (term_entry g.T.Term.bytes g.T.Term.positions) (λ bytes. 0) _ _ c.in_ok-sort_by.ensures.permutation
    (c.in_ok-sort_by.ensures.stable _ (ranks_by nat_list_cmp_total (λ e. g.T.Term.bytes e.0)) (answers_always _ _ _ (λ f a r h called. search rules)))

pub returns-clause-rising : goal.returns-clause-rising
returns-clause-rising g c =
    risen_by (slice_cmp nat_cmp) exact_bytes (term_entry g.T.Term.bytes g.T.Term.positions) (λ bytes. 0) (ranks_by nat_list_cmp_total (λ e. g.T.Term.bytes e.0)) _
    (c.in_ok-sort_by.ensures.sorted _ (ranks_by nat_list_cmp_total (λ e. g.T.Term.bytes e.0)) (answers_always _ _ _ (λ f a r h called. search rules)))
