use Rattle.std.proofs.Common.{rules, ℕ, List, w64}
use Rattle.std.specs.Cmp.Lexicographic.{slice_cmp}
use Rattle.std.specs.Int.{from_be_bytes}
use Rattle.std.specs.Ordering.{nat_cmp}
use Rattle.std.proofs.lemmas.List.Elements.{recursion_from_All}
use Rattle.std.proofs.lemmas.List.Sorted.{answers_always}
use Rattle.segment_builder.specs.Terms.{key_entry, IsKey}
use Rattle.segment_builder.proofs.Keyed.{risen}
use Rattle.segment_builder.proofs.Orders.{exact_bytes}
use Rattle.segment_builder.proofs.Ranked.{kept_at}
use Rattle.segment_builder.proofs.rows.sort_numbers.Goals as goal

pub returns-clause-same : goal.returns-clause-same
returns-clause-same c =
    kept_at (slice_cmp nat_cmp) exact_bytes key_entry (from_be_bytes w64) _ _ c.in_ok-sort_by_key.ensures.permutation
    (c.in_ok-sort_by_key.ensures.stable (λ (entry : List ℕ × ℕ). from_be_bytes w64 entry.0) (answers_always _ _ _ (λ f a r h called. search rules)))

pub returns-clause-rising : goal.returns-clause-rising
returns-clause-rising c =
    risen c.keys_are_ordered.ensures _ (recursion_from_All (λ (own : List ℕ × ℕ). IsKey own.0) _ (rw c.as_slice.ensures.value at c.keys_are_of_numbers.ensures))
    (c.in_ok-sort_by_key.ensures.sorted (λ (entry : List ℕ × ℕ). from_be_bytes w64 entry.0) (answers_always _ _ _ (λ f a r h called. search rules)))
