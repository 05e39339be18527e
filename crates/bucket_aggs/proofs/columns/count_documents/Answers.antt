use Rattle.std.proofs.Common.{◌≡◌, ◌+◌, ℕ, Bool, List, Some, None, cond, count_by, sym, ap, ◌∙◌, arith}
use Rattle.block_bits.specs.Flags.{is_marked}
use Rattle.block_bits.specs.Places.{next_place}
use Rattle.block_bits.specs.Walks.{Walking}
use Rattle.doc_values.specs.Values.{values_of}
use Rattle.segment_parts.specs.Text.{marked_places}
use Rattle.bucket_aggs.specs.Counts.{has_ordinal}
use Rattle.bucket_aggs.proofs.Documents.{left_of, sum_off, sum_on}
use Rattle.bucket_aggs.proofs.Ordinals.{list_alone}
use Rattle.bucket_aggs.proofs.Rowed.{count_mapped, one_if}
use Rattle.bucket_aggs.proofs.columns.count_documents.Goals as goal

pub documents-preserved : goal.documents-preserved
documents-preserved c =
    let flags : List Bool = c.args.set.now in
    let from : ℕ = c.documents.walk.from in
    let doc : ℕ = c.in-Some.doc in
    let next : Some doc ≡ next_place is_marked from flags = sym c.in-Some.is ∙ c.next.ensures.value ∙ ap (next_place is_marked from) c.documents.invariant.0 in (
      ap (λ (w : Walking). w.documents) c.in-Some.ensures.found ∙ c.documents.invariant.0,
      c.in_ok-count_values.ensures.long ∙ c.documents.invariant.1,
      λ k low.
          let passes : ℕ → Bool = λ d. has_ordinal (c.args.first + k) (values_of d c.args.column.now) in
          omega (
            arith,
            c.documents.invariant.2 k low,
            c.in_ok-count_values.ensures.each k (omega (arith, low, c.documents.invariant.1)),
            list_alone (c.args.first + k) c.values_near-values.result,
            ap (λ (vs : List ℕ). cond {A = ℕ} (has_ordinal (c.args.first + k) vs) 1 0) c.values_near-values.ensures.values,
            sum_on (one_if passes) flags from doc next,
            ap (λ (w : Walking). count_by passes (left_of flags w.from)) c.in-Some.ensures.found,
          ),
    )

pub returns : goal.returns
returns c =
    let flags : List Bool = c.args.set.now in
    let from : ℕ = c.documents.walk.from in
    let ended : None ≡ next_place is_marked from flags = sym c.in_default.is ∙ c.next.ensures.value ∙ ap (next_place is_marked from) c.documents.invariant.0 in
    record {
      long = c.documents.invariant.1;
      each = λ k low.
          let passes : ℕ → Bool = λ d. has_ordinal (c.args.first + k) (values_of d c.args.column.now) in
          omega (
            arith,
            c.documents.invariant.2 k low,
            sum_off (one_if passes) flags from ended,
            count_mapped (has_ordinal (c.args.first + k)) (λ d. values_of d c.args.column.now) (marked_places 0 flags),
          );
    }
