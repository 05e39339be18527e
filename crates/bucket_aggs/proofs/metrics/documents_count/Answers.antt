use Rattle.std.proofs.Common.{◌≡◌, ℕ, Bool, List, Some, None, length, sum_by, sym, ap, ◌∙◌, arith}
use Rattle.block_bits.specs.Flags.{is_marked}
use Rattle.block_bits.specs.Places.{next_place}
use Rattle.block_bits.specs.Walks.{Walking}
use Rattle.doc_values.specs.Values.{values_of}
use Rattle.bucket_aggs.proofs.Documents.{left_of, sum_off, sum_on}
use Rattle.bucket_aggs.proofs.metrics.documents_count.Goals as goal

pub documents-preserved : goal.documents-preserved
documents-preserved g c =
    let flags : List Bool = c.args.set.now in
    let from : ℕ = c.documents.walk.from in
    let doc : ℕ = c.in-Some.doc in
    let of : ℕ → ℕ = λ d. length (values_of d c.args.column.now) in
    let next : Some doc ≡ next_place is_marked from flags = sym c.in-Some.is ∙ c.next.ensures.value ∙ ap (next_place is_marked from) c.documents.invariant.0 in (
      ap (λ (w : Walking). w.documents) c.in-Some.ensures.found ∙ c.documents.invariant.0,
      omega (
        arith,
        c.documents.invariant.1,
        c.in-Some-checked_add.ensures.1,
        c.from.ensures,
        c.len.ensures,
        ap length c.values_near-values.ensures.values,
        sum_on of flags from doc next,
        ap (λ (w : Walking). sum_by of (left_of flags w.from)) c.in-Some.ensures.found,
      ),
    )

pub returns : goal.returns
returns g c =
    let flags : List Bool = c.args.set.now in
    let from : ℕ = c.documents.walk.from in
    let of : ℕ → ℕ = λ d. length (values_of d c.args.column.now) in
    let ended : None ≡ next_place is_marked from flags = sym c.in_default.is ∙ c.next.ensures.value ∙ ap (next_place is_marked from) c.documents.invariant.0 in
    omega (arith, c.documents.invariant.1, sum_off of flags from ended)
