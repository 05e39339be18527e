use Rattle.std.proofs.Common.{◌≡◌, ◌+◌, ◌-◌, ◌*◌, ◌++◌, ℕ, ℤ, Bool, List, Some, None, length, sym, ap, subst, ◌∙◌, arith}
use Rattle.std.specs.List.{flat_map}
use Rattle.block_bits.specs.Flags.{is_marked}
use Rattle.block_bits.specs.Places.{next_place}
use Rattle.block_bits.specs.Walks.{Walking}
use Rattle.doc_values.specs.Values.{values_of}
use Rattle.bucket_aggs.specs.Sums.{IsAdded}
use Rattle.bucket_aggs.proofs.Documents.{gathered_end, gathered_on, left_of}
use Rattle.bucket_aggs.proofs.Sums.{room_less}
use Rattle.bucket_aggs.proofs.metrics.with_documents.Goals as goal

pub add_values-requires : goal.add_values-requires
add_values-requires c =
    room_less 4294967296 ((4294967295 - c.documents.walk.from) * 4294967296) c.documents.sums
    (omega (arith, c.in-Some.ensures.within, c.len-len.ensures, ap (λ (l : List Bool). length l) c.documents.invariant.0)) c.documents.invariant.1

pub documents-preserved : goal.documents-preserved
documents-preserved c =
    let flags : List Bool = c.args.set.now in
    let from : ℕ = c.documents.walk.from in
    let doc : ℕ = c.in-Some.doc in
    let of : ℕ → List ℤ = λ d. values_of d c.args.column.now in
    let total : List ℤ = flat_map of (left_of flags 0) in
    let next : Some doc ≡ next_place is_marked from flags = sym c.in-Some.is ∙ c.next.ensures.value ∙ ap (next_place is_marked from) c.documents.invariant.0 in
    let was = c.documents.invariant.2 in
    let new : List ℤ = was.0 ++ c.values_near-values.result in
    let left : ℕ = (4294967295 - c.next.new.self.from) * 4294967296 in (
      ap (λ (w : Walking). w.documents) c.in-Some.ensures.found ∙ c.documents.invariant.0,
      c.add_values.ensures.room left
          (room_less (left + 4294967296) ((4294967295 - from) * 4294967296) c.documents.sums
          (omega (arith, c.in-Some.ensures.within, c.len-len.ensures, ap (λ (l : List Bool). length l) c.documents.invariant.0, ap (λ (w : Walking). w.from) c.in-Some.ensures.found)) c.documents.invariant.1),
      (
        new,
        c.add_values.ensures.added c.args.start was.0 was.1,
        ap (λ (w : Walking). new ++ flat_map of (left_of flags w.from)) c.in-Some.ensures.found
            ∙ gathered_on of flags from doc was.0 new total next was.2 (ap (λ (l : List ℤ). was.0 ++ l) c.values_near-values.ensures.values),
      ),
    )

pub returns : goal.returns
returns c =
    let flags : List Bool = c.args.set.now in
    let from : ℕ = c.documents.walk.from in
    let of : ℕ → List ℤ = λ d. values_of d c.args.column.now in
    let was = c.documents.invariant.2 in
    let ended : None ≡ next_place is_marked from flags = sym c.in_default.is ∙ c.next.ensures.value ∙ ap (next_place is_marked from) c.documents.invariant.0 in
    subst (λ (l : List ℤ). IsAdded c.args.start l c.documents.sums) (gathered_end of flags from was.0 (flat_map of (left_of flags 0)) ended was.2) was.1
