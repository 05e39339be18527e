use Rattle.std.proofs.Common.{◌≡◌, ◌++◌, ℕ, Bool, List, Some, None, sym, ap, ◌∙◌}
use Rattle.std.specs.List.{flat_map}
use Rattle.block_bits.specs.Flags.{is_marked}
use Rattle.block_bits.specs.Places.{next_place}
use Rattle.block_bits.specs.Walks.{Walking}
use Rattle.doc_values.specs.Values.{values_of}
use Rattle.bucket_aggs.specs.Counts.{once_by}
use Rattle.bucket_aggs.proofs.Documents.{gathered_end, gathered_on, left_of}
use Rattle.bucket_aggs.proofs.distinct.distinct_values.Goals as goal

pub documents-preserved : goal.documents-preserved
documents-preserved g c =
    let flags : List Bool = c.args.set.now in
    let from : ℕ = c.documents.walk.from in
    let doc : ℕ = c.in-Some.doc in
    let of : ℕ → List g.row.T.Denot = λ d. once_by g.T.Ord.cmp (values_of d c.args.column.now) in
    let old : List g.row.T.Denot = c.documents.made.items in
    let new : List g.row.T.Denot = c.put_once.new.made.items in
    let next : Some doc ≡ next_place is_marked from flags = sym c.in-Some.is ∙ c.next.ensures.value ∙ ap (next_place is_marked from) c.documents.invariant.0 in (
      ap (λ (w : Walking). w.documents) c.in-Some.ensures.found ∙ c.documents.invariant.0,
      ap (λ (w : Walking). new ++ flat_map of (left_of flags w.from)) c.in-Some.ensures.found
          ∙ gathered_on of flags from doc old new (flat_map of (left_of flags 0)) next c.documents.invariant.1 (c.in_ok-put_once.ensures ∙ ap (λ (l : List g.row.T.Denot). old ++ once_by g.T.Ord.cmp l) c.values_near-values.ensures.values),
    )

pub returns : goal.returns
returns g c =
    let flags : List Bool = c.args.set.now in
    let from : ℕ = c.documents.walk.from in
    let of : ℕ → List g.row.T.Denot = λ d. once_by g.T.Ord.cmp (values_of d c.args.column.now) in
    let ended : None ≡ next_place is_marked from flags = sym c.in_default.is ∙ c.next.ensures.value ∙ ap (next_place is_marked from) c.documents.invariant.0 in
    gathered_end of flags from c.documents.made.items (flat_map of (left_of flags 0)) ended c.documents.invariant.1
