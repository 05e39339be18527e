use Rattle.std.proofs.Common.{◌≡◌, ◌<◌, ◌+◌, ◌∷◌, [], ℕ, true, false, List, Some, length, slice_get, get_or, refl, sym, ap, ◌∙◌, arith}
use Rattle.doc_values.specs.Values.{documents, values_of}
use Rattle.segment_parts.specs.Text.{marked_places}
use Rattle.bucket_aggs.specs.Counts.{has_ordinal}
use Rattle.bucket_aggs.proofs.Ordinals.{list_alone}
use Rattle.bucket_aggs.proofs.Rowed.{count_mapped, row_off, row_on, rows_ascend, rows_counted, rows_end}
use Rattle.bucket_aggs.proofs.Told.{document_below, document_of}
use Rattle.bucket_aggs.proofs.columns.count_single_rows.Goals.{then-has+in_ok-count_one, else-has}
use Rattle.bucket_aggs.proofs.columns.count_single_rows.Goals as goal

pub has-requires : goal.has-requires
has-requires c =
    let low : c.rows.at < length c.args.rows.now = omega (arith, c.rows-test.true, c.len-at-end.ensures) in
    document_below c.args.rows.now c.rows.at c.row-own.result.0 (length c.args.set.now) (c.row-own.result.1 ∷ []) low c.row-own.ensures c.requires.within

pub rows-preserved : goal.rows-preserved
rows-preserved c =
    let rows : List (ℕ × List ℕ) = c.args.rows.now in
    let at : ℕ = c.rows.at in
    let doc : ℕ = c.row-own.result.0 in
    let values : List ℕ = c.row-own.result.1 ∷ [] in
    let low : at < length rows = omega (arith, c.rows-test.true, c.len-at-end.ensures) in
    let here : doc ≡ get_or (documents rows) at 0 = document_of rows at doc values low c.row-own.ensures in
    let is : slice_get rows at ≡ Some (get_or (documents rows) at 0, values) = c.row-own.ensures ∙ ap (λ (d : ℕ). Some (d, values)) here in
    elim c.if-has.branch [
      | then-has+in_ok-count_one w ↦
          let held : get_or c.args.set.now doc false ≡ true = sym c.has.ensures ∙ w.if-has.true in (
            ap (λ v. length v.items) w.counts-is ∙ w.in_ok-count_one.ensures.long ∙ c.rows.invariant.0,
            λ k inside.
                omega (
                  arith,
                  c.rows.invariant.1 k inside,
                  ap (λ v. get_or v.items k 0) w.counts-is,
                  w.in_ok-count_one.ensures.each k (omega (arith, inside, c.rows.invariant.0)),
                  list_alone (c.args.first + k) values,
                  row_on (has_ordinal (c.args.first + k)) refl c.args.set.now rows at doc values low here is held,
                ),
          )
      | else-has w ↦
          let failed : get_or c.args.set.now doc false ≡ false = sym c.has.ensures ∙ w.if-has.false in (
            ap (λ v. length v.items) w.counts-is ∙ c.rows.invariant.0,
            λ k inside.
                omega (
                  arith,
                  c.rows.invariant.1 k inside,
                  ap (λ v. get_or v.items k 0) w.counts-is,
                  row_off (has_ordinal (c.args.first + k)) refl c.args.set.now rows at doc low here failed,
                ),
          )
    ]

pub returns : goal.returns
returns c = record {
  long = c.rows.invariant.0;
  each = λ k inside.
      omega (
        arith,
        c.rows.invariant.1 k inside,
        rows_end (has_ordinal (c.args.first + k)) refl c.args.set.now c.args.rows.now c.rows.at (omega (arith, c.rows-test.false, c.len-at-end.ensures)),
        rows_counted (has_ordinal (c.args.first + k)) refl c.args.set.now c.args.rows.now (rows_ascend c.args.rows.now c.requires.ascending),
        count_mapped (has_ordinal (c.args.first + k)) (λ d. values_of d c.args.rows.now) (marked_places 0 c.args.set.now),
      );
}
