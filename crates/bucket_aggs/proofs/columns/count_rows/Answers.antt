use Rattle.std.proofs.Common.{◌≡◌, ◌<◌, ◌+◌, ℕ, true, false, List, length, slice_index, get_or, refl, sym, ap, subst, ◌∙◌, arith}
use Rattle.std.specs.Ordering.{nat_cmp}
use Rattle.std.proofs.lemmas.Option.{get_or_from_slice_get}
use Rattle.doc_values.specs.Values.{AreValues, documents, values_of}
use Rattle.segment_parts.specs.Text.{marked_places}
use Rattle.bucket_aggs.specs.Counts.{has_ordinal}
use Rattle.bucket_aggs.proofs.Ordinals.{list_alone}
use Rattle.bucket_aggs.proofs.Rowed.{count_mapped, row_off, row_on, rows_ascend, rows_counted, rows_end}
use Rattle.bucket_aggs.proofs.columns.count_rows.Goals.{then-is_in+in_ok-count_values, else-is_in}
use Rattle.bucket_aggs.proofs.columns.count_rows.Goals as goal

pub count_values-requires : goal.count_values-requires
count_values-requires c =
    let x : ℕ × List ℕ = (slice_index (documents c.args.column.now) c.rows.row, c.row_values.result) in
    let at : get_or c.args.column.now c.rows.row x ≡ x = get_or_from_slice_get c.args.column.now c.rows.row x x c.row_values.ensures in
    let own : AreValues nat_cmp (get_or c.args.column.now c.rows.row x).1 = c.values-ascending.ensures.rows.valued c.rows.row x (omega (arith, c.rows-test.true, c.rows-row-end.ensures.count)) in
    (subst (λ (row : ℕ × List ℕ). AreValues nat_cmp row.1) at own).ascending

pub rows-preserved : goal.rows-preserved
rows-preserved c =
    let low : c.rows.row < length c.args.column.now = omega (arith, c.rows-test.true, c.rows-row-end.ensures.count) in
    elim c.if-is_in.branch [
      | then-is_in+in_ok-count_values w ↦
          let held : get_or c.args.set.now c.doc-doc.result false ≡ true = sym c.is_in.ensures ∙ w.if-is_in.true in (
            ap (λ v. length v.items) w.counts-is ∙ w.in_ok-count_values.ensures.long ∙ c.rows.invariant.0,
            λ k inside.
                omega (
                  arith,
                  c.rows.invariant.1 k inside,
                  ap (λ v. get_or v.items k 0) w.counts-is,
                  w.in_ok-count_values.ensures.each k (omega (arith, inside, c.rows.invariant.0)),
                  list_alone (c.args.first + k) w.row_values.result,
                  row_on (has_ordinal (c.args.first + k)) refl c.args.set.now c.args.column.now c.rows.row c.doc-doc.result w.row_values.result low c.doc-doc.ensures w.row_values.ensures held,
                ),
          )
      | else-is_in w ↦
          let failed : get_or c.args.set.now c.doc-doc.result false ≡ false = sym c.is_in.ensures ∙ w.if-is_in.false in (
            ap (λ v. length v.items) w.counts-is ∙ c.rows.invariant.0,
            λ k inside.
                omega (
                  arith,
                  c.rows.invariant.1 k inside,
                  ap (λ v. get_or v.items k 0) w.counts-is,
                  row_off (has_ordinal (c.args.first + k)) refl c.args.set.now c.args.column.now c.rows.row c.doc-doc.result low c.doc-doc.ensures failed,
                ),
          )
    ]

pub returns : goal.returns
returns c = record {
  long = c.rows.invariant.0;
  each = λ k inside.
      omega (
        arith,
        c.rows.invariant.1 k inside,
        rows_end (has_ordinal (c.args.first + k)) refl c.args.set.now c.args.column.now c.rows.row (omega (arith, c.rows-test.false, c.rows-row-end.ensures.count)),
        rows_counted (has_ordinal (c.args.first + k)) refl c.args.set.now c.args.column.now (rows_ascend c.args.column.now c.rows-row-end.ensures.ascending),
        count_mapped (has_ordinal (c.args.first + k)) (λ d. values_of d c.args.column.now) (marked_places 0 c.args.set.now),
      );
}
