use Rattle.std.proofs.Common.{◌≡◌, ◌∙◌, ◌-◌, ◌+◌, ◌<◌, get_or, ap, subst, arith, inl, inr}
use Rattle.std.proofs.lemmas.Bool.{false≢true, cases_lt}
use Rattle.std.proofs.lemmas.List.{get_or_default}
use Rattle.doc_values.specs.Stands.{IsColumn}
use Rattle.segment_parts.specs.Fields.{fields}
use Rattle.segment_parts.proofs.Loops.{field_is, length-fields, rising_more}
use Rattle.segment_parts.proofs.columns.ColumnList.are_columns.Goals as goal
use Rattle.segment_parts.proofs.columns.ColumnList.are_columns.Goals.{else-at-gt0-via-then-at-gt0+else-field, else-at-gt0-via-else-at-gt0}

pub returns-then-field-clause-ascending : goal.returns-then-field-clause-ascending
returns-then-field-clause-ascending g c =
    let columns = c.args.columns.now in
    let at = c.columns.at in
    let last = field_is columns at c.index-columns-at.result c.field-field.result c.columns-test.true c.index-columns-at.is c.field-field.ensures.field in
    let first = field_is columns (at - 1) c.index-columns-at-then-at-gt0.result c.field.result (omega (arith, c.columns-test.true)) c.index-columns-at-then-at-gt0.is c.field.ensures.field in (
      λ no. absurd (false≢true no),
      λ all.
          let rises : get_or (fields columns) (at - 1) 0 < get_or (fields columns) (at - 1 + 1) 0 = all.1 (at - 1) (omega (arith, length-fields columns, c.columns-test.true, c.if-at-gt0.true)) in
          let same : get_or (fields columns) (at - 1 + 1) 0 ≡ get_or (fields columns) at 0 = ap (λ i. get_or (fields columns) i 0) (omega (arith, c.if-at-gt0.true)) in
          absurd (omega (arith, rises, same, last, first, c.if-field.true)),
    )

pub columns-preserved : goal.columns-preserved
columns-preserved g c =
    let columns = c.args.columns.now in
    let at = c.columns.at in
    let last = field_is columns at c.index-columns-at.result c.field-field.result c.columns-test.true c.index-columns-at.is c.field-field.ensures.field in (
      elim c.else-at-gt0.branch [
        | else-at-gt0-via-then-at-gt0+else-field w ↦
            let first = field_is columns (at - 1) w.index-columns-at-then-at-gt0.result w.field.result (omega (arith, c.columns-test.true)) w.index-columns-at-then-at-gt0.is w.field.ensures.field in
            rising_more (fields columns) at (omega (arith, w.if-at-gt0.true)) c.columns.invariant.0 (omega (arith, last, first, w.if-field.false))
        | else-at-gt0-via-else-at-gt0 w ↦ λ k below. absurd (omega (arith, w.if-at-gt0.false))
      ],
      λ k d from below. elim (cases_lt k at) [
        | inl earlier ↦ c.columns.invariant.1 k d from earlier
        | inr upto ↦
            let same : at ≡ k = omega arith in
            let is : c.index-columns-at.result ≡ get_or columns k d = c.index-columns-at.is ∙ ap (λ i. get_or columns i c.index-columns-at.result) same ∙ get_or_default columns k c.index-columns-at.result d (omega (arith, c.columns-test.true, same)) in
            subst (IsColumn g.T.Ord.cmp g.T.ColumnValue.Fits) is c.field-field.ensures.column
      ],
    )
