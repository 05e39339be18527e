use Rattle.std.proofs.Common.{◌∙◌, Some, ℕ, List, All, sym, ap, arith}
use Rattle.segment_parts.specs.Agree.{IsOrdinalAt}
use Rattle.segment_parts.specs.Lists.{terms_of, postings_of}
use Rattle.segment_parts.specs.Passes.{pass_more, answer_all, answer_not}
use Rattle.segment.proofs.agree_columns.are_ordinal_rows.Goals as goal

pub returns-then-not-are_ordinals : goal.returns-then-not-are_ordinals
returns-then-not-are_ordinals c =
    answer_not (λ (row : ℕ × List ℕ). All (λ value. IsOrdinalAt (terms_of c.args.parts.now) (postings_of c.args.parts.now) c.args.field row.0 value) row.1) c.args.column.now c.rows.row (c.doc.result, c.row_values.result) c.are_ordinals.result
    (c.row_values.ensures ∙ ap (λ (d : ℕ). Some (d, c.row_values.result)) (sym c.doc.ensures)) c.are_ordinals.ensures c.if-not-are_ordinals.true

pub rows-preserved : goal.rows-preserved
rows-preserved c =
    pass_more (λ (row : ℕ × List ℕ). All (λ value. IsOrdinalAt (terms_of c.args.parts.now) (postings_of c.args.parts.now) c.args.field row.0 value) row.1) c.args.column.now c.rows.row (c.doc.result, c.row_values.result) c.rows.invariant
    (c.row_values.ensures ∙ ap (λ (d : ℕ). Some (d, c.row_values.result)) (sym c.doc.ensures)) (c.are_ordinals.ensures.0 c.if-not-are_ordinals.false)

pub returns : goal.returns
returns c = answer_all (λ (row : ℕ × List ℕ). All (λ value. IsOrdinalAt (terms_of c.args.parts.now) (postings_of c.args.parts.now) c.args.field row.0 value) row.1) c.args.column.now c.rows.row c.rows.invariant (omega (arith, c.rows-test.false, c.rows-row-end.ensures.count))
