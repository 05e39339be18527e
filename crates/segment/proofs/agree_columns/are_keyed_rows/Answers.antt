use Rattle.std.proofs.Common.{◌∙◌, Some, ℕ, ℤ, List, All, sym, ap, arith}
use Rattle.segment_parts.specs.Agree.{IsKeyed}
use Rattle.segment_parts.specs.Lists.{terms_of, postings_of}
use Rattle.segment_parts.specs.Passes.{pass_more, answer_all, answer_not}
use Rattle.segment.proofs.agree_columns.are_keyed_rows.Goals as goal

pub returns-then-not-are_keyed : goal.returns-then-not-are_keyed
returns-then-not-are_keyed c =
    answer_not (λ (row : ℕ × List ℤ). All (λ value. IsKeyed (terms_of c.args.parts.now) (postings_of c.args.parts.now) c.args.field row.0 value) row.1) c.args.column.now c.rows.row (c.doc.result, c.row_values.result) c.are_keyed.result
    (c.row_values.ensures ∙ ap (λ (d : ℕ). Some (d, c.row_values.result)) (sym c.doc.ensures)) c.are_keyed.ensures c.if-not-are_keyed.true

pub rows-preserved : goal.rows-preserved
rows-preserved c =
    pass_more (λ (row : ℕ × List ℤ). All (λ value. IsKeyed (terms_of c.args.parts.now) (postings_of c.args.parts.now) c.args.field row.0 value) row.1) c.args.column.now c.rows.row (c.doc.result, c.row_values.result) c.rows.invariant
    (c.row_values.ensures ∙ ap (λ (d : ℕ). Some (d, c.row_values.result)) (sym c.doc.ensures)) (c.are_keyed.ensures.0 c.if-not-are_keyed.false)

pub returns : goal.returns
returns c = answer_all (λ (row : ℕ × List ℤ). All (λ value. IsKeyed (terms_of c.args.parts.now) (postings_of c.args.parts.now) c.args.field row.0 value) row.1) c.args.column.now c.rows.row c.rows.invariant (omega (arith, c.rows-test.false, c.rows-row-end.ensures.count))
