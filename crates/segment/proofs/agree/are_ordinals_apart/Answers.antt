use Rattle.std.proofs.Common.{◌∙◌, ap, ℕ, List, IsNone, arith}
use Rattle.segment_parts.specs.Fields.{column_of}
use Rattle.segment_parts.specs.Passes.{pass_more, answer_all, none_seen, none_same}
use Rattle.segment.proofs.agree.are_ordinals_apart.Goals as goal

pub columns-preserved : goal.columns-preserved
columns-preserved c =
    pass_more (λ (column : ℕ × List (ℕ × List ℕ)). IsNone (column_of column.0 c.args.parts.now.numbers) × IsNone (column_of column.0 c.args.parts.now.present)) c.args.parts.now.ordinals c.columns.at c.ordinal_column-field.result c.columns.invariant c.ordinal_column-field.ensures (
      none_same c.numbers.result _ c.is_some.result c.is_some.ensures c.if-is_some.false c.numbers.ensures,
      none_seen _ c.get.result _ c.is_some-else-is_some.result c.is_some-else-is_some.ensures c.if-is_some-2.false (c.get.ensures ∙ ap (column_of c.ordinal_column-field.result.0) c.present.ensures),
    )

pub returns : goal.returns
returns c = answer_all (λ (column : ℕ × List (ℕ × List ℕ)). IsNone (column_of column.0 c.args.parts.now.numbers) × IsNone (column_of column.0 c.args.parts.now.present)) c.args.parts.now.ordinals c.columns.at c.columns.invariant (omega (arith, c.columns-test.false, c.ordinal_columns-at-end.ensures))
