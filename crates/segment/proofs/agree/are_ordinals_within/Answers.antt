use Rattle.std.proofs.Common.{ℕ, List, subst, arith}
use Rattle.segment_parts.specs.Agree.{AreWithin}
use Rattle.segment_parts.specs.Passes.{pass_more, answer_all}
use Rattle.segment.proofs.agree.are_ordinals_within.Goals as goal

pub columns-preserved : goal.columns-preserved
columns-preserved c =
    pass_more (λ (column : ℕ × List (ℕ × List ℕ)). AreWithin c.args.parts.now.documents column.1) c.args.parts.now.ordinals c.columns.at c.ordinal_column-column.result c.columns.invariant c.ordinal_column-column.ensures
    (subst (λ count. AreWithin count c.ordinal_column-column.result.1) c.documents.ensures (c.are_within.ensures.0 c.if-not-are_within.false))

pub returns : goal.returns
returns c = answer_all (λ (column : ℕ × List (ℕ × List ℕ)). AreWithin c.args.parts.now.documents column.1) c.args.parts.now.ordinals c.columns.at c.columns.invariant (omega (arith, c.columns-test.false, c.ordinal_columns-at-end.ensures))
