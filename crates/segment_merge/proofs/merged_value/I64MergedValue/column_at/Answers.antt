use Rattle.std.proofs.Common.{ℕ, ℤ, List}
use Rattle.segment_parts.specs.Agree.{AreWithin}
use Rattle.segment_merge.proofs.Pieced.{held_at}
use Rattle.segment_merge.proofs.merged_value.I64MergedValue.column_at.Goals as goal

pub returns-clause-within : goal.returns-clause-within
returns-clause-within c =
    let own = c.args.segment.now in
    held_at (λ (column : ℕ × List (ℕ × List ℤ)). AreWithin own.documents column.1) own.numbers c.args.at c.number_column.result c.docs-documents.ensures.agree.fields.numbers_within c.number_column.ensures
