use Rattle.std.proofs.Common.{ℕ, List}
use Rattle.segment_parts.specs.Agree.{AreWithin}
use Rattle.segment_merge.proofs.Pieced.{held_at}
use Rattle.segment_merge.proofs.merged_value.U64MergedValue.column_at.Goals as goal

pub returns-clause-within : goal.returns-clause-within
returns-clause-within c =
    let own = c.args.segment.now in
    held_at (λ (column : ℕ × List (ℕ × List ℕ)). AreWithin own.documents column.1) own.ordinals c.args.at c.ordinal_column.result c.docs-documents.ensures.agree.fields.ordinals_within c.ordinal_column.ensures
