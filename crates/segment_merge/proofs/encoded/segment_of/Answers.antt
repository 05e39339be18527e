use Rattle.std.proofs.Common.{◌≡◌, ◌∙◌, ap, arith, length, subst, sym}
use Rattle.segment_parts.specs.Agree.{AreColumns}
use Rattle.segment_parts.specs.Whole.{segment_once}
use Rattle.segment_parts.specs.declared.columns.Columns.{Columns}
use Rattle.segment_merge.specs.Merged.{IsMerged}
use Rattle.segment_merge.proofs.encoded.segment_of.Goals as goal

pub of_text-requires : goal.of_text-requires
of_text-requires c =
    let columns : Columns = c.requires.merged.0 in
    let own : AreColumns columns = c.merged_columns_agree.ensures c.requires.mergeable.0 columns c.requires.mergeable.1 c.requires.merged.1 (omega (arith, ap length c.requires.merged.2, c.len-length.ensures, c.len-length.type_inv)) in
    (columns, record { are = own; text = c.of.ensures ∙ c.requires.merged.2 })

pub returns-clause-blocks : goal.returns-clause-blocks
returns-clause-blocks c =
    let columns : Columns = c.requires.merged.0 in
    let own = c.merged_columns_agree.ensures c.requires.mergeable.0 columns c.requires.mergeable.1 c.requires.merged.1 (omega (arith, ap length c.requires.merged.2, c.len-length.ensures, c.len-length.type_inv)) in
    let read = c.in_ok-segment.ensures in
    let same : c.in_ok-segment.segment ≡ columns = segment_once c.words_are_of_one_set.ensures c.in_ok-segment.segment columns read.are.parts own.parts (sym read.text ∙ c.of.ensures ∙ c.requires.merged.2) in
    c.merged_segments_are_live_blocks.ensures.blocks c.requires.mergeable.0 c.requires.mergeable.1 (subst (IsMerged c.args.entries.now) (sym same) c.requires.merged.1)

pub returns-clause-fits : goal.returns-clause-fits
returns-clause-fits c =
    let columns : Columns = c.requires.merged.0 in
    let own = c.merged_columns_agree.ensures c.requires.mergeable.0 columns c.requires.mergeable.1 c.requires.merged.1 (omega (arith, ap length c.requires.merged.2, c.len-length.ensures, c.len-length.type_inv)) in
    let read = c.in_ok-segment.ensures in
    let same : c.in_ok-segment.segment ≡ columns = segment_once c.words_are_of_one_set.ensures c.in_ok-segment.segment columns read.are.parts own.parts (sym read.text ∙ c.of.ensures ∙ c.requires.merged.2) in
    λ m fits. c.merged_segments_are_live_blocks.ensures.fits c.requires.mergeable.0 m c.requires.mergeable.1 (subst (IsMerged c.args.entries.now) (sym same) c.requires.merged.1) fits
