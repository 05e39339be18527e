use Rattle.std.proofs.Common.{◌≡◌, map, ap, ◌∙◌, sym}
use Rattle.std.proofs.lemmas.Simd.{map-map}
use Rattle.index_core.specs.Kept.{block_number, layout_kept}
use Rattle.layout.specs.Merges.{summaries_of}
use Rattle.machine.specs.Merging.{merge_row, segment_row}
use Rattle.merge_jobs.specs.Open.{merge_shown}
use Rattle.segment_builder.specs.Blocks.{block_objects}
use Rattle.view_merge.specs.Given.{summary_shown}
use Rattle.layout_commands.specs.Ends.{merge_row_of, segment_row_of}
use Rattle.layout_commands.proofs.layout_rows.rows.Goals as goal

pub returns : goal.returns
returns c =
    let kept = layout_kept c.args.index.now in
    let own = c.in_ok-segments.field-0 in
    let merges : map merge_row_of own.merges.items ≡ map merge_row kept.merges =
    sym (map-map merge_row merge_shown own.merges.items) ∙ ap (map merge_row) c.in_ok-segments.ensures.merges in
    let segments : map segment_row_of own.segments.items ≡ map segment_row (summaries_of block_objects block_number kept) =
    sym (map-map segment_row summary_shown own.segments.items) ∙ ap (map segment_row) c.in_ok-segments.ensures.segments in
    cc (c.of.ensures, c.of-2.ensures, c.in_ok-merge_rows.ensures, c.in_ok-segment_rows.ensures, c.as_slice.ensures.value, c.as_slice-2.ensures.value, c.in_ok-segments.merges-is, c.in_ok-segments.segments-is)
