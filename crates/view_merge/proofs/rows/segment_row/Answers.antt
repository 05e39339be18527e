use Rattle.std.proofs.Common.{◌≡◌, ◌-◌, ◌<◌, length, map, filter, get_or, sym, ap, subst, ◌∙◌, arith}
use Rattle.std.specs.List.{count_by}
use Rattle.block_bits.specs.Flags.{is_marked}
use Rattle.flattener.specs.Block.{BlockState}
use Rattle.layout.specs.Layout.{is_live, item_in}
use Rattle.layout.specs.Merges.{SegmentSummary, summary_of}
use Rattle.merge_jobs.specs.Job.{segment_kept}
use Rattle.segment.specs.Flat.{roots_of}
use Rattle.segment.specs.Live.{IsLiveOver, LiveState}
use Rattle.segment_parts.specs.declared.columns.Columns.{Columns}
use Rattle.segment_builder.specs.Blocks.{block_objects, blocks_in, blocks_of, marked_by, objects_of}
use Rattle.stored_sources.specs.Roots.{root_of}
use Rattle.view_merge.specs.Given.{number_of_block}
use Rattle.view_merge.proofs.Summaries.{entry_long, fewer_live, number_at, objects_are, summary_same}
use Rattle.view_merge.proofs.rows.segment_row.Goals as goal

pub root_of_doc-first-requires : goal.root_of_doc-first-requires
root_of_doc-first-requires c = omega (arith, c.docs-objects.ensures.agree.parts.head.some_documents)

pub overflow_sub-result : goal.overflow_sub-result
overflow_sub-result c =
    let roots = subst (λ (cs : Columns). map (λ (block : BlockState). block.root) (blocks_of cs) ≡ roots_of cs) c.segment-segment.ensures c.blocks_are_whole.ensures.roots in
    omega (arith, c.live_roots-live.ensures, c.roots-roots.ensures.roots, ap (λ (cs : Columns). length cs.roots) c.segment-segment.ensures, entry_long c.args.entry.now roots c.live-live.ensures.over, fewer_live (blocks_in c.args.entry.now))

pub returns : goal.returns
returns c =
    let entry = c.args.entry.now in
    let same = c.segment-segment.ensures in
    let over = c.live-live.ensures.over in
    let roots = subst (λ (cs : Columns). map (λ (block : BlockState). block.root) (blocks_of cs) ≡ roots_of cs) same c.blocks_are_whole.ensures.roots in
    let counts = subst (λ (cs : Columns). (live : LiveState) → IsLiveOver cs live → count_by is_marked live.docs ≡ objects_of (map item_in (filter is_live (marked_by (blocks_of cs) live.roots)))) same c.blocks_are_whole.ensures.live in
    let long : c.roots-roots.result ≡ length entry.columns.roots = c.roots-roots.ensures.roots ∙ ap (λ (cs : Columns). length cs.roots) same in
    let items = entry_long entry roots over in
    let some : 0 < length entry.columns.roots = omega (arith, c.root_of_doc-first.ensures.within, ap (λ (cs : Columns). length cs.roots) same) in
    let less : c.roots-roots.result - 1 < length entry.columns.roots = omega (arith, long, some) in
    let last : c.roots-roots.result - 1 ≡ length (blocks_in entry) - 1 = omega (arith, long, items) in
    summary_same _ (summary_of block_objects number_of_block (segment_kept entry))
    (omega (arith, long, items, c.live_roots-live.ensures))
    (c.root_number.ensures ∙ ap (λ (cs : Columns). (root_of cs.roots 0).number) same ∙ number_at entry 0 roots over some)
    (c.root_number-2.ensures ∙ ap (λ (cs : Columns). (root_of cs.roots (c.roots-roots.result - 1)).number) same ∙ number_at entry (c.roots-roots.result - 1) roots over less ∙ ap (λ n. get_or (map number_of_block (map item_in (blocks_in entry))) n 0) last)
    c.live_roots-live.ensures
    (c.docs-objects.ensures.documents ∙ ap (λ (cs : Columns). cs.documents) same ∙ sym (objects_are entry roots over counts))
