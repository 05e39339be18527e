use Rattle.std.proofs.Common.{◌≡◌, length, map, sym, ap, subst, ◌∙◌}
use Rattle.flattener.specs.Block.{BlockState}
use Rattle.segment.specs.Flat.{roots_of}
use Rattle.segment_parts.specs.declared.columns.Columns.{Columns}
use Rattle.segment_builder.specs.Blocks.{blocks_of}
use Rattle.view_merge.proofs.Summaries.{entry_long}
use Rattle.view_merge.proofs.settle.roots.Goals as goal

pub returns : goal.returns
returns c =
    let roots = subst (λ (cs : Columns). map (λ (block : BlockState). block.root) (blocks_of cs) ≡ roots_of cs) c.segment.ensures c.blocks_are_whole.ensures.roots in
    c.roots.ensures.roots ∙ ap (λ (cs : Columns). length cs.roots) c.segment-2.ensures ∙ sym (entry_long c.args.entry.now roots c.live-live.ensures.over)
