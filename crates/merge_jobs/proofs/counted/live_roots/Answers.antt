use Rattle.std.proofs.Common.{◌≡◌, map, ap, subst, ◌∙◌}
use Rattle.std.specs.List.{count_by}
use Rattle.block_bits.specs.Flags.{is_marked}
use Rattle.flattener.specs.Block.{BlockState}
use Rattle.segment.specs.Flat.{roots_of}
use Rattle.segment.specs.Live.{LiveState}
use Rattle.segment_parts.specs.declared.columns.Columns.{Columns}
use Rattle.segment_builder.specs.Blocks.{blocks_of}
use Rattle.merge_jobs.proofs.LiveRoots.{live_count}
use Rattle.merge_jobs.proofs.counted.live_roots.Goals as goal

pub returns : goal.returns
returns c =
    c.count.ensures ∙ ap (count_by is_marked) (c.live_roots.ensures ∙ ap (λ (live : LiveState). live.roots) c.live-live.ensures.live)
    ∙ live_count c.args.entry.now (subst (λ (cs : Columns). map (λ (block : BlockState). block.root) (blocks_of cs) ≡ roots_of cs) c.segment.ensures c.blocks_are_whole.ensures.roots) c.live-live.ensures.over
