use Rattle.std.proofs.Common.{◌≡◌, length, map, subst, ap, arith}
use Rattle.flattener.specs.Block.{BlockState}
use Rattle.segment.specs.Flat.{roots_of}
use Rattle.segment_builder.specs.Blocks.{blocks_of}
use Rattle.segment_parts.specs.declared.columns.Columns.{Columns}
use Rattle.index_core.proofs.Entering.{pending_root, pending_over}
use Rattle.index_core.proofs.opening.add_entry.Goals as goal

pub roots-preserved : goal.roots-preserved
roots-preserved c =
    let roots = subst (λ (cs : Columns). map (λ (block : BlockState). block.root) (blocks_of cs) ≡ roots_of cs) c.segment-segment.ensures c.blocks_are_whole.ensures.roots in
    pending_root c.args.entry.now c.roots.root c.args.numbers.now c.roots.numbers c.add_root.new.numbers roots c.live-live.ensures.over (omega (arith, c.roots-test.true, c.roots-root-end.ensures.roots, ap (λ (cs : Columns). length cs.roots) c.segment-segment.ensures)) c.requires c.in_ok-add_root.ensures.live c.in_ok-add_root.ensures.dead c.roots.invariant

pub returns-clause-numbers : goal.returns-clause-numbers
returns-clause-numbers c = pending_over c.args.entry.now c.roots.root c.args.numbers.now c.roots.numbers c.live-live.ensures.over (omega (arith, c.roots-test.false, c.roots-root-end.ensures.roots, ap (λ (cs : Columns). length cs.roots) c.segment-segment.ensures)) c.roots.invariant
