use Rattle.std.proofs.Common.{◌≡◌, ◌<◌, length, map, subst, arith}
use Rattle.flattener.specs.Block.{BlockState}
use Rattle.index_core.proofs.Sealing.{whole_entry}
use Rattle.index_core.specs.Found.{AreCounted}
use Rattle.segment.specs.Flat.{roots_of}
use Rattle.segment_builder.specs.Blocks.{blocks_of}
use Rattle.segment_parts.specs.declared.columns.Columns.{Columns}
use Rattle.store_opening.proofs.blocks.entry_is_known.Goals as goal

pub root_of_doc-first-requires : goal.root_of_doc-first-requires
root_of_doc-first-requires c = omega (arith, c.docs-documents.ensures.agree.parts.head.some_documents)

pub returns : goal.returns
returns c =
    let same = c.segment-segment.ensures in
    let some : 0 < length c.segment-segment.result.now.roots = omega (arith, c.root_of_doc-first.ensures.within) in
    let roots : map (λ (block : BlockState). block.root) (blocks_of c.args.entry.now.columns) ≡ roots_of c.args.entry.now.columns
    = subst (λ (cs : Columns). map (λ (block : BlockState). block.root) (blocks_of cs) ≡ roots_of cs) same c.blocks_are_whole.ensures.roots in
    record {
      whole = whole_entry c.args.entry.now roots c.live-live.ensures.over (subst (λ (cs : Columns). 0 < length cs.roots) same some)
          (subst AreCounted same c.blocks_are_whole.ensures.live);
      roots = roots;
      over = c.live-live.ensures.over;
    }
