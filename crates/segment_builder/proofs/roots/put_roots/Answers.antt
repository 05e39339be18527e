use Rattle.stored_sources.specs.Stands.{IsRoot}
use Rattle.segment_builder.proofs.Among.{item_at}
use Rattle.segment_builder.proofs.roots.put_roots.Goals as goal

pub put_root-requires : goal.put_root-requires
put_root-requires c = item_at (λ block. block.root) IsRoot c.args.blocks.now c.each.block-index c.block-item.result c.each-test.true c.block-item.is c.requires
