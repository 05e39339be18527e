use Rattle.segment_builder.proofs.Stands.{stands_by_blocks}
use Rattle.segment_builder.proofs.law.blocks_stand_for_trees.Goals as goal

pub returns : goal.returns
returns c = λ m trees mapping is. stands_by_blocks c.args.segment.now c.args.live.now c.docs.ensures.agree c.requires c.scopes_are_of_documents.ensures.sets m trees mapping is
