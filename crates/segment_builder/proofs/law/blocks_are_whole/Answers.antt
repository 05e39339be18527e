use Rattle.segment_builder.proofs.Lengths.{roots_whole, lengths_whole, live_whole}
use Rattle.segment_builder.proofs.law.blocks_are_whole.Goals as goal

pub returns-clause-roots : goal.returns-clause-roots
returns-clause-roots c = roots_whole c.args.segment.now c.docs.ensures.agree c.scopes_are_of_documents.ensures.sets

pub returns-clause-lengths : goal.returns-clause-lengths
returns-clause-lengths c = lengths_whole c.args.segment.now c.docs.ensures.agree c.scopes_are_of_documents.ensures.sets

pub returns-clause-live : goal.returns-clause-live
returns-clause-live c = live_whole c.args.segment.now c.docs.ensures.agree c.scopes_are_of_documents.ensures.sets
