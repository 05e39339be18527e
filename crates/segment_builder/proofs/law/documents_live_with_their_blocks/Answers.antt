use Rattle.segment_builder.proofs.Lengths.{marks_whole}
use Rattle.segment_builder.proofs.law.documents_live_with_their_blocks.Goals as goal

pub returns : goal.returns
returns c = λ live over. marks_whole c.args.segment.now c.docs.ensures.agree c.scopes_are_of_documents.ensures.sets live over
