use Rattle.segment_parts.specs.Heads.{scope_once}
use Rattle.segment_parts.proofs.head.scopes_stand_once.Goals as goal

pub returns : goal.returns
returns c = λ documents. scope_once c.words_are_of_one_set.ensures documents
