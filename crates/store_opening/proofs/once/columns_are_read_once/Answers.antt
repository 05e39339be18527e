use Rattle.store_opening.proofs.OneSegment.{columns_once}
use Rattle.store_opening.proofs.once.columns_are_read_once.Goals as goal

pub returns : goal.returns
returns c = columns_once c.words_are_of_one_set.ensures c.old_roots_have_one_text.ensures
