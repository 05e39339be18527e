use Rattle.term_table.proofs.NumberKeys.{keys_in_order}
use Rattle.term_table.proofs.keys.keys_are_ordered.Goals as goal

pub returns : goal.returns
returns c = keys_in_order
