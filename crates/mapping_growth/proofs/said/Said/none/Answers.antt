use Rattle.mapping_growth.proofs.Keeping.{none_kept}
use Rattle.mapping_growth.proofs.said.Said.none.Goals as goal

pub invariant_of-result : goal.invariant_of-result
invariant_of-result c = rw (c.new.ensures.items, c.new-2.ensures.items, c.new-3.ensures.items, c.new-4.ensures.items, c.new-5.ensures.items) none_kept
