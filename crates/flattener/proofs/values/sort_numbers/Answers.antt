use Rattle.flattener.proofs.Sorting.{numbers_sorted}
use Rattle.flattener.proofs.values.sort_numbers.Goals as goal

pub returns : goal.returns
returns c = numbers_sorted _ _ c.sort_unstable.ensures.permutation c.sort_unstable.ensures.sorted
