use Rattle.flattener.specs.Flat.{bytes_cmp}
use Rattle.flattener.proofs.Sorting.{sorted_is, bytes_order}
use Rattle.flattener.proofs.values.sort_keywords.Goals as goal

pub returns : goal.returns
returns c = sorted_is bytes_cmp bytes_order (λ b. b.items) _ _ c.sort_unstable.ensures.permutation c.sort_unstable.ensures.sorted
