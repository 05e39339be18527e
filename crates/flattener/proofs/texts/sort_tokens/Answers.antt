use Rattle.flattener.specs.Flat.{token_cmp}
use Rattle.flattener.proofs.Sorting.{sorted_is, token_order}
use Rattle.flattener.proofs.texts.sort_tokens.Goals as goal

pub returns : goal.returns
returns c = sorted_is token_cmp token_order (λ t. (t.0.items, t.1)) _ _ c.sort_unstable.ensures.permutation c.sort_unstable.ensures.sorted
