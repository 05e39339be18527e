use Rattle.std.proofs.Common.{◌∙◌, ◌++◌, ap}
use Rattle.std.proofs.lemmas.List.Filters.{dedup_is}
use Rattle.search_walk.proofs.Twice.{is_shorter}
use Rattle.search_walk.proofs.limit.some_twice.Goals as goal

pub returns : goal.returns
returns c =
    rw c.as_slice.ensures.value
    (is_shorter c.args.names.now _ _ _ (c.in_ok-extend_from_slice.ensures.items ∙ ap (λ xs. xs ++ c.args.names.now) c.in_ok-kept.ensures.items) c.sort_unstable.ensures.permutation c.sort_unstable.ensures.sorted (dedup_is _ _ _ c.dedup.ensures.filtered))
