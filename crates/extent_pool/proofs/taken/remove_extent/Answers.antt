use Rattle.std.proofs.Common.{◌∷◌, length, ap, ◌∙◌, sym, arith, subst}
use Rattle.std.specs.List.{prefix_len}
use Rattle.std.specs.List.Sorted.{IsPermutation}
use Rattle.std.proofs.lemmas.List.Sorted.{IsPermutation-remove}
use Rattle.extent_pool.specs.Changes.{begins_before}
use Rattle.extent_pool.proofs.Members.{stands_at, StandsAt}
use Rattle.extent_pool.proofs.Rising.{begin_in_order}
use Rattle.extent_pool.proofs.taken.remove_extent.Goals as goal

pub place_of-place-requires : goal.place_of-place-requires
place_of-place-requires c =
    rw c.as_slice.ensures.value (begin_in_order c.args.extents.now.items c.requires.laid.0 c.requires.laid.1)

pub remove-requires : goal.remove-requires
remove-requires c =
    let place_is = c.place_of-place.ensures ∙ ap (prefix_len (begins_before c.args.extent.at)) c.as_slice.ensures.value in
    let there = stands_at c.args.extents.now.items 0 c.requires.laid.0 c.args.extent c.requires.laid.1 c.requires.found in
    omega (arith, place_is, there.inside, c.as_slice.ensures.len, ap length c.as_slice.ensures.value)

pub returns-clause-items : goal.returns-clause-items
returns-clause-items c =
    let place_is = c.place_of-place.ensures ∙ ap (prefix_len (begins_before c.args.extent.at)) c.as_slice.ensures.value in
    let there =
    subst (λ n. StandsAt c.args.extents.now.items n c.args.extent) (sym place_is)
    (stands_at c.args.extents.now.items 0 c.requires.laid.0 c.args.extent c.requires.laid.1 c.requires.found) in
    c.remove.ensures.items ∙ sym there.removed

pub returns-clause-loses : goal.returns-clause-loses
returns-clause-loses c =
    let place_is = c.place_of-place.ensures ∙ ap (prefix_len (begins_before c.args.extent.at)) c.as_slice.ensures.value in
    let there =
    subst (λ n. StandsAt c.args.extents.now.items n c.args.extent) (sym place_is)
    (stands_at c.args.extents.now.items 0 c.requires.laid.0 c.args.extent c.requires.laid.1 c.requires.found) in
    subst (λ es. IsPermutation c.args.extents.now.items (c.args.extent ∷ es)) (sym c.remove.ensures.items)
    (IsPermutation-remove c.args.extents.now.items c.place_of-place.result c.args.extent there.inside (sym (there.here c.args.extent)))
