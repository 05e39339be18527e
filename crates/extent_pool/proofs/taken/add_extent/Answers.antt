use Rattle.std.proofs.Common.{◌∷◌, length, ap, ◌∙◌, sym, arith, subst}
use Rattle.std.specs.List.{prefix_len, insert}
use Rattle.std.specs.List.Sorted.{IsPermutation}
use Rattle.std.proofs.lemmas.List.Sums.{prefix_len-le-length}
use Rattle.std.proofs.lemmas.List.Sorted.{IsPermutation-insert}
use Rattle.extent_pool.specs.Changes.{begins_before}
use Rattle.extent_pool.proofs.Members.{with_at}
use Rattle.extent_pool.proofs.taken.add_extent.Goals as goal

pub insert-requires : goal.insert-requires
insert-requires c =
    let place_is = c.place_of-place.ensures ∙ ap (prefix_len (begins_before c.args.extent.at)) c.as_slice.ensures.value in
    omega (arith, place_is, prefix_len-le-length (begins_before c.args.extent.at) c.args.extents.now.items, c.as_slice.ensures.len, ap length c.as_slice.ensures.value)

pub returns-clause-items : goal.returns-clause-items
returns-clause-items c =
    let place_is = c.place_of-place.ensures ∙ ap (prefix_len (begins_before c.args.extent.at)) c.as_slice.ensures.value in
    let inserted = rw c.unwrap.ensures at c.insert.ensures.items in
    inserted ∙ (ap (λ n. insert c.args.extents.now.items n c.args.extent) place_is ∙ sym (with_at c.args.extent c.args.extents.now.items))

pub returns-clause-gains : goal.returns-clause-gains
returns-clause-gains c =
    let inserted = rw c.unwrap.ensures at c.insert.ensures.items in
    subst (λ es. IsPermutation (c.args.extent ∷ c.args.extents.now.items) es) (sym inserted)
    (IsPermutation-insert c.args.extents.now.items c.place_of-place.result c.args.extent)
