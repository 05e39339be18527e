use Rattle.std.proofs.Common.{[], ◌∷◌, ◌++◌, refl, ap, subst, ◌∙◌}
use Rattle.std.specs.List.Sorted.{IsStrictlySortedBy}
use Rattle.std.specs.Ordering.{nat_cmp}
use Rattle.segment_builder.proofs.Inserted.{inserted_in, inserted_ordered, more_in, more_ordered, seen_keys}
use Rattle.segment_builder.proofs.by_field.put.Goals as goal

pub place_from-requires : goal.place_from-requires
place_from-requires g c = rw c.as_slice.ensures.value (subst (IsStrictlySortedBy nat_cmp) (seen_keys c.args.groups.now.items) c.requires.ascending)

pub returns-in_ok-push-in-Ok-clause-gather : goal.returns-in_ok-push-in-Ok-clause-gather
returns-in_ok-push-in-Ok-clause-gather g c = λ any.
    let place = rw c.as_slice.ensures.value at c.in-Ok.ensures.place in
    more_in any c.args.field c.args.member c.index_mut-group.result.now c.push.new.self c.args.groups.now.items c.in-Ok.place place.0 c.index_mut-group.ensures.value place.1 (c.in_ok-push-in-Ok.ensures.items ∙ ap (λ items. items ++ c.args.member ∷ []) c.in_ok-make_room-in-Ok.ensures) c.requires

pub returns-in_ok-push-in-Ok-clause-ordered : goal.returns-in_ok-push-in-Ok-clause-ordered
returns-in_ok-push-in-Ok-clause-ordered g c =
    let place = rw c.as_slice.ensures.value at c.in-Ok.ensures.place in
    more_ordered c.args.member c.index_mut-group.result.now c.push.new.self c.args.groups.now.items c.in-Ok.place place.0 c.index_mut-group.ensures.value (c.in_ok-push-in-Ok.ensures.items ∙ ap (λ items. items ++ c.args.member ∷ []) c.in_ok-make_room-in-Ok.ensures) c.requires

pub returns-in_ok-insert-in-Err-clause-gather : goal.returns-in_ok-insert-in-Err-clause-gather
returns-in_ok-insert-in-Err-clause-gather g c = λ any.
    let gap = rw c.as_slice.ensures.value at c.in-Err.ensures.gap in
    let one = c.in_ok-push-in-Err.ensures.items ∙ rw c.in_ok-members-in-Err.ensures.items refl in
    rw c.in_ok-insert-in-Err.ensures.items (inserted_in any c.args.field c.args.member _ c.args.groups.now.items c.in-Err.gap one gap.0 gap.2)

pub returns-in_ok-insert-in-Err-clause-ordered : goal.returns-in_ok-insert-in-Err-clause-ordered
returns-in_ok-insert-in-Err-clause-ordered g c =
    let gap = rw c.as_slice.ensures.value at c.in-Err.ensures.gap in
    let one = c.in_ok-push-in-Err.ensures.items ∙ rw c.in_ok-members-in-Err.ensures.items refl in
    rw c.in_ok-insert-in-Err.ensures.items (inserted_ordered c.args.field c.args.member _ c.args.groups.now.items c.in-Err.gap one gap.0 gap.1 gap.2 c.requires)
