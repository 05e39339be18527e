use Rattle.std.proofs.Common.{rules, ◌≡◌, ◌<◌, ◌∷◌, ◌++◌, [], ap, ◌∙◌, arith}
use Rattle.std.proofs.lemmas.Grind.{common_steps}
use Rattle.std.specs.Vec.Iter.{into_iter_items}
use Rattle.tree_json.specs.Value.{members_of, members_size, value_size}
use Rattle.tree_json.specs.View.{view, entries}
use Rattle.json_merge.specs.Merged.{merged, merged_members}
use Rattle.json_merge.specs.Coming.{Carries}
use Rattle.json_merge.proofs.Merging.{joins_former, makes_more, makes_end, nothing_left, ascending_merged, size_first}
use Rattle.json_merge.proofs.merge.+merge.Goals as goal

pub merged_members-changes-preserved : goal.merged_members-changes-preserved
merged_members-changes-preserved t c =
    let next : entries (into_iter_items c.changes.name-iterator) ≡ (c.in-Some.name, view c.in-Some.value) ∷ entries (into_iter_items c.next.new.self) = ap entries c.in-Some.ensures.steps.0 in
    let sizes = size_first c.in-Some.name (view c.in-Some.value) (entries (into_iter_items c.changes.name-iterator)) (entries (into_iter_items c.next.new.self)) next in
    (tt, tt, makes_more c.in-Some.name (view c.in-Some.value) (entries c.changes.found.items) (entries c.changes.coming.items) (entries c.put_change.new.found.items) (entries c.put_change.new.coming.items) (entries (into_iter_items c.changes.name-iterator)) (entries (into_iter_items c.next.new.self)) (merged_members (members_of c.args.changes) (members_of c.args.live)) c.changes.invariant.2 next c.in_ok-put_change.ensures, omega (arith, sizes.1, c.changes.invariant.3))

pub merged_members-of-requires : goal.merged_members-of-requires
merged_members-of-requires t c =
    let none : entries (into_iter_items c.changes.name-iterator) ≡ [] = nothing_left (into_iter_items c.changes.name-iterator) (omega (arith, c.changes.name-iterator.rest.ok.0, c.in-None.ensures.steps.0)) in
    let e = c.in_ok-put_rest.ensures ∙ makes_end (entries c.changes.found.items) (entries c.changes.coming.items) (entries (into_iter_items c.changes.name-iterator)) (merged_members (members_of c.args.changes) (members_of c.args.live)) none c.changes.invariant.2 in
    ascending_merged (entries c.put_rest.new.found.items) c.args.changes c.args.live c.into_vec.ensures.ascending e

pub put_change-returns-in_ok-push-in-Some : goal.put_change-returns-in_ok-push-in-Some
put_change-returns-in_ok-push-in-Some t c =
    let h : Carries c.args.name (entries c.args.found.now.items) (entries c.args.coming.now.items) (entries c.put_before.new.found.items) (entries c.put_before.new.coming.items) = search rules in
    let e : entries c.put_before.new.coming.items ≡ (c.args.name, view c.in-Some.former) ∷ entries c.next_named.new.coming.items = search rules in
    let a : c.push.new.self.items ≡ c.put_before.new.found.items ++ (c.args.name, c.in_ok-merged-in-Some.field-0) ∷ [] = search rules in
    let m : view c.in_ok-merged-in-Some.field-0 ≡ merged (view c.args.value) (view c.in-Some.former) = search rules in
    joins_former c.args.name (view c.args.value) (view c.in-Some.former) c.in_ok-merged-in-Some.field-0 (entries c.args.found.now.items) (entries c.args.coming.now.items) c.put_before.new.found.items c.push.new.self.items (entries c.put_before.new.coming.items) (entries c.next_named.new.coming.items) h e m a

pub merged_members-put_change-requires : goal.merged_members-put_change-requires
merged_members-put_change-requires t c =
    let next : entries (into_iter_items c.changes.name-iterator) ≡ (c.in-Some.name, view c.in-Some.value) ∷ entries (into_iter_items c.next.new.self) = ap entries c.in-Some.ensures.steps.0 in
    let sizes = size_first c.in-Some.name (view c.in-Some.value) (entries (into_iter_items c.changes.name-iterator)) (entries (into_iter_items c.next.new.self)) next in
    let small : value_size (view c.in-Some.value) < members_size (members_of c.args.changes) = omega (arith, sizes.0, c.changes.invariant.3) in
    (grind (arith, common_steps, small), tt)
