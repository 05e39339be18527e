use Rattle.std.proofs.Common.{◌≡◌, drop, [], ap, sym, ◌∙◌, arith}
use Rattle.std.proofs.Math.ListN.{drop_of_length-le}
use Rattle.tree_json.specs.Value.{elements_of, members_of}
use Rattle.tree_json.specs.View.{values, entries}
use Rattle.json_merge.specs.Same.{is_same_list, is_same_object}
use Rattle.json_merge.proofs.Equal.{none_left, no_more}
use Rattle.json_merge.proofs.same.+same.Goals as goal

pub same_elements-returns : goal.same_elements-returns
same_elements-returns t c =
    let none : drop c.elements.element-index c.args.a.now ≡ [] = drop_of_length-le c.args.a.now (omega (arith, c.elements-test.false)) in
    c.is_empty.ensures ∙ (none_left c.elements.rest.now ∙ ap (λ xs. is_same_list (elements_of (values xs)) (elements_of (values c.elements.rest.now))) (sym none)) ∙ c.elements.invariant

pub same_members-returns : goal.same_members-returns
same_members-returns t c =
    let none : drop c.members.name-index c.args.a.now ≡ [] = drop_of_length-le c.args.a.now (omega (arith, c.members-test.false)) in
    c.is_empty.ensures ∙ (no_more c.members.rest.now ∙ ap (λ xs. is_same_object (members_of (entries xs)) (members_of (entries c.members.rest.now))) (sym none)) ∙ c.members.invariant
