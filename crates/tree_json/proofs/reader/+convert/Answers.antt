use Rattle.std.proofs.Common.{◌∙◌, sym}
use Rattle.tree_json.proofs.Fronts.{elements_more, members_more, names_more, elements_end, members_end, IsAscending-from_names}
use Rattle.tree_json.proofs.reader.+convert.Goals as goal

pub list_of-items-preserved : goal.list_of-items-preserved
list_of-items-preserved t c = (
  tt,
  tt,
  c.items.invariant.2 ∙ rw (c.in-Some.ensures.steps.0, c.in_ok-push.ensures.items)
      (elements_more c.items.found.items c.in_ok-json_of.field-0 c.in-Some.item _ c.in_ok-json_of.ensures.ok),
)

pub list_of-returns-clause-ok : goal.list_of-returns-clause-ok
list_of-returns-clause-ok t c =
    rw c.of.ensures (c.items.invariant.2 ∙ elements_end c.items.found.items _ (sym c.items.item-iterator.rest.ok.0 ∙ c.in-None.ensures.steps.0))

pub object_of-members-preserved : goal.object_of-members-preserved
object_of-members-preserved t c = (
  tt,
  tt,
  c.members.invariant.2 ∙ rw (c.in-Some.ensures.steps, c.in_ok-push.ensures.items, c.of_string.ensures)
      (members_more c.members.found.items c.in-Some.name c.in_ok-json_of.field-0 c.in-Some.member _ c.in_ok-json_of.ensures.ok),
  c.members.invariant.3 ∙ rw (c.in-Some.ensures.steps, c.in_ok-push.ensures.items, c.of_string.ensures)
      (names_more c.members.found.items c.in-Some.name c.in_ok-json_of.field-0 c.in-Some.member _),
)

pub object_of-of-requires : goal.object_of-of-requires
object_of-of-requires t c =
    IsAscending-from_names _ c.members.found.items c.len.ensures.ordered (rw c.in-None.ensures.steps.0 at c.members.invariant.3)

pub object_of-returns-clause-ok : goal.object_of-returns-clause-ok
object_of-returns-clause-ok t c =
    rw c.of.ensures (c.members.invariant.2 ∙ rw c.in-None.ensures.steps.0 (members_end c.members.found.items))
