use Rattle.std.proofs.Common.{◌∙◌}
use Rattle.std.proofs.lemmas.List.{get_or_default}
use Rattle.leaf_search.proofs.Named.{root_places, all_there, named_none, named_more, named_all}
use Rattle.leaf_search.proofs.ids.id_marks.Goals as goal

pub listed-init : goal.listed-init
listed-init c = named_none c.args.segment.now c.docs.result c.in_ok-set.set c.docs.ensures.documents c.in_ok-set.ensures

pub mark_roots-requires-clause-roots : goal.mark_roots-requires-clause-roots
mark_roots-requires-clause-roots c = all_there c.args.segment.now c.roots_of_id.result.now c.as_slice.result.now c.roots_of_id.ensures

pub listed-preserved : goal.listed-preserved
listed-preserved c =
    named_more c.args.segment.now (root_places c.args.segment.now c.docs.ensures.agree c.scopes_are_of_documents.ensures.sets) c.args.listed.now c.listed.id-index c.as_slice.result.now c.roots_of_id.result.now c.listed.set c.mark_roots.new.set
    c.listed.invariant c.listed-test.true (c.as_slice.ensures ∙ c.id-item.is ∙ get_or_default c.args.listed.now c.listed.id-index c.id-item.result c.as_slice.result.now c.listed-test.true) c.roots_of_id.ensures c.mark_roots.ensures

pub returns : goal.returns
returns c = named_all c.args.segment.now (root_places c.args.segment.now c.docs.ensures.agree c.scopes_are_of_documents.ensures.sets) c.args.listed.now c.listed.id-index c.listed.set c.listed-test.false c.listed.invariant
