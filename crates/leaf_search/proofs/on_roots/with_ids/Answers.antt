use Rattle.leaf_search.proofs.Finding.{finds_ids}
use Rattle.leaf_search.proofs.on_roots.with_ids.Goals as goal

pub returns : goal.returns
returns c = λ m. finds_ids c.args.segment.now c.args.live.now c.args.scope c.requires.documents c.values_are_of_documents.ensures.fit m c.objects_nest.ensures.at_root c.args.listed.now c.in_ok-id_set.field-0 c.in_ok-id_set.ensures
