use Rattle.leaf_search.proofs.Finding.{finds_nothing}
use Rattle.leaf_search.proofs.on_roots.none.Goals as goal

pub returns : goal.returns
returns c = λ m. finds_nothing c.args.segment.now c.args.live.now c.args.scope c.requires.documents c.values_are_of_documents.ensures.fit m c.docs.result c.in_ok-empty.field-0 c.docs.ensures.documents c.in_ok-empty.ensures
