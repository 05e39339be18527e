use Rattle.std.proofs.Common.{true, replicate, refl}
use Rattle.leaf_search.proofs.Finding.{finds_all}
use Rattle.leaf_search.proofs.on_roots.all.Goals as goal

pub returns : goal.returns
returns c = λ m.
    let documents = c.args.segment.now.documents in
    finds_all c.args.segment.now c.args.live.now c.args.scope c.requires.documents c.values_are_of_documents.ensures.fit m documents (replicate documents true) c.in_ok-live_set.field-0 refl refl c.in_ok-live_set.ensures
