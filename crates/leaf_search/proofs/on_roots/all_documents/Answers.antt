use Rattle.std.proofs.Common.{true, replicate, refl}
use Rattle.leaf_search.proofs.Finding.{finds_all}
use Rattle.leaf_search.proofs.on_roots.all_documents.Goals as goal

pub returns-in-Some : goal.returns-in-Some
returns-in-Some c = λ m.
    let documents = c.args.segment.now.documents in
    finds_all c.args.segment.now c.args.live.now c.args.scope c.requires.documents c.values_are_of_documents.ensures.fit m documents (replicate documents true) c.in-Some.set.now refl refl c.in-Some.ensures

pub returns-in_ok-live_set-in-None : goal.returns-in_ok-live_set-in-None
returns-in_ok-live_set-in-None c = λ m.
    let documents = c.args.segment.now.documents in
    finds_all c.args.segment.now c.args.live.now c.args.scope c.requires.documents c.values_are_of_documents.ensures.fit m documents (replicate documents true) c.in_ok-live_set-in-None.field-0 refl refl c.in_ok-live_set-in-None.ensures
