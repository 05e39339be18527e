use Rattle.std.proofs.Common.{true, replicate, refl}
use Rattle.segment.specs.Flat.{flats_of}
use Rattle.leaf_search.specs.Sets.{cut}
use Rattle.leaf_search.proofs.Finding.{finds_all}
use Rattle.leaf_search.proofs.on_roots.live_documents.Goals as goal

pub returns : goal.returns
returns c = λ m.
    let documents = c.args.segment.now.documents in
    let those = cut c.args.scope (replicate documents true) c.args.live.now.docs (flats_of c.args.segment.now) in
    record {
      those = those;
      found = finds_all c.args.segment.now c.args.live.now c.args.scope c.requires.documents c.values_are_of_documents.ensures.fit m documents (replicate documents true) those refl refl refl;
      counted = c.live_count.ensures;
    }
