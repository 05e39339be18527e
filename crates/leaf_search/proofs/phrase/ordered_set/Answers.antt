use Rattle.segment.specs.Lists.{postings_of}
use Rattle.leaf_search.specs.Words.{lists_at, phrase_posted}
use Rattle.leaf_search.proofs.Phrased.{no_phrase}
use Rattle.leaf_search.proofs.Selecting.{made_never}
use Rattle.leaf_search.proofs.phrase.ordered_set.Goals as goal

pub returns-then-ordinals-eq0 : goal.returns-then-ordinals-eq0
returns-then-ordinals-eq0 c =
    made_never c.args.segment.now c.args.live.now c.args.scope (phrase_posted (lists_at (postings_of c.args.segment.now) c.args.ordinals.now)) c.docs.result c.in_ok-empty.field-0
    c.requires.live c.docs.ensures.documents c.in_ok-empty.ensures (λ doc. no_phrase (postings_of c.args.segment.now) c.args.ordinals.now doc c.if-ordinals-eq0.true)
