use Rattle.segment.specs.Lists.{postings_of}
use Rattle.leaf_search.specs.Words.{all_posted, lists_at}
use Rattle.leaf_search.proofs.Selecting.{made_marked}
use Rattle.leaf_search.proofs.words.met_set.Goals as goal

pub returns : goal.returns
returns c =
    made_marked c.args.segment.now c.args.live.now c.args.scope (all_posted (lists_at (postings_of c.args.segment.now) c.args.ordinals.now)) c.in_ok-set.set c.keep_live.new.set c.requires.live c.in_ok-set.ensures c.keep_live.ensures
