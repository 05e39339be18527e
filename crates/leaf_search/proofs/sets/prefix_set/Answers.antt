use Rattle.leaf_search.specs.Keys.{begins}
use Rattle.segment.specs.Shows.{has_term}
use Rattle.leaf_search.proofs.Finding.{made_from}
use Rattle.leaf_search.proofs.sets.prefix_set.Goals as goal

pub returns : goal.returns
returns c =
    made_from c.args.segment.now c.args.live.now c.args.scope (has_term c.args.field (begins c.args.start.now)) c.docs.result c.in_ok-set.set c.mark_prefix.new.set c.keep_live.new.set
    c.requires c.docs.ensures.documents c.in_ok-set.ensures c.mark_prefix.ensures c.keep_live.ensures
