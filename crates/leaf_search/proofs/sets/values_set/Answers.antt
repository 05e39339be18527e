use Rattle.leaf_search.specs.Keys.{has_one_of}
use Rattle.leaf_search.proofs.Finding.{made_from}
use Rattle.leaf_search.proofs.sets.values_set.Goals as goal

pub returns-clause-made : goal.returns-clause-made
returns-clause-made c =
    made_from c.args.segment.now c.args.live.now c.args.scope (has_one_of c.args.field c.args.values.now) c.docs.result c.in_ok-set.set c.mark_values.new.set c.keep_live.new.set
    c.requires c.docs.ensures.documents c.in_ok-set.ensures c.in_ok-mark_values.ensures.gains c.keep_live.ensures
