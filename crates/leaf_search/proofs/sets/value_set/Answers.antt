use Rattle.std.specs.Str.{bytes_eq}
use Rattle.leaf_search.specs.Keys.{key_of}
use Rattle.segment.specs.Shows.{has_term}
use Rattle.leaf_search.proofs.Finding.{made_from}
use Rattle.leaf_search.proofs.sets.value_set.Goals as goal

pub returns-clause-made : goal.returns-clause-made
returns-clause-made c =
    made_from c.args.segment.now c.args.live.now c.args.scope (has_term c.args.field (bytes_eq (key_of c.args.value.now))) c.docs.result c.in_ok-set.set c.mark_value.new.set c.keep_live.new.set
    c.requires c.docs.ensures.documents c.in_ok-set.ensures c.mark_value.ensures.gains c.keep_live.ensures
