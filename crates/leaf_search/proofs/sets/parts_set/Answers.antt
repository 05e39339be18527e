use Rattle.leaf_search.specs.Values.{shows_part}
use Rattle.leaf_search.proofs.Finding.{made_from}
use Rattle.leaf_search.proofs.sets.parts_set.Goals as goal

pub returns : goal.returns
returns c =
    made_from c.args.segment.now c.args.live.now c.args.scope (shows_part c.args.mapping.now c.args.field) c.docs.result c.in_ok-set.set c.mark_parts.new.set c.keep_live.new.set
    c.requires.live c.docs.ensures.documents c.in_ok-set.ensures c.mark_parts.ensures c.keep_live.ensures
