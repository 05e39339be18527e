use Rattle.mapping.specs.Mapping.{kind_at}
use Rattle.leaf_search.specs.Values.{shows_value}
use Rattle.leaf_search.proofs.Finding.{made_from}
use Rattle.leaf_search.proofs.sets.shown_set.Goals as goal

pub returns : goal.returns
returns c =
    made_from c.args.segment.now c.args.live.now c.args.scope (shows_value c.args.field (kind_at c.args.mapping.now c.args.field)) c.docs.result c.in_ok-set.set c.mark_shown.new.set c.keep_live.new.set
    c.requires.live c.docs.ensures.documents c.in_ok-set.ensures c.mark_shown.ensures c.keep_live.ensures
