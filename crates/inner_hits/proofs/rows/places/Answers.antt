use Rattle.std.proofs.Common.{arith}
use Rattle.std.proofs.lemmas.List.{get_or_default}
use Rattle.nested_sort.specs.Listed.{no_hit}
use Rattle.inner_hits.proofs.Numbers.{places_more}
use Rattle.inner_hits.proofs.rows.places.Goals as goal

pub hits-preserved : goal.hits-preserved
hits-preserved c =
    places_more c.args.view.now c.args.hits.now c.hits.at c.hits.places.items c.push.new.self.items c.place.result _ c.hits.invariant
    (get_or_default c.args.hits.now c.hits.at _ no_hit (omega arith)) c.place.ensures c.in_ok-push.ensures.items
