use Rattle.std.proofs.Common.{sym}
use Rattle.segment.proofs.Places.{listed-more, listed-all}
use Rattle.segment.proofs.root_docs.places_of.Goals as goal

pub places-preserved : goal.places-preserved
places-preserved c =
    rw c.in_ok-push.ensures.items
    (listed-more c.places.places.items c.places.from c.in-Some.place c.args.set.now c.places.invariant (sym c.in-Some.ensures.value))

pub returns : goal.returns
returns c = listed-all c.places.places.items c.places.from c.args.set.now c.places.invariant (sym c.in_default.ensures.value)
