use Rattle.std.proofs.Common.{sym}
use Rattle.segment_parts.specs.Text.{marked_places}
use Rattle.segment_merge.proofs.Listed.{listed_more, listed_all}
use Rattle.segment_merge.proofs.marks.places_of.Goals as goal

pub places-preserved : goal.places-preserved
places-preserved c =
    rw c.in_ok-push.ensures.items
    (listed_more c.args.set.now c.places.from c.in-Some.place c.places.places.items (marked_places 0 c.args.set.now) c.places.invariant (sym c.in-Some.ensures.value))

pub returns : goal.returns
returns c = listed_all c.args.set.now c.places.from c.places.places.items (marked_places 0 c.args.set.now) c.places.invariant (sym c.in_default.ensures.value)
