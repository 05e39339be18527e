use Rattle.std.proofs.Common.{sym}
use Rattle.segment_parts.specs.Text.{marked_places}
use Rattle.segment_merge.proofs.Placed.{places_end, places_in, places_more}
use Rattle.segment_merge.proofs.text_columns.places_of.Goals as goal

pub documents-preserved : goal.documents-preserved
documents-preserved c =
    places_more c.args.part.now c.args.set.now c.documents.from c.in-Some.doc c.documents.numbers.items c.add_number.new.numbers.items (places_in c.args.part.now (marked_places 0 c.args.set.now))
    (sym c.in-Some.ensures.value) c.in_ok-add_number.ensures c.documents.invariant

pub returns : goal.returns
returns c = places_end c.args.part.now c.args.set.now c.documents.from c.documents.numbers.items (places_in c.args.part.now (marked_places 0 c.args.set.now)) (sym c.in_default.ensures.value) c.documents.invariant
