use Rattle.std.proofs.Common.{◌∙◌, ap, sym}
use Rattle.std.proofs.lemmas.List.FromFn.{length-map-range_with_len}
use Rattle.segment.specs.Flat.{flat_of}
use Rattle.segment_parts.specs.declared.columns.Columns.{Columns}
use Rattle.segment.proofs.segment.Segment.docs.Goals as goal

pub returns-clause-flats : goal.returns-clause-flats
returns-clause-flats c =
    length-map-range_with_len (flat_of c.args.self.now) 0 c.args.self.now.documents ∙ sym (c.documents.ensures ∙ ap (λ (columns : Columns). columns.documents) c.self.view_is)
