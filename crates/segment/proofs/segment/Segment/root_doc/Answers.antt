use Rattle.segment.proofs.Places.{place_there, place_is, place_within}
use Rattle.segment.proofs.segment.Segment.root_doc.Goals as goal

pub index-requires : goal.index-requires
index-requires c =
    rw c.self.inside.root_docs.ok.0 (place_there c.self.inside.parts _ c.self.inside.root_docs.items c.args.root
    (record { seen = c.self.view_is; agree = c.self.invariant.columns; are = c.self.invariant.places }) c.requires)

pub returns-clause-document : goal.returns-clause-document
returns-clause-document c =
    place_is c.self.inside.parts _ c.self.inside.root_docs.items c.args.root _
    (record { seen = c.self.view_is; agree = c.self.invariant.columns; are = c.self.invariant.places }) c.requires c.index.ensures

pub returns-clause-within : goal.returns-clause-within
returns-clause-within c =
    place_within c.self.inside.parts _ c.self.inside.root_docs.items c.args.root _
    (record { seen = c.self.view_is; agree = c.self.invariant.columns; are = c.self.invariant.places }) c.requires c.index.ensures
