-- What a segment keeps.
use Rattle.std.specs.Prelude.{◌≡◌}
use Rattle.segment_parts.specs.Agree.{AreColumns}
use Rattle.segment.specs.Roots.{root_documents}
use Rattle.segment.specs.Ids.{AreById}
use Rattle.segment.specs.declared.segment.Segment.TheInside.{Inside}

-- the columns agree, the documents of the roots are those of scope 0, and the roots stand in the order of their ids
pub record IsSegment (it : Inside) : Type 0 where
  pub columns : AreColumns it.parts
  pub places : it.root_docs.items ≡ root_documents it.parts.scopes
  pub ids : AreById it.parts.roots it.roots_by_id.items
