use Rattle.segment_parts.specs.Passes.{PassBefore}
use Rattle.segment_parts.specs.Agree.{IsOrdinalAt}
use Rattle.segment_parts.specs.Lists.{terms_of, postings_of}
use Rattle.segment.proofs.agree_columns.are_ordinals.Given as goal

abbrev pub invariant-values : goal.invariant-values
invariant-values l = PassBefore (IsOrdinalAt (terms_of l.parts) (postings_of l.parts) l.field l.doc) l.values l.at
