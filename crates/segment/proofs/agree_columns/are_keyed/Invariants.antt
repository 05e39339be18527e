use Rattle.segment_parts.specs.Passes.{PassBefore}
use Rattle.segment_parts.specs.Agree.{IsKeyed}
use Rattle.segment_parts.specs.Lists.{terms_of, postings_of}
use Rattle.segment.proofs.agree_columns.are_keyed.Given as goal

abbrev pub invariant-values : goal.invariant-values
invariant-values l = PassBefore (IsKeyed (terms_of l.parts) (postings_of l.parts) l.field l.doc) l.values l.at
