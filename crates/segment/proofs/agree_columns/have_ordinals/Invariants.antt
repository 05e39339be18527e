use Rattle.segment_parts.specs.Passes.{PassBefore}
use Rattle.segment_parts.specs.Agree.{HaveOrdinals}
use Rattle.segment_parts.specs.Lists.{terms_of, postings_of}
use Rattle.segment.proofs.agree_columns.have_ordinals.Given as goal

abbrev pub invariant-columns : goal.invariant-columns
invariant-columns l = PassBefore (HaveOrdinals (terms_of l.parts) (postings_of l.parts)) l.parts.ordinals l.at
