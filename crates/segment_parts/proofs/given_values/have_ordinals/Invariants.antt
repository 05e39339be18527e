use Rattle.segment_parts.specs.Agree.{HaveOrdinals}
use Rattle.segment_parts.specs.Lists.{terms_of, postings_of}
use Rattle.segment_parts.specs.Passes.{PassBefore}
use Rattle.segment_parts.proofs.given_values.have_ordinals.Given as goal

abbrev pub invariant-columns : goal.invariant-columns
invariant-columns l = PassBefore (HaveOrdinals (terms_of l.columns) (postings_of l.columns)) l.column-items l.column-index
