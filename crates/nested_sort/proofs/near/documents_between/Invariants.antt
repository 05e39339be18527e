use Rattle.segment_parts.specs.Lists.{postings_of}
use Rattle.nested_sort.proofs.Termed.{ArePut}
use Rattle.nested_sort.proofs.near.documents_between.Given as goal

abbrev pub invariant-lists : goal.invariant-lists
invariant-lists l = ArePut (postings_of l.segment) l.segment.documents l.first l.ordinal l.set
