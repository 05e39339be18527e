use Rattle.std.proofs.Common.{◌-◌, length}
use Rattle.segment.specs.Lists.{postings_of}
use Rattle.leaf_search.specs.Words.{lists_at}
use Rattle.leaf_search.proofs.Conjoining.{AreSelecting}
use Rattle.leaf_search.proofs.conjunction.select.Given as goal

abbrev pub invariant-documents : goal.invariant-documents
invariant-documents l = AreSelecting l.segment.documents l.live l.scope l.in_order (lists_at (postings_of l.segment) l.ordinals) l.before.items l.own l.behind.items l.set

abbrev pub decreases-documents : goal.decreases-documents
decreases-documents l = length l.own.postings - l.own.at
