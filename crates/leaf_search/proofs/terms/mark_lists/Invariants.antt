use Rattle.segment.specs.Lists.{postings_of}
use Rattle.leaf_search.proofs.Listing.{IsListing}
use Rattle.leaf_search.proofs.terms.mark_lists.Given as goal

abbrev pub invariant-lists : goal.invariant-lists
invariant-lists l = IsListing (postings_of l.segment) l.first l.ordinal l.fn.set l.set
