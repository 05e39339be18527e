use Rattle.std.proofs.Common.{◌≡◌, take, All}
use Rattle.segment.specs.Lists.{postings_of}
use Rattle.leaf_search.specs.Cursors.{IsBehind, lists_in}
use Rattle.leaf_search.specs.Words.{lists_at}
use Rattle.leaf_search.proofs.conjunction.cursors_at.Given as goal

abbrev pub invariant-ordinals : goal.invariant-ordinals
invariant-ordinals l =
    (lists_in l.cursors.items ≡ lists_at (postings_of l.segment) (take l.ordinal-index l.ordinals))
    × All (IsBehind 0) l.cursors.items
