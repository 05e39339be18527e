use Rattle.std.proofs.Common.{◌≡◌, false, take}
use Rattle.std.specs.List.{list_any}
use Rattle.postings.specs.Postings.{present_positions}
use Rattle.leaf_search.specs.Cursors.{lists_in}
use Rattle.leaf_search.specs.Words.{stands_around}
use Rattle.leaf_search.proofs.conjunction.stand_in_order.Given as goal

abbrev pub invariant-positions : goal.invariant-positions
invariant-positions l = list_any (stands_around (lists_in l.before) (lists_in l.behind) l.doc) (take l.i (present_positions l.own)) ≡ false
