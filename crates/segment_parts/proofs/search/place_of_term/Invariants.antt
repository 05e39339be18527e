use Rattle.std.proofs.Common.{◌-◌, map}
use Rattle.segment_parts.proofs.Searches.{Narrowed}
use Rattle.segment_parts.proofs.search.place_of_term.Given as goal

abbrev pub invariant-search : goal.invariant-search
invariant-search l = Narrowed (map (λ row. row.term) l.rows) (l.field, l.bytes) l.low l.high

abbrev pub decreases-search : goal.decreases-search
decreases-search l = l.high - l.low
