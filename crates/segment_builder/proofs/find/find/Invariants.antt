use Rattle.std.proofs.Common.{◌<◌, ◌≤◌, ◌-◌, length}
use Rattle.segment_builder.specs.Columns.{terms_lent}
use Rattle.segment_builder.proofs.Finding.{IsBetween}
use Rattle.segment_builder.proofs.find.find.Given as goal

abbrev pub invariant-places : goal.invariant-places
invariant-places l =
    IsBetween (terms_lent l.terms) (l.field, l.bytes) l.low l.high × (l.low < l.high) × (l.high ≤ length l.terms)

abbrev pub decreases-places : goal.decreases-places
decreases-places l = l.high - l.low
