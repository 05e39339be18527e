use Rattle.std.proofs.Common.{◌≤◌, ◌-◌, length}
use Rattle.segment_builder.specs.Columns.{terms_lent, IsFieldStart}
use Rattle.segment_builder.proofs.find.field_start.Given as goal

abbrev pub invariant-places : goal.invariant-places
invariant-places l =
    IsFieldStart (terms_lent l.terms) l.field l.low l.high × (l.low ≤ l.high) × (l.high ≤ length l.terms)

abbrev pub decreases-places : goal.decreases-places
decreases-places l = l.high - l.low
