use Rattle.std.proofs.Common.{ℕ, ◌<◌, ◌≤◌, ◌-◌, length, slice_index}
use Rattle.segment_builder.specs.Groups.{keys}
use Rattle.segment_builder.proofs.by_field.place_of.Given as goal

abbrev pub invariant-places : goal.invariant-places
invariant-places g l =
    (l.low ≤ l.high)
    × (l.high ≤ length l.groups)
    × ((at : ℕ) → at < l.low → slice_index (keys l.groups) at < l.field)
    × ((at : ℕ) → l.high ≤ at → at < length l.groups → l.field < slice_index (keys l.groups) at)

abbrev pub decreases-places : goal.decreases-places
decreases-places g l = l.high - l.low
