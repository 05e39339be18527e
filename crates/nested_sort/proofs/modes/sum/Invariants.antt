use Rattle.std.proofs.Common.{◌≡◌, ◌^◌, ◌-◌, pos, ◌*◌, ◌+ℤ◌, ◌-ℤ◌, ◌≤ℤ◌, fold, take}
use Rattle.nested_sort.proofs.modes.sum.Given as goal

abbrev pub invariant-values : goal.invariant-values
invariant-values l =
    (l.sum ≡ fold ◌+ℤ◌ (pos 0) (take l.value-index l.values))
    × ((pos 0 -ℤ pos (2 ^ 63 * l.value-index)) ≤ℤ l.sum)
    × (l.sum ≤ℤ pos ((2 ^ 63 - 1) * l.value-index))
