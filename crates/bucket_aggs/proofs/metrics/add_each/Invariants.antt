use Rattle.std.proofs.Common.{◌≡◌, ◌+◌, ◌^◌, ◌++◌, ℕ, ℤ, List, length}
use Rattle.bucket_aggs.specs.Sums.{HasRoom, IsAdded}
use Rattle.bucket_aggs.specs.declared.metrics.Running.{Running}
use Rattle.bucket_aggs.proofs.metrics.add_each.Given as goal

-- of the numbers so far, of which the values are left
abbrev pub invariant-values : goal.invariant-values
invariant-values l =
    ((start : Running) (zs : List ℤ) → IsAdded start zs l.fn.sums → (done : List ℤ) × IsAdded start (zs ++ done) l.sums × (done ++ l.values ≡ l.fn.values))
    × ((count : ℕ) → HasRoom (count + 2 ^ 32) l.fn.sums → HasRoom (count + length l.values) l.sums)

abbrev pub decreases-values : goal.decreases-values
decreases-values l = length l.values
