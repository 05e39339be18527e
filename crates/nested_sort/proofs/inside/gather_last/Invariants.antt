use Rattle.std.proofs.Common.{◌≡◌, ◌++◌, ◌-◌}
use Rattle.std.specs.List.{flat_map}
use Rattle.doc_values.specs.Values.{values_of}
use Rattle.nested_sort.specs.Inside.{marked_within}
use Rattle.nested_sort.proofs.inside.gather_last.Given as goal

abbrev pub invariant-inside : goal.invariant-inside
invariant-inside g l =
    l.values.items ++ flat_map (λ inside. values_of inside l.column) (marked_within l.from l.end l.passing)
    ≡ l.fn.values.items ++ flat_map (λ inside. values_of inside l.column) (marked_within l.start l.end l.passing)

abbrev pub decreases-inside : goal.decreases-inside
decreases-inside g l = l.end - l.from
