use Rattle.std.proofs.Common.{◌≡◌, ◌++◌, ◌+◌, ◌-◌, ◌*◌, length}
use Rattle.std.specs.List.{flat_map}
use Rattle.doc_values.specs.Values.{values_of}
use Rattle.nested_sort.specs.Inside.{chain_docs, marked_within}
use Rattle.nested_sort.proofs.inside.+gather.Given as goal
use Rattle.query_eval.specs.Folds.{scopes_in}

abbrev pub decreases-gather_down : goal.decreases-gather_down
decreases-gather_down g l = 2 * length l.chain.now

abbrev pub decreases-gather_in : goal.decreases-gather_in
decreases-gather_in g l = 2 * length l.rest.now + 1

abbrev pub invariant-gather_in-inside : goal.invariant-gather_in-inside
invariant-gather_in-inside g l =
    l.values.items ++ flat_map (λ inside. values_of inside l.column) (flat_map (chain_docs l.place (scopes_in l.segment) l.rest l.filters l.scope) (marked_within l.from l.end l.passing))
    ≡ l.fn.values.items ++ flat_map (λ inside. values_of inside l.column) (flat_map (chain_docs l.place (scopes_in l.segment) l.rest l.filters l.scope) (marked_within l.start l.end l.passing))

abbrev pub decreases-gather_in-inside : goal.decreases-gather_in-inside
decreases-gather_in-inside g l = l.end - l.from
