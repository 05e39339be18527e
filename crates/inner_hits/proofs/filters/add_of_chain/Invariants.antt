use Rattle.std.proofs.Common.{◌≡◌, ◌++◌, ℕ, List, take}
use Rattle.std.specs.List.{flat_map}
use Rattle.nested_sort.specs.Filters.{AreFound, filter_of}
use Rattle.query_ast.specs.Clause.{Clause}
use Rattle.inner_hits.proofs.filters.add_of_chain.Given as goal

abbrev pub invariant-chain : goal.invariant-chain
invariant-chain g l =
    ((before : List (ℕ × Clause)) → AreFound l.mapping l.view before l.fn.found.items → AreFound l.mapping l.view (before ++ flat_map filter_of (take l.step-index l.chain)) l.found.items)
    × (l.steps ≡ l.fn.steps)
