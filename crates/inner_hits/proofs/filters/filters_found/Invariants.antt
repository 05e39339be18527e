use Rattle.std.proofs.Common.{◌≡◌, take}
use Rattle.nested_sort.specs.Filters.{AreFound, filters_of}
use Rattle.inner_hits.proofs.filters.filters_found.Given as goal

abbrev pub invariant-sorts : goal.invariant-sorts
invariant-sorts g l = AreFound l.mapping l.view (filters_of (take l.sort-index l.sorts)) l.found.items × (l.steps ≡ l.fn.steps)
