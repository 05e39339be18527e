use Rattle.std.proofs.Common.{◌≡◌, ◌++◌, drop}
use Rattle.std.specs.List.{All}
use Rattle.nested_sort.specs.Listed.{IsCapped}
use Rattle.nested_sort.proofs.hits.hits_found.Given as goal
use Rattle.view_objects.specs.Hits.{hits_in, hits_of}

abbrev pub invariant-entries : goal.invariant-entries
invariant-entries l = (l.hits.items ++ hits_of l.at (drop l.at l.found) ≡ hits_in l.found) × All IsCapped l.hits.items
