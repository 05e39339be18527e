use Rattle.std.proofs.Common.{◌≡◌, ◌++◌, drop}
use Rattle.tree_json.specs.Value.{elements_of}
use Rattle.tree_json.specs.View.{values}
use Rattle.query_parser.specs.Sorts.{sorts_in}
use Rattle.query_parser.proofs.sorts.sorts_in.Given as goal

abbrev pub invariant-clauses : goal.invariant-clauses
invariant-clauses l =
    l.found.items ++ sorts_in l.mapping l.scope (elements_of (values (drop l.clause-index l.clauses)))
    ≡ sorts_in l.mapping l.scope (elements_of (values l.clauses))
