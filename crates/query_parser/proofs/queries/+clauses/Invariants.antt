use Rattle.std.proofs.Common.{◌≡◌, ◌++◌, ◌+◌, ◌*◌, map, drop}
use Rattle.tree_json.specs.Value.{value_size, elements_size, elements_of, members_size, members_of}
use Rattle.tree_json.specs.View.{view, values}
use Rattle.query_ast.specs.Clause.View.{clause_of}
use Rattle.query_parser.specs.Queries.{clauses_in}
use Rattle.query_parser.proofs.queries.+clauses.Given as goal

abbrev pub decreases-clause_at : goal.decreases-clause_at
decreases-clause_at l = 4 * value_size (view l.value.now)

abbrev pub decreases-clause_named : goal.decreases-clause_named
decreases-clause_named l = 4 * value_size (view l.value.now) + 3

abbrev pub decreases-clause_in : goal.decreases-clause_in
decreases-clause_in l = 4 * members_size (members_of l.object.now) + 2

abbrev pub decreases-clause_under : goal.decreases-clause_under
decreases-clause_under l = 4 * members_size (members_of l.object.now) + 1

abbrev pub decreases-clauses_under : goal.decreases-clauses_under
decreases-clauses_under l = 4 * members_size (members_of l.object.now) + 1

abbrev pub decreases-clauses_at : goal.decreases-clauses_at
decreases-clauses_at l = 4 * value_size (view l.value.now) + 1

abbrev pub decreases-clauses_in : goal.decreases-clauses_in
decreases-clauses_in l = 4 * elements_size (elements_of (values l.elements.now))

abbrev pub invariant-clauses_in-elements : goal.invariant-clauses_in-elements
invariant-clauses_in-elements l =
    map clause_of l.found.items ++ clauses_in l.mapping l.scope (elements_of (values (drop l.element-index l.elements)))
    ≡ clauses_in l.mapping l.scope (elements_of (values l.elements))
