use Rattle.std.proofs.Common.{map, ◌+◌, ◌*◌}
use Rattle.query_ast.specs.Clause.{clause_size, clauses_of, clauses_size}
use Rattle.query_ast.specs.Clause.View.{clause_of}
use Rattle.query_eval.proofs.evaluation.+found.Given as goal

abbrev pub decreases-found : goal.decreases-found
decreases-found l = 4 * clause_size (clause_of l.query.now) + 1

abbrev pub decreases-constant : goal.decreases-constant
decreases-constant l = 4 * (1 + clause_size l.filter.now)

abbrev pub decreases-greatest : goal.decreases-greatest
decreases-greatest l = 4 * (1 + clauses_size (clauses_of l.queries.now))

abbrev pub decreases-nested : goal.decreases-nested
decreases-nested l = 4 * (1 + clause_size l.query.now)

abbrev pub decreases-to_child : goal.decreases-to_child
decreases-to_child l = 4 * (1 + clause_size l.query.now)

abbrev pub decreases-has_child : goal.decreases-has_child
decreases-has_child l = 4 * (1 + clause_size l.query.now)

abbrev pub decreases-has_parent : goal.decreases-has_parent
decreases-has_parent l = 4 * (1 + clause_size l.query.now)

abbrev pub decreases-bool_of : goal.decreases-bool_of
decreases-bool_of l =
    4 * (1 + (clauses_size (clauses_of l.must.now) + (clauses_size (clauses_of l.filter.now) + (clauses_size (clauses_of l.should.now) + clauses_size (clauses_of l.must_not.now)))))

abbrev pub decreases-folded : goal.decreases-folded
decreases-folded l = 4 * clauses_size (clauses_of (map clause_of l.queries.now)) + 2

abbrev pub decreases-asked : goal.decreases-asked
decreases-asked l = 4 * clauses_size (clauses_of (map clause_of l.queries.now)) + 3

abbrev pub decreases-tallied : goal.decreases-tallied
decreases-tallied l = 4 * clauses_size (clauses_of (map clause_of l.queries.now)) + 2
