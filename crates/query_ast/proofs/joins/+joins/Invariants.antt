use Rattle.std.proofs.Common.{◌≡◌, map, ◌+◌, ◌*◌, drop}
use Rattle.query_ast.specs.Clause.{clause_size, clauses_of, clauses_size}
use Rattle.query_ast.specs.Clause.View.{clause_of}
use Rattle.query_ast.specs.Joins.{some_join}
use Rattle.query_ast.proofs.joins.+joins.Given as goal

abbrev pub decreases-joins : goal.decreases-joins
decreases-joins l = 2 * clause_size (clause_of l.query.now)

abbrev pub decreases-some_query : goal.decreases-some_query
decreases-some_query l = 2 * clauses_size (clauses_of (map clause_of l.queries.now)) + 1

abbrev pub invariant-some_query-queries : goal.invariant-some_query-queries
invariant-some_query-queries l =
    some_join (clauses_of (map clause_of (drop l.query-index l.queries))) ≡ some_join (clauses_of (map clause_of l.queries))
