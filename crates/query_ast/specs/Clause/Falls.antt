-- A query is larger than those that it holds, so that what goes down a query ends.
use Rattle.std.specs.Prelude.{◌≤◌, ◌≡◌, List, [], ◌∷◌, refl, map}
use Rattle.std.proofs.Common.{arith}
use denote.Param.Weighed.{most}
use Rattle.query_ast.specs.Clause.{clause_size, clauses_of, clauses_size}
use Rattle.query_ast.specs.Clause.View.{clause_of}
use Rattle.query_ast.specs.declared.query.Query.{Query}
use Rattle.query_ast.specs.declared.query.Query.TheVariants.{MatchAll, MatchNone, Ids, Term, Terms, Range, Exists, Prefix, MatchWords, MatchPhrase, Bool, ConstantScore, DisMax, Nested, ToChild, HasChild, HasParent, ParentId}
use Rattle.query_ast.specs.declared.query.QueryBox.TheDeep.{deep-Query}
use Rattle.query_ast.specs.declared.query.QueryBox.TheView as box_view
use Rattle.query_ast.specs.declared.query.QueryList.TheView as list_view

pub query_falls : (q : Query) → deep-Query q ≤ clause_size (clause_of q)
query_falls (MatchAll boost) = omega arith
query_falls MatchNone = omega arith
query_falls (Ids listed boost) = omega arith
query_falls (Term field value boost) = omega arith
query_falls (Terms field values boost) = omega arith
query_falls (Range field low high boost) = omega arith
query_falls (Exists field boost) = omega arith
query_falls (Prefix field start boost) = omega arith
query_falls (MatchWords field value all boost) = omega arith
query_falls (MatchPhrase field value boost) = omega arith
query_falls (Bool must filter should must_not least) =
    let a : list_view.size must ≡ clauses_size (clauses_of must) = refl in
    let b : list_view.size filter ≡ clauses_size (clauses_of filter) = refl in
    let c : list_view.size should ≡ clauses_size (clauses_of should) = refl in
    let d : list_view.size must_not ≡ clauses_size (clauses_of must_not) = refl in
    omega arith
query_falls (ConstantScore filter boost) = let e : box_view.size filter ≡ clause_size filter = refl in omega arith
query_falls (DisMax queries) = let e : list_view.size queries ≡ clauses_size (clauses_of queries) = refl in omega arith
query_falls (Nested scope query mode) = let e : box_view.size query ≡ clause_size query = refl in omega arith
query_falls (ToChild scope query) = let e : box_view.size query ≡ clause_size query = refl in omega arith
query_falls (HasChild child query mode least most) = let e : box_view.size query ≡ clause_size query = refl in omega arith
query_falls (HasParent parent query score boost) = let e : box_view.size query ≡ clause_size query = refl in omega arith
query_falls (ParentId child id boost) = omega arith

pub queries_fall : (qs : List Query) → most deep-Query qs ≤ clauses_size (clauses_of (map clause_of qs))
queries_fall [] = omega arith
queries_fall (q ∷ qs) = omega (arith, query_falls q, queries_fall qs)
