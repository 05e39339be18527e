-- The clause that a query is: the eighteen forms of queries, of which eleven are leaves.
use Rattle.std.specs.Prelude.{[], ◌∷◌}
use Rattle.query_ast.specs.Clause.{Clause, leaf, bool, constant_score, dis_max, nested, to_child, has_child, has_parent, match_all, match_none, ids, on_field, parent_id, is_among, is_between, exists, begins_with, has_words, has_phrase, clauses_of}
use Rattle.query_ast.specs.declared.query.Query.{Query}
use Rattle.query_ast.specs.declared.query.Query.TheVariants.{MatchAll, MatchNone, Ids, Term, Terms, Range, Exists, Prefix, MatchWords, MatchPhrase, Bool, ConstantScore, DisMax, Nested, ToChild, HasChild, HasParent, ParentId}

abbrev pub clause_of : Query → Clause
clause_of (MatchAll boost) = leaf match_all boost
clause_of MatchNone = leaf match_none 1
clause_of (Ids listed boost) = leaf (ids listed) boost
clause_of (Term field value boost) = leaf (on_field field (is_among (value ∷ []))) boost
clause_of (Terms field values boost) = leaf (on_field field (is_among values)) boost
clause_of (Range field low high boost) = leaf (on_field field (is_between low high)) boost
clause_of (Exists field boost) = leaf (on_field field exists) boost
clause_of (Prefix field start boost) = leaf (on_field field (begins_with start)) boost
clause_of (MatchWords field value all boost) = leaf (on_field field (has_words value all)) boost
clause_of (MatchPhrase field value boost) = leaf (on_field field (has_phrase value)) boost
clause_of (Bool must filter should must_not least) =
    bool (clauses_of must) (clauses_of filter) (clauses_of should) (clauses_of must_not) least
clause_of (ConstantScore filter boost) = constant_score filter boost
clause_of (DisMax queries) = dis_max (clauses_of queries)
clause_of (Nested scope query mode) = nested scope query mode
clause_of (ToChild scope query) = to_child scope query
clause_of (HasChild child query mode least most) = has_child child query mode least most
clause_of (HasParent parent query score boost) = has_parent parent query score boost
clause_of (ParentId child id boost) = leaf (parent_id child id) boost
