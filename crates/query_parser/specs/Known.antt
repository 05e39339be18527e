-- The clause that was built of a value, where it is known, and those of its parts. It serves proofs.
use Rattle.std.specs.Prelude.{◌≡◌, ⊤, IsTrue, Bool, false, ℕ, zero, suc, ◌<◌, if◌then◌else◌, List, codes, length, map, get_or, Option, Some, None}
use Rattle.std.specs.Str.{bytes_eq}
use Rattle.tree_json.specs.Value.{JsonValue, object, Members, no_members, member}
use Rattle.tree_json.specs.View.{view}
use Rattle.tree_json.specs.declared.value.Json.{Json}
use Rattle.mapping.specs.Mapping.{Mapping}
use Rattle.query_ast.specs.Clause.{Clause, Clauses, no_clauses, clause, leaf, bool as bool_clause, constant_score, dis_max, nested, to_child, has_child, has_parent, clauses_of}
use Rattle.query_ast.specs.Clause.View.{clause_of}
use Rattle.search_form.specs.declared.form.Form.{Form}
use Rattle.search_form.specs.declared.form.Form.TheVariants.{Query as QueryForm}
use Rattle.search_form.specs.Form.{form_at}
use Rattle.search_form.specs.Table.{element_of, single_of}
use Rattle.query_parser.specs.declared.built.Built.{Built}
use Rattle.query_parser.specs.declared.built.Built.TheVariants.{Unknown, Clause as OfClause, Query as OfQuery, Queries as OfQueries}
use Rattle.query_parser.specs.Queries.{clause_at, clause_named, clauses_at, form_named}

pub data Known : Type 0 where
  unknown : Known
  -- of what stands under a query's name
  of_clause : Clause → Known
  of_query : Clause → Known
  -- of a list of queries
  of_queries : Clauses → Known

abbrev pub known_of : Built → Known
known_of Unknown = unknown
known_of (OfClause q) = of_clause (clause_of q.now)
known_of (OfQuery q) = of_query (clause_of q.now)
known_of (OfQueries qs) = of_queries (clauses_of (map clause_of qs.now))

-- ---- of the parts

abbrev pub query_at : Clauses → ℕ → Known
query_at no_clauses i = unknown
query_at (clause c cs) zero = of_query c
query_at (clause c cs) (suc i) = query_at cs i

abbrev pub known_at : Known → ℕ → Known
known_at unknown i = unknown
known_at (of_clause c) i = unknown
known_at (of_query c) i = unknown
known_at (of_queries cs) i = query_at cs i

abbrev pub one_if : Bool → Clause → Known
one_if is_under c = if is_under then of_query c else unknown

abbrev pub part_under : Clause → List ℕ → Known
part_under (leaf l boost) name = unknown
part_under (bool_clause must filter should must_not least) name =
    if bytes_eq name (codes "must") then of_queries must
    else (if bytes_eq name (codes "filter") then of_queries filter
    else (if bytes_eq name (codes "should") then of_queries should
    else (if bytes_eq name (codes "must_not") then of_queries must_not
    else unknown)))
part_under (constant_score c boost) name = one_if (bytes_eq name (codes "filter")) c
part_under (dis_max cs) name = if bytes_eq name (codes "queries") then of_queries cs else unknown
part_under (nested scope c mode) name = one_if (bytes_eq name (codes "query")) c
part_under (to_child scope c) name = one_if (bytes_eq name (codes "query")) c
part_under (has_child child c mode least most) name = one_if (bytes_eq name (codes "query")) c
part_under (has_parent parent c score boost) name = one_if (bytes_eq name (codes "query")) c

-- for the members of an object: a query has one
abbrev pub known_in : Known → Members → Known
known_in (of_query c) (member k d no_members) = of_query c
known_in (of_query c) ms = unknown
known_in (of_clause c) ms = of_clause c
known_in unknown ms = unknown
known_in (of_queries cs) ms = unknown

-- of a member, by its name
abbrev pub known_under : Known → List ℕ → Known
known_under unknown name = unknown
known_under (of_clause c) name = part_under c name
known_under (of_query c) name = of_clause c
known_under (of_queries cs) name = unknown

-- the query of a clause that may have inner hits
abbrev pub own_query_of : Clause → Option Clause
own_query_of (nested scope c mode) = Some c
own_query_of (has_child child c mode least most) = Some c
own_query_of (has_parent parent c score boost) = Some c
own_query_of c = None

abbrev pub own_query : Known → Option Clause
own_query (of_clause c) = own_query_of c
own_query k = None

-- ---- that it was built of it

-- of a value of a form, in a scope
abbrev pub IsOf : Mapping → Option ℕ → Form → JsonValue → Known → Type 0
IsOf m scope form v unknown = ⊤
IsOf m scope form v (of_clause c) = c ≡ clause_named m scope (single_of form) v
IsOf m scope form v (of_query c) = (form ≡ QueryForm) × (c ≡ clause_at m scope v)
IsOf m scope form v (of_queries cs) = (element_of form ≡ QueryForm) × (cs ≡ clauses_of (clauses_at m scope v))

-- of an object's only member
abbrev pub IsOfOnly : Mapping → Option ℕ → Members → Clause → Type 0
IsOfOnly m scope no_members c = ⊤
IsOfOnly m scope (member k d no_members) c = c ≡ clause_named m scope (form_named k) d
IsOfOnly m scope (member k d (member l e ms)) c = IsTrue false

-- of an object, for its members
abbrev pub IsOfObject : Mapping → Option ℕ → Form → Members → Known → Type 0
IsOfObject m scope form ms unknown = ⊤
IsOfObject m scope form ms (of_clause c) = c ≡ clause_named m scope form (object ms)
IsOfObject m scope form ms (of_query c) = (form ≡ QueryForm) × IsOfOnly m scope ms c
IsOfObject m scope form ms (of_queries cs) = ⊤

-- of elements, each of a form, and of members
abbrev pub IsOfElements : Mapping → Option ℕ → Form → List Json → Known → Type 0
IsOfElements m scope form ds k = (i : ℕ) (d : Json) → i < length ds → d ≡ get_or ds i d → IsOf m scope form (view d) (known_at k i)

abbrev pub IsOfMembers : Mapping → Option ℕ → Form → List (List ℕ × Json) → Known → Type 0
IsOfMembers m scope form ms k =
    (i : ℕ) (e : List ℕ × Json) → i < length ms → e ≡ get_or ms i e → IsOf m scope (form_at form e.0) (view e.1) (known_under k e.0)
