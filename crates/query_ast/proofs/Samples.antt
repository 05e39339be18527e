-- A mapping, trees and clauses that the examples speak of: a shop's offers with their stock, and questions with answers.
use Rattle.std.specs.Prelude.{◌≡◌, ℕ, ℤ, true, false, List as Seq, [], ◌∷◌, map, codes, Option, Some, None, refl}
use Rattle.score_math.specs.declared.score.ScoreMode.TheVariants.{Avg}
use Rattle.tree_json.specs.Value.{JsonValue, whole, text, list, object, elements_of, members_of}
use Rattle.mapping_body.specs.declared.kind.Kind.{Kind}
use Rattle.mapping_body.specs.declared.kind.Kind.TheVariants.{Text, Keyword, Long, Object, Nested, Join}
use Rattle.mapping.specs.Mapping.{Mapping, Field, Scope, root_scope, mapping_of, included}
use Rattle.mapping_growth.specs.Fields.{drafts_of}
use Rattle.mapping_growth.specs.Relations.{Relation, relations_of}
use Rattle.tree_objects.specs.declared.field_value.FieldValue.{FieldValue}
use Rattle.tree_objects.specs.declared.field_value.FieldValue.TheVariants.{Number, Written}
use Rattle.tree_objects.specs.Object.{below, way, given}
use Rattle.tree_objects.specs.Tree.{Tree}
use Rattle.tree_objects.specs.Values.{convert, join_of}
use Rattle.query_ast.specs.Clause.{Clause, no_clauses, clause, leaf, bool, nested, on_field, is_among, match_all}
use Rattle.query_ast.specs.Joined.{child_trees, parent_trees}
use Rattle.query_ast.specs.Leaf.{leaf_holds}
use Rattle.query_ast.specs.Page.{page_of}
use Rattle.query_ast.specs.Rows.{rows_of}
use Rattle.query_ast.specs.Search.{hit_page, found_buckets, everything}
use Rattle.query_ast.specs.SortKey.{sort_key}
use Rattle.query_ast.specs.declared.search.SearchBody.{SearchBody}

-- `unfolding searches` lets `refl` compute what a search finds
unfoldable pub searches : Unit {0}
unfolding hit_page found_buckets rows_of page_of sort_key leaf_holds child_trees parent_trees below way given convert join_of included
searches = tt

-- ---- the mapping

abbrev typed : Seq ℕ → JsonValue
typed kind = object (members_of ((codes "type", text kind) ∷ []))

abbrev nest : Seq (Seq ℕ × JsonValue) → JsonValue
nest properties = object (members_of ((codes "properties", object (members_of properties)) ∷ (codes "type", text (codes "nested")) ∷ []))

abbrev body : JsonValue
body = object (members_of ((
  codes "properties",
  object (members_of (
      (codes "name", typed (codes "text"))
      ∷ (
        codes "offers",
        nest (
            (codes "color", typed (codes "keyword")) ∷ (codes "price", typed (codes "long"))
            ∷ (codes "stock", nest ((codes "n", typed (codes "long")) ∷ (codes "site", typed (codes "keyword")) ∷ [])) ∷ []),
      )
      ∷ (
        codes "rel",
        object (members_of (
            (codes "relations", object (members_of ((codes "question", text (codes "answer")) ∷ []))) ∷ (codes "type", text (codes "join")) ∷ [])),
      )
      ∷ [])),
) ∷ []))

abbrev field : Seq ℕ → Kind → ℕ → Field
field path kind home = record { path = path; kind = kind; home = home; since = 1 }

abbrev scope : Seq ℕ → ℕ → Seq ℕ → Scope
scope path around name = record { path = path; around = around; names = name ∷ []; in_parent = false; in_root = false; since = 1 }

abbrev relation : Seq ℕ → Option ℕ → Relation
relation name parent = record { name = name; parent = parent; since = 1 }

abbrev pub mapping : Mapping
mapping = record {
  bodies = body ∷ [];
  dynamic = true;
  index = codes "main";
  fields =
      field (codes "name") Text 0 ∷ field (codes "offers") Nested 0 ∷ field (codes "offers.color") Keyword 1
      ∷ field (codes "offers.price") Long 1 ∷ field (codes "offers.stock") Nested 1 ∷ field (codes "offers.stock.n") Long 2
      ∷ field (codes "offers.stock.site") Keyword 2 ∷ field (codes "rel") Join 0 ∷ [];
  scopes = root_scope ∷ scope (codes "offers") 0 (codes "offers") ∷ scope (codes "offers.stock") 1 (codes "stock") ∷ [];
  order = 1 ∷ 2 ∷ [];
  relations = relation (codes "answer") (Some 1) ∷ relation (codes "question") None ∷ [];
}

-- a plain object with a field, and in it a nested path with another
abbrev pub boxed : Mapping
boxed = record {
  bodies = [];
  dynamic = true;
  index = codes "main";
  fields =
      field (codes "box") Object 0 ∷ field (codes "box.parts") Nested 0 ∷ field (codes "box.parts.n") Long 1 ∷ field (codes "box.tag") Keyword 0 ∷ [];
  scopes =
      root_scope
      ∷ record { path = codes "box.parts"; around = 0; names = codes "box" ∷ codes "parts" ∷ []; in_parent = false; in_root = false; since = 1 } ∷ [];
  order = 1 ∷ [];
  relations = [];
}

mapping_is_read : mapping_of (body ∷ []) true ≡ mapping
unfolding drafts_of relations_of
mapping_is_read = refl

-- ---- trees

abbrev pub tree : Seq ℕ → ℕ → JsonValue → Tree
tree id number source = record { id = id; number = number; source = source; generation = 1 }

abbrev pub an_object : Seq (Seq ℕ × JsonValue) → JsonValue
an_object members = object (members_of members)

abbrev pub a_list : Seq JsonValue → JsonValue
a_list elements = list (elements_of elements)

abbrev pub priced : Seq ℕ → ℤ → JsonValue
priced color price = an_object ((codes "color", text color) ∷ (codes "price", whole price) ∷ [])

abbrev pub offering : Seq JsonValue → JsonValue
offering offers = an_object ((codes "offers", a_list offers) ∷ [])

abbrev pub stocked : ℤ → Seq ℕ → JsonValue
stocked n site = an_object ((codes "n", whole n) ∷ (codes "site", text site) ∷ [])

abbrev pub stocking : Seq ℕ → Seq JsonValue → JsonValue
stocking color stock = an_object ((codes "color", text color) ∷ (codes "stock", a_list stock) ∷ [])

abbrev pub question : JsonValue
question = an_object ((codes "rel", text (codes "question")) ∷ [])

abbrev pub answer_of : Seq ℕ → JsonValue
answer_of id = an_object ((codes "rel", an_object ((codes "name", text (codes "answer")) ∷ (codes "parent", text id) ∷ [])) ∷ [])

-- ---- clauses

abbrev pub name : ℕ
name = 0

abbrev pub color : ℕ
color = 2

abbrev pub price : ℕ
price = 3

abbrev pub stock_n : ℕ
stock_n = 5

abbrev pub site : ℕ
site = 6

abbrev pub all : Clause
all = leaf match_all 1

abbrev pub word : Seq ℕ → FieldValue
word s = Written s

abbrev pub number : ℤ → FieldValue
number z = Number z

abbrev pub term : ℕ → FieldValue → Clause
term f v = leaf (on_field (Some f) (is_among (v ∷ []))) 1

abbrev pub both : Clause → Clause → Clause
both a b = bool (clause a (clause b no_clauses)) no_clauses no_clauses no_clauses None

abbrev pub within : ℕ → Clause → Clause
within p c = nested (Some p) c Avg

-- ---- searches

-- ten hits by score, without their sources
abbrev pub search : Clause → SearchBody
search query = record (everything 1 10 false) { query = query }

-- the ids of the hits with their scores
abbrev pub find : Seq Tree → Clause → Seq (Seq ℕ × ℕ)
find live query = map (λ hit. (hit.id, hit.score)) (hit_page mapping live (search query)).hits
