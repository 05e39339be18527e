-- Which refusal comes first: bodies that are wrong in two ways, and the one that is said.
use Rattle.std.proofs.Common.{◌≡◌, ℕ, pos, List as Seq, [], ◌∷◌, codes, refl, true, false, Option, Some, None}
use Rattle.tree_json.specs.Value.{JsonValue, bool, whole, text, list, object, elements_of, members_of}
use Rattle.mapping.specs.Mapping.{Mapping, mapping_of}
use Rattle.mapping_growth.specs.Fields.{drafts_of}
use Rattle.mapping_growth.specs.Relations.{relations_of}
use Rattle.tree_objects.specs.Values.{convert}
use Rattle.search_walk.specs.Node.{nodes_of}
use Rattle.search_walk.specs.Refusal.{first_refusal}
use Rattle.search_walk.specs.declared.refusal.SearchRefusal.{SearchRefusal}
use Rattle.search_walk.specs.declared.refusal.SearchRefusal.TheVariants.{UnknownPath, PathOutOfScope, BadValue, SortFieldUnmapped, DuplicateInnerName, InnerWindowTooLarge}

abbrev object_of : Seq (Seq ℕ × JsonValue) → JsonValue
object_of ms = object (members_of ms)

abbrev one : Seq ℕ → JsonValue → JsonValue
one name v = object_of ((name, v) ∷ [])

abbrev number : ℕ → JsonValue
number n = whole (pos n)

-- a mapping with a number, and with a nested path that has a number
abbrev typed : Seq ℕ → JsonValue
typed kind = one (codes "type") (text kind)

abbrev offers : JsonValue
offers = object_of ((codes "properties", one (codes "l") (typed (codes "long"))) ∷ (codes "type", text (codes "nested")) ∷ [])

abbrev mapping : Mapping
mapping = mapping_of (one (codes "properties") (object_of ((codes "l", typed (codes "long")) ∷ (codes "n", offers) ∷ [])) ∷ []) false

abbrev all : JsonValue
all = one (codes "match_all") (object_of [])

-- a query whose value is no number
abbrev wrong : Seq ℕ → JsonValue
wrong field = one (codes "term") (one field (text (codes "x")))

abbrev nested : Seq ℕ → JsonValue → JsonValue
nested path q = one (codes "nested") (object_of ((codes "path", text path) ∷ (codes "query", q) ∷ []))

abbrev ignored : JsonValue → JsonValue → JsonValue
ignored inner q = one (codes "nested") (object_of (
    (codes "ignore_unmapped", bool true) ∷ (codes "inner_hits", inner) ∷ (codes "path", text (codes "zz")) ∷ (codes "query", q) ∷ []))

abbrev shown : JsonValue → JsonValue → JsonValue
shown inner q = one (codes "nested") (object_of ((codes "inner_hits", inner) ∷ (codes "path", text (codes "n")) ∷ (codes "query", q) ∷ []))

abbrev refused : JsonValue → Option SearchRefusal
refused body = first_refusal mapping body

query_before_sort : refused (object_of ((codes "query", wrong (codes "l")) ∷ (codes "sort", text (codes "zz")) ∷ [])) ≡ Some BadValue
unfolding first_refusal nodes_of drafts_of relations_of convert
query_before_sort = refl

clause_before_its_parts : refused (one (codes "query") (nested (codes "zz") (wrong (codes "l")))) ≡ Some UnknownPath
unfolding first_refusal nodes_of drafts_of relations_of convert
clause_before_its_parts = refl

-- the parts of a clause in byte order of their names
inner_hits_before_query : refused (one (codes "query") (shown (one (codes "sort") (text (codes "zz"))) (wrong (codes "n.l")))) ≡ Some SortFieldUnmapped
unfolding first_refusal nodes_of drafts_of relations_of convert
inner_hits_before_query = refl

buckets_inside_before_filter : refused (one (codes "aggs") (one (codes "a") (object_of (
    (codes "aggs", one (codes "b") (one (codes "nested") (one (codes "path") (text (codes "zz")))))
    ∷ (codes "filter", wrong (codes "l")) ∷ [])))) ≡ Some UnknownPath
unfolding first_refusal nodes_of drafts_of relations_of convert
buckets_inside_before_filter = refl

-- the empty path is the root's, which is no nested path and doesn't lie above itself
root_is_not_nested : refused (one (codes "query") (nested [] all)) ≡ Some UnknownPath
unfolding first_refusal nodes_of drafts_of relations_of convert
root_is_not_nested = refl

root_is_not_above_itself : refused (one (codes "query") (one (codes "to_child") (object_of ((codes "path", text []) ∷ (codes "query", all) ∷ [])))) ≡ Some PathOutOfScope
unfolding first_refusal nodes_of drafts_of relations_of convert
root_is_not_above_itself = refl

-- inside an ignored clause nothing is looked up, and the limits still count
ignored_clause_is_not_judged : refused (one (codes "query") (ignored (object_of []) (nested (codes "l") (wrong (codes "l"))))) ≡ None
unfolding first_refusal nodes_of drafts_of relations_of convert
ignored_clause_is_not_judged = refl

ignored_clause_is_counted : refused (one (codes "query") (ignored (one (codes "size") (number 101)) (wrong (codes "l")))) ≡ Some InnerWindowTooLarge
unfolding first_refusal nodes_of drafts_of relations_of convert
ignored_clause_is_counted = refl

-- names before windows; a path is the name of inner hits that give none
names_before_windows : refused (object_of (
    (codes "from", number 10_001)
    ∷ (
      codes "query",
      one (codes "dis_max") (one (codes "queries") (list (elements_of (
          shown (object_of []) all ∷ shown (one (codes "name") (text (codes "n"))) all ∷ [])))),
    ) ∷ [])) ≡ Some DuplicateInnerName
unfolding first_refusal nodes_of drafts_of relations_of convert
names_before_windows = refl
