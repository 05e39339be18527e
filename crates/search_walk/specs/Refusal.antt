-- The refusal of a search body: the first fault of the walk, and else the first limit that it passes.
use Rattle.std.specs.Prelude.{ℕ, ◌+◌, pos, Bool, true, false, ◌&&◌, ◌||◌, if◌then◌else◌, nat_lt, List, [], ◌∷◌, length, codes, Option, Some, None}
use Rattle.std.specs.Option.{option_or}
use Rattle.std.specs.List.{list_any, filter, filter_map}
use Rattle.std.specs.Str.{bytes_eq}
use Rattle.tree_json.specs.Value.{JsonValue, whole, list, object, Members, member_of}
use Rattle.mapping.specs.Mapping.{Mapping}
use Rattle.search_form.specs.declared.form.Form.{Form}
use Rattle.search_form.specs.declared.form.Form.TheVariants.{Query, Terms, Nested, HasChild, HasParent, InnerHits, Bucket}
use Rattle.search_form.specs.Form.{chosen, elements_length, has}
use Rattle.search_walk.specs.declared.refusal.SearchRefusal.{SearchRefusal}
use Rattle.search_walk.specs.declared.refusal.SearchRefusal.TheVariants.{DuplicateInnerName, WindowTooLarge, InnerWindowTooLarge, TooManyClauses, QueryTooDeep, TooManyTerms}
use Rattle.search_walk.specs.Fault.{first_fault}
use Rattle.search_walk.specs.Names.{text_of, text_under}
use Rattle.search_walk.specs.Node.{Node, nodes_of}

-- ---- names of inner hits

-- the name that inner hits have: that which they give, or that of their clause
abbrev pub name_or : List ℕ → Option JsonValue → List ℕ
name_or default None = default
name_or default (Some v) = text_of (Some v)

abbrev pub inner_name_in : List ℕ → Option JsonValue → Option (List ℕ)
inner_name_in default (Some (object ms)) = Some (name_or default (member_of ms (codes "name")))
inner_name_in default v = None

abbrev pub inner_name_of : Form → Members → Option (List ℕ)
inner_name_of Nested ms = inner_name_in (text_under ms (codes "path")) (member_of ms (codes "inner_hits"))
inner_name_of HasChild ms = inner_name_in (text_under ms (codes "type")) (member_of ms (codes "inner_hits"))
inner_name_of HasParent ms = inner_name_in (text_under ms (codes "parent_type")) (member_of ms (codes "inner_hits"))
inner_name_of form ms = None

abbrev pub inner_name_at : Form → JsonValue → Option (List ℕ)
inner_name_at form (object ms) = inner_name_of form ms
inner_name_at form v = None

abbrev pub inner_names : List Node → List (List ℕ)
inner_names nodes = filter_map (λ n. inner_name_at n.form n.value) nodes

-- how many clauses of a body have inner hits
abbrev pub inner_count : Mapping → JsonValue → ℕ
inner_count m (object body) = length (inner_names (nodes_of m body))
inner_count m v = 0

-- whether some name comes twice
abbrev pub has_twice : List (List ℕ) → Bool
has_twice [] = false
has_twice (name ∷ names) = list_any (bytes_eq name) names || has_twice names

-- ---- windows

-- whole numbers from 0 on
abbrev pub natural_or : ℕ → Option JsonValue → ℕ
natural_or default (Some (whole (pos n))) = n
natural_or default v = default

abbrev pub window : ℕ → Members → ℕ
window size ms = natural_or 0 (member_of ms (codes "from")) + natural_or size (member_of ms (codes "size"))

abbrev pub largest_window : ℕ
largest_window = 10_000

abbrev pub largest_inner_window : ℕ
largest_inner_window = 100

abbrev pub has_large_window_at : Form → JsonValue → Bool
has_large_window_at InnerHits (object ms) = nat_lt largest_inner_window (window 3 ms)
has_large_window_at form v = false

abbrev pub has_large_window : Node → Bool
has_large_window n = has_large_window_at n.form n.value

-- ---- clauses, depth, terms

abbrev pub most_clauses : ℕ
most_clauses = 1_024

abbrev pub deepest : ℕ
deepest = 30

abbrev pub most_terms : ℕ
most_terms = 65_536

-- queries and buckets count, and have a depth
abbrev pub is_clause : Form → Bool
is_clause Query = true
is_clause Bucket = true
is_clause form = false

-- a query that is left out is one clause
abbrev pub clause_count : List Node → Members → ℕ
clause_count nodes body =
    length (filter (λ n. is_clause n.form) nodes) + (if has body (codes "query") then 0 else 1)

abbrev pub is_deep : Node → Bool
is_deep n = is_clause n.form && nat_lt deepest n.level

abbrev pub are_many : JsonValue → Bool
are_many (list ds) = nat_lt most_terms (elements_length ds)
are_many v = false

abbrev pub are_many_if : Option (List ℕ × Form × JsonValue) → Bool
are_many_if None = false
are_many_if (Some c) = are_many c.2

abbrev pub has_many_terms_at : Form → JsonValue → Bool
has_many_terms_at Terms (object ms) = are_many_if (chosen Terms ms)
has_many_terms_at form v = false

abbrev pub has_many_terms : Node → Bool
has_many_terms n = has_many_terms_at n.form n.value

-- ---- the first refusal

abbrev pub limit_refusal : Members → List Node → Option SearchRefusal
limit_refusal body nodes =
    if has_twice (inner_names nodes) then Some DuplicateInnerName
    else (if nat_lt largest_window (window 10 body) then Some WindowTooLarge
    else (if list_any has_large_window nodes then Some InnerWindowTooLarge
    else (if nat_lt most_clauses (clause_count nodes body) then Some TooManyClauses
    else (if list_any is_deep nodes then Some QueryTooDeep
    else (if list_any has_many_terms nodes then Some TooManyTerms
    else None)))))

abbrev pub refusal_of_body : Mapping → Members → Option SearchRefusal
refusal_of_body m body = option_or (first_fault m (nodes_of m body)) (limit_refusal body (nodes_of m body))

-- What a search body that has its form is refused for under a mapping. What is no object has not the form.
unfoldable pub first_refusal : Mapping → JsonValue → Option SearchRefusal
first_refusal m (object body) = refusal_of_body m body
first_refusal m v = None
