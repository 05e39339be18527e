-- The sort that a body or inner hits say.
use Rattle.std.specs.Prelude.{ℕ, Bool, true, false, if◌then◌else◌, List, [], ◌∷◌, codes, Option, Some, None}
use Rattle.std.specs.Str.{bytes_eq}
use Rattle.tree_json.specs.Value.{JsonValue, text, list, object, Elements, no_elements, element, Members, no_members, member, member_of}
use Rattle.mapping_body.specs.declared.kind.Kind.{Kind}
use Rattle.mapping.specs.Mapping.{Mapping}
use Rattle.query_ast.specs.Clause.{Clause}
use Rattle.query_ast.specs.declared.sort.Chain.{Chain}
use Rattle.query_ast.specs.declared.sort.Missing.{Missing}
use Rattle.query_ast.specs.declared.sort.Missing.TheVariants.{Last, First, Given}
use Rattle.query_ast.specs.declared.sort.Sort.{Sort}
use Rattle.query_ast.specs.declared.sort.SortKey.TheVariants.{Score, Field}
use Rattle.query_ast.specs.declared.sort.SortMode.{SortMode}
use Rattle.query_ast.specs.declared.sort.SortMode.TheVariants.{Min, Max, Sum, Avg, Median}
use Rattle.search_form.specs.declared.form.Form.{Form}
use Rattle.search_form.specs.declared.form.Form.TheVariants.{SortClause, SortNested}
use Rattle.search_form.specs.Form.{chosen}
use Rattle.search_walk.specs.Names.{text_of, text_under, scope_inside}
use Rattle.search_walk.specs.Sorts.{sort_name, sort_part, is_score, given_missing}
use Rattle.query_parser.specs.Queries.{clause_at}
use Rattle.query_parser.specs.Readings.{field_in, kind_of_field, value_by}

-- ---- the chain of nested paths, the outermost first

abbrev pub filter_if : Mapping → ℕ → Option JsonValue → Option Clause
filter_if m scope None = None
filter_if m scope (Some filter) = Some (clause_at m (Some scope) filter)

abbrev pub step_to : Mapping → ℕ → Members → Chain
step_to m scope ms = record { scope = scope; filter = filter_if m scope (member_of ms (codes "filter")) }

abbrev pub with_step : Mapping → Option ℕ → Members → List Chain → List Chain
with_step m None ms rest = []
with_step m (Some scope) ms rest = step_to m scope ms ∷ rest

abbrev mutual
  pub chain_at : Mapping → Option ℕ → JsonValue → List Chain
  chain_at m scope (object ms) = with_step m (scope_inside m scope SortNested ms) ms (chain_under m (scope_inside m scope SortNested ms) ms)
  chain_at m scope v = []

  pub chain_under : Mapping → Option ℕ → Members → List Chain
  chain_under m scope no_members = []
  chain_under m scope (member k d ms) = if bytes_eq k (codes "nested") then chain_at m scope d else chain_under m scope ms

abbrev pub chain_if : Mapping → Option ℕ → Option JsonValue → List Chain
chain_if m scope None = []
chain_if m scope (Some v) = chain_at m scope v

-- ---- a clause

abbrev pub order_of : JsonValue → List ℕ
order_of (text s) = s
order_of (object ms) = text_under ms (codes "order")
order_of v = []

abbrev pub order_if : Option (List ℕ × Form × JsonValue) → List ℕ
order_if None = []
order_if (Some c) = order_of c.2

abbrev pub order_in : JsonValue → List ℕ
order_in (object ms) = order_if (chosen SortClause ms)
order_in v = []

-- fields ascend, and the score descends, unless the clause says otherwise
abbrev pub descends : JsonValue → Bool
descends clause =
    if bytes_eq (order_in clause) (codes "desc") then true
    else (if bytes_eq (order_in clause) (codes "asc") then false else is_score (sort_name clause))

abbrev pub mode_named : Bool → List ℕ → SortMode
mode_named descending word =
    if bytes_eq word (codes "min") then Min
    else (if bytes_eq word (codes "max") then Max
    else (if bytes_eq word (codes "sum") then Sum
    else (if bytes_eq word (codes "avg") then Avg
    else (if bytes_eq word (codes "median") then Median
    else (if descending then Max else Min)))))

abbrev pub mode_of : JsonValue → SortMode
mode_of clause = mode_named (descends clause) (text_of (sort_part clause (codes "mode")))

abbrev pub missing_by : Option Kind → Option JsonValue → Missing → Missing
missing_by kind None word = word
missing_by kind (Some v) word = Given (value_by kind v)

abbrev pub missing_word : JsonValue → Missing
missing_word clause = if bytes_eq (text_of (sort_part clause (codes "missing"))) (codes "_first") then First else Last

abbrev pub missing_of : Option Kind → JsonValue → Missing
missing_of kind clause = missing_by kind (given_missing clause) (missing_word clause)

abbrev pub by_score_in : Bool → Sort
by_score_in descending = record { key = Score; descending = descending; missing = Last }

abbrev pub field_sort : Mapping → Option ℕ → JsonValue → Option ℕ → Sort
field_sort m scope clause None = by_score_in (descends clause)
field_sort m scope clause (Some f) = record {
  key = Field f (mode_of clause) (chain_if m scope (sort_part clause (codes "nested")));
  descending = descends clause;
  missing = missing_of (kind_of_field m (Some f)) clause;
}

abbrev pub sort_at : Mapping → Option ℕ → JsonValue → Sort
sort_at m scope clause =
    if is_score (sort_name clause) then by_score_in (descends clause)
    else field_sort m scope clause (field_in m scope (sort_name clause))

abbrev pub sorts_in : Mapping → Option ℕ → Elements → List Sort
sorts_in m scope no_elements = []
sorts_in m scope (element d ds) = sort_at m scope d ∷ sorts_in m scope ds

-- a list without a clause, and a sort that is left out, are by the score, the greatest first
abbrev pub sorts_of : Mapping → Option ℕ → Option JsonValue → List Sort
sorts_of m scope None = by_score_in true ∷ []
sorts_of m scope (Some (list no_elements)) = by_score_in true ∷ []
sorts_of m scope (Some (list (element d ds))) = sorts_in m scope (element d ds)
sorts_of m scope (Some v) = sort_at m scope v ∷ []

-- inside an ignored clause there is nothing to sort
abbrev pub sorts_under : Mapping → Option ℕ → Members → List Sort
sorts_under m None ms = []
sorts_under m (Some scope) ms = sorts_of m (Some scope) (member_of ms (codes "sort"))
