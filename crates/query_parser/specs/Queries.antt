-- The query that a body says, under a mapping and in a scope: fields, scopes and relations looked up, values converted,
-- defaults filled in. Where a body is refused it says something, and nothing asks what.
use Rattle.std.specs.Prelude.{ℕ, Bool, false, if◌then◌else◌, List, [], ◌∷◌, codes, Option, Some, None}
use Rattle.std.specs.Str.{bytes_eq}
use Rattle.score_math.specs.declared.score.ScoreMode.TheVariants.{Avg, Zero}
use Rattle.tree_json.specs.Value.{JsonValue, null, list, object, Elements, no_elements, element, Members, no_members, member, member_of}
use Rattle.mapping_body.specs.declared.kind.Kind.{Kind}
use Rattle.mapping.specs.Mapping.{Mapping}
use Rattle.query_ast.specs.declared.query.RangeEnd.{RangeEnd}
use Rattle.query_ast.specs.declared.query.RangeEnd.TheVariants.{Free, Closed, Past}
use Rattle.query_ast.specs.Clause.{Clause, Test, leaf, bool as bool_clause, constant_score, dis_max, nested, to_child, has_child, has_parent, match_all, match_none, ids, on_field, parent_id, is_among, is_between, exists, begins_with, has_words, has_phrase, clauses_of}
use Rattle.search_form.specs.declared.form.Form.{Form}
use Rattle.search_form.specs.declared.form.Form.TheVariants.{Query, MatchAll, MatchNone, Term, Terms, Range, Exists, Prefix, Match, MatchPhrase, Ids, BoolQuery, ConstantScore, DisMax, Nested, ToChild, HasChild, HasParent, ParentId}
use Rattle.search_form.specs.Form.{form_at, chosen}
use Rattle.search_walk.specs.Fault.{asked_value}
use Rattle.search_walk.specs.Names.{text_of, text_under, flag_under, scope_inside}
use Rattle.query_parser.specs.Readings.{natural_under, boost_in, boost_of, mode_in, field_in, kind_of_field, child_in, parent_in, value_by, value_by_if, values_of, texts_of}

-- ---- leaves

-- an end of a range; null is no bound
abbrev pub closed_of : Option Kind → Option JsonValue → RangeEnd
closed_of kind None = Free
closed_of kind (Some null) = Free
closed_of kind (Some v) = Closed (value_by kind v)

abbrev pub past_of : Option Kind → JsonValue → RangeEnd
past_of kind null = Free
past_of kind v = Past (value_by kind v)

abbrev pub end_of : Option Kind → Option JsonValue → Option JsonValue → RangeEnd
end_of kind None closed = closed_of kind closed
end_of kind (Some past) closed = past_of kind past

abbrev pub range_of : Option Kind → JsonValue → Test
range_of kind (object ms) =
    is_between (end_of kind (member_of ms (codes "gt")) (member_of ms (codes "gte")))
    (end_of kind (member_of ms (codes "lt")) (member_of ms (codes "lte")))
range_of kind v = is_between Free Free

abbrev pub is_and_of : JsonValue → Bool
is_and_of (object ms) = bytes_eq (text_under ms (codes "operator")) (codes "and")
is_and_of v = false

-- what a leaf asks of its field
abbrev pub test_of : Option Kind → Form → JsonValue → Test
test_of kind Term v = is_among (value_by_if kind (asked_value (codes "value") v) ∷ [])
test_of kind Terms v = is_among (values_of kind v)
test_of kind Range v = range_of kind v
test_of kind Prefix v = begins_with (text_of (asked_value (codes "value") v))
test_of kind Match v = has_words (value_by_if kind (asked_value (codes "query") v)) (is_and_of v)
test_of kind MatchPhrase v = has_phrase (value_by_if kind (asked_value (codes "query") v))
test_of kind form v = exists

-- `terms` has its boost beside its field, the others under it
abbrev pub leaf_boost : Form → Members → JsonValue → ℕ
leaf_boost Terms ms v = boost_in ms
leaf_boost form ms v = boost_of v

abbrev pub field_leaf : Mapping → Option ℕ → Form → Members → Option (List ℕ × Form × JsonValue) → Clause
field_leaf m scope form ms None = leaf match_all 1
field_leaf m scope form ms (Some c) =
    leaf (on_field (field_in m scope c.0) (test_of (kind_of_field m (field_in m scope c.0)) form c.2)) (leaf_boost form ms c.2)

abbrev pub leaf_named : Mapping → Option ℕ → Form → Members → Clause
leaf_named m scope MatchAll ms = leaf match_all (boost_in ms)
leaf_named m scope MatchNone ms = leaf match_none 1
leaf_named m scope Ids ms = leaf (ids (texts_of (member_of ms (codes "values")))) (boost_in ms)
leaf_named m scope Exists ms = leaf (on_field (field_in m scope (text_under ms (codes "field"))) exists) (boost_in ms)
leaf_named m scope ParentId ms = leaf (parent_id (child_in m scope ms) (text_under ms (codes "id"))) (boost_in ms)
leaf_named m scope form ms = field_leaf m scope form ms (chosen form ms)

-- ---- clauses

abbrev pub least_of : Option ℕ → ℕ
least_of None = 1
least_of (Some n) = n

-- a clause of a form, of the query and the queries that stand under its names, each in a scope
unfoldable pub clause_by : Mapping → Option ℕ → Form → Members → (Option ℕ → List ℕ → Clause) → (Option ℕ → List ℕ → List Clause) → Clause
clause_by m scope BoolQuery ms query queries =
    bool_clause (clauses_of (queries scope (codes "must"))) (clauses_of (queries scope (codes "filter")))
    (clauses_of (queries scope (codes "should"))) (clauses_of (queries scope (codes "must_not")))
    (natural_under ms (codes "minimum_should_match"))
clause_by m scope ConstantScore ms query queries = constant_score (query scope (codes "filter")) (boost_in ms)
clause_by m scope DisMax ms query queries = dis_max (clauses_of (queries scope (codes "queries")))
clause_by m scope Nested ms query queries =
    nested (scope_inside m scope Nested ms) (query (scope_inside m scope Nested ms) (codes "query")) (mode_in Avg ms)
clause_by m scope ToChild ms query queries =
    to_child (scope_inside m scope ToChild ms) (query (scope_inside m scope ToChild ms) (codes "query"))
clause_by m scope HasChild ms query queries =
    has_child (child_in m scope ms) (query (scope_inside m scope HasChild ms) (codes "query")) (mode_in Zero ms)
    (least_of (natural_under ms (codes "min_children"))) (natural_under ms (codes "max_children"))
clause_by m scope HasParent ms query queries =
    has_parent (parent_in m scope ms) (query (scope_inside m scope HasParent ms) (codes "query"))
    (flag_under ms (codes "score")) (boost_in ms)
clause_by m scope form ms query queries = leaf_named m scope form ms

-- the form of what stands under a query's name
unfoldable pub form_named : List ℕ → Form
form_named name = form_at Query name

abbrev mutual
  -- a query, which is an object with one name
  pub clause_at : Mapping → Option ℕ → JsonValue → Clause
  clause_at m scope (object ms) = clause_among m scope ms
  clause_at m scope v = leaf match_all 1

  pub clause_among : Mapping → Option ℕ → Members → Clause
  clause_among m scope no_members = leaf match_all 1
  clause_among m scope (member k d ms) = clause_named m scope (form_named k) d

  -- what stands under its name
  pub clause_named : Mapping → Option ℕ → Form → JsonValue → Clause
  clause_named m scope form (object ms) =
      clause_by m scope form ms (λ inside name. clause_under m inside name ms) (λ inside name. clauses_under m inside name ms)
  clause_named m scope form v = leaf match_all 1

  -- the query under a name; one that is left out is `match_all`
  pub clause_under : Mapping → Option ℕ → List ℕ → Members → Clause
  clause_under m scope name no_members = leaf match_all 1
  clause_under m scope name (member k d ms) = if bytes_eq k name then clause_at m scope d else clause_under m scope name ms

  -- the queries under a name, a list or one alone
  pub clauses_under : Mapping → Option ℕ → List ℕ → Members → List Clause
  clauses_under m scope name no_members = []
  clauses_under m scope name (member k d ms) = if bytes_eq k name then clauses_at m scope d else clauses_under m scope name ms

  pub clauses_at : Mapping → Option ℕ → JsonValue → List Clause
  clauses_at m scope (list ds) = clauses_in m scope ds
  clauses_at m scope (object ms) = clause_among m scope ms ∷ []
  clauses_at m scope v = leaf match_all 1 ∷ []

  pub clauses_in : Mapping → Option ℕ → Elements → List Clause
  clauses_in m scope no_elements = []
  clauses_in m scope (element d ds) = clause_at m scope d ∷ clauses_in m scope ds
