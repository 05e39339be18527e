-- The buckets that a body says.
use Rattle.std.specs.Prelude.{ℕ, Bool, true, false, if◌then◌else◌, List, [], ◌∷◌, codes, Option, Some, None}
use Rattle.std.specs.Str.{bytes_eq}
use Rattle.tree_json.specs.Value.{JsonValue, object, Members, no_members, member, member_of}
use Rattle.mapping.specs.Mapping.{Mapping}
use Rattle.query_ast.specs.Agg.{Agg}
use Rattle.query_ast.specs.Clause.{leaf, match_all}
use Rattle.query_ast.specs.Definition.{Definition, definition, definitions_of}
use Rattle.query_ast.specs.declared.agg.AggForm.{AggForm}
use Rattle.query_ast.specs.declared.agg.AggForm.TheVariants.{Filter, Nested, ReverseNested, Children, Parent, Terms, Min, Max, Sum, ValueCount}
use Rattle.search_form.specs.declared.form.Form.{Form}
use Rattle.search_form.specs.declared.form.Form.TheVariants.{Bucket, NestedBucket, ReverseNestedBucket, TermsBucket, BucketOrder, Metric, ValueCount as ValueCountForm, JoinBucket}
use Rattle.search_form.specs.Form.{chosen, has}
use Rattle.search_walk.specs.Names.{text_of, text_under, scope_inside}
use Rattle.query_parser.specs.Queries.{clause_at}
use Rattle.query_parser.specs.Readings.{number_under, field_in, child_in}

abbrev pub or_root : Option ℕ → ℕ
or_root None = 0
or_root (Some n) = n

-- ---- the order of a terms bucket: by count, the greatest first, unless it says otherwise

abbrev pub key_order_if : Option (List ℕ × Form × JsonValue) → Bool
key_order_if None = false
key_order_if (Some c) = bytes_eq c.0 (codes "_key")

abbrev pub descends_if : Option (List ℕ × Form × JsonValue) → Bool
descends_if None = true
descends_if (Some c) = bytes_eq (text_of (Some c.2)) (codes "desc")

abbrev pub order_choice : Option JsonValue → Option (List ℕ × Form × JsonValue)
order_choice (Some (object ms)) = chosen BucketOrder ms
order_choice v = None

abbrev pub field_under : Mapping → Option ℕ → Members → Option ℕ
field_under m scope ms = field_in m scope (text_under ms (codes "field"))

abbrev pub terms_form : Mapping → Option ℕ → Members → AggForm
terms_form m scope ms =
    Terms (field_under m scope ms) (number_under 10_000 10 ms (codes "size"))
    (key_order_if (order_choice (member_of ms (codes "order")))) (descends_if (order_choice (member_of ms (codes "order"))))

abbrev pub metric_form : List ℕ → Option ℕ → AggForm
metric_form name field =
    if bytes_eq name (codes "min") then Min field
    else (if bytes_eq name (codes "max") then Max field else Sum field)

abbrev pub join_form : List ℕ → ℕ → AggForm
join_form name relation = if bytes_eq name (codes "children") then Children relation else Parent relation

-- a bucket is in a scope, and gives objects of the scope inside it
abbrev pub object_form : Mapping → Option ℕ → Option ℕ → List ℕ → Form → Members → AggForm
object_form m scope inside name NestedBucket ms = Nested (or_root inside)
object_form m scope inside name ReverseNestedBucket ms = ReverseNested (or_root inside)
object_form m scope inside name TermsBucket ms = terms_form m scope ms
object_form m scope inside name Metric ms = metric_form name (field_under m scope ms)
object_form m scope inside name ValueCountForm ms = ValueCount (field_under m scope ms)
object_form m scope inside name JoinBucket ms = join_form name (or_root (child_in m scope ms))
object_form m scope inside name form ms = Filter (clause_at m scope (object ms))

abbrev pub form_in : Mapping → Option ℕ → Option ℕ → List ℕ → Form → JsonValue → AggForm
form_in m scope inside name form (object ms) = object_form m scope inside name form ms
form_in m scope inside name form v = Filter (leaf match_all 1)

abbrev pub form_of : Mapping → Option ℕ → Option ℕ → Option (List ℕ × Form × JsonValue) → AggForm
form_of m scope inside None = Filter (leaf match_all 1)
form_of m scope inside (Some c) = form_in m scope inside c.0 c.1 c.2

abbrev pub agg_of : Mapping → Option ℕ → List ℕ → Members → Agg
agg_of m scope name ms = record { name = name; form = form_of m scope (scope_inside m scope Bucket ms) (chosen Bucket ms) }

abbrev pub no_agg : List ℕ → Agg
no_agg name = record { name = name; form = Filter (leaf match_all 1) }

-- of the two names of buckets, the one that an object has
unfoldable pub buckets_name : Members → List ℕ
buckets_name ms = if has ms (codes "aggs") then codes "aggs" else codes "aggregations"

abbrev mutual
  pub buckets_at : Mapping → Option ℕ → JsonValue → List (Definition Agg)
  buckets_at m scope (object ms) = buckets_among m scope ms
  buckets_at m scope v = []

  pub buckets_among : Mapping → Option ℕ → Members → List (Definition Agg)
  buckets_among m scope no_members = []
  buckets_among m scope (member k d ms) = bucket_at m scope k d ∷ buckets_among m scope ms

  pub bucket_at : Mapping → Option ℕ → List ℕ → JsonValue → Definition Agg
  bucket_at m scope name (object ms) =
      definition (agg_of m scope name ms) (definitions_of (buckets_under m (scope_inside m scope Bucket ms) (buckets_name ms) ms))
  bucket_at m scope name v = definition (no_agg name) (definitions_of [])

  pub buckets_under : Mapping → Option ℕ → List ℕ → Members → List (Definition Agg)
  buckets_under m scope name no_members = []
  buckets_under m scope name (member k d ms) = if bytes_eq k name then buckets_at m scope d else buckets_under m scope name ms

abbrev pub buckets_inside : Mapping → Option ℕ → Members → List (Definition Agg)
buckets_inside m scope ms = buckets_under m scope (buckets_name ms) ms
