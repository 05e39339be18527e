-- Buckets (Elasticsearch reference, aggregations): counts and numbers over a list of different objects of one scope.
use Rattle.std.specs.Prelude.{ℕ, ◌==◌, ℤ, pos, Bool, true, false, ◌&&◌, List, [], ◌∷◌, map, reverse, length, filter, take, drop, sum_by, nat_lt, Option, Some, None, option_map}
use Rattle.std.specs.Int.{saturate_signed, w64}
use Rattle.std.specs.List.{flat_map, list_any}
use Rattle.tree_objects.specs.declared.field_value.FieldValue.{FieldValue}
use Rattle.mapping.specs.Mapping.{Mapping}
use Rattle.tree_objects.specs.Object.{Object, root, inside, tree_of, around, below}
use Rattle.tree_objects.specs.Tree.{Tree}
use Rattle.tree_objects.specs.Values.{values}
use Rattle.query_ast.specs.Agg.{Agg}
use Rattle.query_ast.specs.Compare.{is_less, is_same_value, in_order, each_once}
use Rattle.query_ast.specs.Definition.{Definition, definition, Definitions, no_definitions, with_definition}
use Rattle.query_ast.specs.Hit.{those_hit}
use Rattle.query_ast.specs.Joined.{roots, is_child_by}
use Rattle.query_ast.specs.Replies.{ReplyValue, single, several, metric, ReplyPart, BucketPart, replies_of, buckets_of}
use Rattle.query_ast.specs.SortKey.{least_value, greatest_value, number_in, total}
use Rattle.query_ast.specs.declared.agg.AggForm.{AggForm}
use Rattle.query_ast.specs.declared.agg.AggForm.TheVariants.{Filter, Nested, ReverseNested, Children, Parent, Terms, Min, Max, Sum, ValueCount}

-- ---- from objects to objects

-- one object: at the same place of the same tree, of which the sequence number tells
abbrev pub is_same_object : Object → Object → Bool
is_same_object (root a) (root b) = a.number == b.number
is_same_object (root a) (inside outer n offset value) = false
is_same_object (inside outer n offset value) (root b) = false
is_same_object (inside a n i value) (inside b k j other) = is_same_object a b && (n == k && i == j)

abbrev pub below_at : Mapping → ℕ → Object → List Object
below_at m p o = below m o p

abbrev pub around_at : ℕ → Object → Object
around_at p o = around o p

-- a tree of one of the objects is its parent
abbrev pub has_parent_in : Mapping → ℕ → List Object → Tree → Bool
has_parent_in m r objects child = list_any (λ o. is_child_by m r (tree_of o) child) objects

-- a tree of one of the objects is its child
abbrev pub has_child_in : Mapping → ℕ → List Object → Tree → Bool
has_child_in m r objects parent = list_any (λ o. is_child_by m r parent (tree_of o)) objects

-- ---- groups: the objects that show a value. One that shows it twice counts once.

pub record Group : Type 0 where
  pub key : FieldValue
  pub objects : List Object

-- an unmapped field shows nothing
abbrev pub shown_by : Mapping → Option ℕ → Object → List FieldValue
shown_by m None o = []
shown_by m (Some f) o = values m f o

-- the values of all the objects, repeats included
abbrev pub all_shown : Mapping → Option ℕ → List Object → List FieldValue
all_shown m field objects = flat_map (shown_by m field) objects

abbrev pub has_value : Mapping → Option ℕ → FieldValue → Object → Bool
has_value m field v o = list_any (is_same_value v) (shown_by m field o)

abbrev pub group_of : Mapping → Option ℕ → List Object → FieldValue → Group
group_of m field objects v = record { key = v; objects = filter (has_value m field v) objects }

-- a group for each value, by ascending value
abbrev pub groups_of : Mapping → Option ℕ → List Object → List Group
groups_of m field objects = map (group_of m field objects) (in_order is_less (each_once is_same_value (all_shown m field objects)))

abbrev pub count_of : Group → ℕ
count_of g = length g.objects

abbrev pub comes_first : Bool → Group → Group → Bool
comes_first true a b = nat_lt (count_of b) (count_of a)
comes_first false a b = nat_lt (count_of a) (count_of b)

-- by key, or by count and then by ascending key
abbrev pub ordered : Bool → Bool → List Group → List Group
ordered true true groups = reverse groups
ordered true false groups = groups
ordered false descending groups = in_order (comes_first descending) groups

-- ---- answers. `within` gives the answers of the definitions inside, over a bucket's objects.

abbrev pub single_of : (List Object → List ReplyPart) → List Object → ReplyValue
single_of within objects = single (length objects) (replies_of (within objects))

abbrev pub bucket_of : (List Object → List ReplyPart) → Group → BucketPart
bucket_of within g = record { key = g.key; count = count_of g; inner = replies_of (within g.objects) }

abbrev pub several_of : (List Object → List ReplyPart) → ℕ → List Group → ReplyValue
several_of within size groups = several (buckets_of (map (bucket_of within) (take size groups))) (sum_by count_of (drop size groups))

-- metrics are of fields with numbers, but for the count
abbrev pub number_if : Option FieldValue → Option ℤ
number_if v = option_map number_in v

abbrev pub value_over : Mapping → List Tree → AggForm → (List Object → List ReplyPart) → List Object → ReplyValue
value_over m live (Filter query) within objects = single_of within (those_hit m live query objects)
value_over m live (Nested p) within objects = single_of within (flat_map (below_at m p) objects)
value_over m live (ReverseNested p) within objects = single_of within (each_once is_same_object (map (around_at p) objects))
value_over m live (Children r) within objects = single_of within (roots (filter (has_parent_in m r objects) live))
value_over m live (Parent r) within objects = single_of within (roots (filter (has_child_in m r objects) live))
value_over m live (Terms field size by_key descending) within objects =
    several_of within size (ordered by_key descending (groups_of m field objects))
value_over m live (Min field) within objects = metric (number_if (least_value (all_shown m field objects)))
value_over m live (Max field) within objects = metric (number_if (greatest_value (all_shown m field objects)))
value_over m live (Sum field) within objects = metric (Some (saturate_signed w64 (total (all_shown m field objects))))
value_over m live (ValueCount field) within objects = metric (Some (pos (length (all_shown m field objects))))

abbrev mutual
  pub bucket_reply : Mapping → List Tree → Definition Agg → List Object → ReplyPart
  bucket_reply m live (definition agg inner) objects =
      record { name = agg.name; value = value_over m live agg.form (bucket_replies m live inner) objects }

  -- one answer for each definition, in their order
  pub bucket_replies : Mapping → List Tree → Definitions Agg → List Object → List ReplyPart
  bucket_replies m live no_definitions objects = []
  bucket_replies m live (with_definition d ds) objects = bucket_reply m live d objects ∷ bucket_replies m live ds objects
