-- The parts of a search body that are judged, in the order of the walk: query, sort, search_after, buckets; a clause before
-- its parts, its parts in byte order of their names, lists in order.
use Rattle.std.specs.Prelude.{ℕ, ◌+◌, Bool, true, false, if◌then◌else◌, nat_lt, List, [], ◌∷◌, ◌++◌, codes, Option, Some, None}
use Rattle.tree_json.specs.Value.{JsonValue, null, bool, whole, text, list, object, Elements, no_elements, element, Members, no_members, member, member_of}
use Rattle.mapping.specs.Mapping.{Mapping}
use Rattle.search_form.specs.declared.form.Form.{Form}
use Rattle.search_form.specs.declared.form.Form.TheVariants.{Query, Term, Terms, Range, Prefix, Match, MatchPhrase, Nested, ToChild, HasChild, HasParent, ParentId, SortClause, SortNested, InnerHits, Buckets, Bucket, Sort, SearchAfter}
use Rattle.search_form.specs.Table.{element_of, single_of}
use Rattle.search_form.specs.Form.{form_at}
use Rattle.search_walk.specs.Names.{scope_inside, buckets_in}

-- a part: the scope in which it stands, None inside a clause that is ignored; how deep it lies among queries, or among
-- buckets, from 1; its form, and its value
pub record Node : Type 0 where
  pub scope : Option ℕ
  pub level : ℕ
  pub form : Form
  pub value : JsonValue

-- the forms of parts that are judged by themselves, or counted
abbrev pub is_judged : Form → Bool
is_judged Query = true
is_judged Term = true
is_judged Terms = true
is_judged Range = true
is_judged Prefix = true
is_judged Match = true
is_judged MatchPhrase = true
is_judged Nested = true
is_judged ToChild = true
is_judged HasChild = true
is_judged HasParent = true
is_judged ParentId = true
is_judged SortClause = true
is_judged SearchAfter = true
is_judged SortNested = true
is_judged InnerHits = true
is_judged Bucket = true
is_judged form = false

abbrev pub node_here : Option ℕ → ℕ → Form → JsonValue → List Node
node_here scope level form v =
    if is_judged form then record { scope = scope; level = level; form = form; value = v } ∷ [] else []

-- one level more; what lies deeper than the deepest that is allowed isn't told apart
abbrev pub deeper : ℕ → ℕ
deeper level = if nat_lt level 31 then level + 1 else 31

-- The level of what stands under an object's name. A clause lies one below the clause that has it, and a bucket one below
-- its bucket; the filter of a bucket and of a sort begins anew.
abbrev pub level_under : Form → Form → ℕ → ℕ
level_under Query part level = deeper level
level_under Bucket Buckets level = deeper level
level_under Bucket Query level = 1
level_under SortNested Query level = 1
level_under form part level = level

abbrev mutual
  pub nodes_at : Mapping → Option ℕ → ℕ → Form → JsonValue → List Node
  nodes_at m scope level form null = node_here scope level (single_of form) null
  nodes_at m scope level form (bool b) = node_here scope level (single_of form) (bool b)
  nodes_at m scope level form (whole z) = node_here scope level (single_of form) (whole z)
  nodes_at m scope level form (text s) = node_here scope level (single_of form) (text s)
  nodes_at m scope level form (list ds) = nodes_in m scope level (element_of form) ds
  nodes_at m scope level form (object ms) =
      node_here scope level (single_of form) (object ms)
      ++ nodes_among m (scope_inside m scope (single_of form) ms) level (single_of form) ms

  pub nodes_in : Mapping → Option ℕ → ℕ → Form → Elements → List Node
  nodes_in m scope level form no_elements = []
  nodes_in m scope level form (element d ds) = nodes_at m scope level form d ++ nodes_in m scope level form ds

  pub nodes_among : Mapping → Option ℕ → ℕ → Form → Members → List Node
  nodes_among m scope level form no_members = []
  nodes_among m scope level form (member k d ms) =
      nodes_at m scope (level_under form (form_at form k) level) (form_at form k) d ++ nodes_among m scope level form ms

abbrev pub nodes_if : Mapping → Form → Option JsonValue → List Node
nodes_if m form None = []
nodes_if m form (Some v) = nodes_at m (Some 0) 1 form v

-- the parts under a name of the body, which stand at the root
abbrev pub nodes_under : Mapping → Form → List ℕ → Members → List Node
nodes_under m form name body = nodes_if m form (member_of body name)

-- the keys of `search_after` are judged together with the sort: the node has the body
abbrev pub after_nodes_if : Members → Option JsonValue → List Node
after_nodes_if body None = []
after_nodes_if body (Some keys) = node_here (Some 0) 1 SearchAfter (object body)

abbrev pub after_nodes : Members → List Node
after_nodes body = after_nodes_if body (member_of body (codes "search_after"))

abbrev pub hit_nodes : Mapping → Members → List Node
hit_nodes m body = nodes_under m Query (codes "query") body ++ (nodes_under m Sort (codes "sort") body ++ after_nodes body)

abbrev pub bucket_nodes : Mapping → Members → List Node
bucket_nodes m body = nodes_if m Buckets (buckets_in body)

unfoldable pub nodes_of : Mapping → Members → List Node
nodes_of m body = hit_nodes m body ++ bucket_nodes m body
