-- What the names in a search body mean under a mapping: nested paths, fields with their kinds, relations.
use Rattle.std.specs.Prelude.{ℕ, Bool, false, if◌then◌else◌, List, [], ◌∷◌, codes, Option, Some, None, is_some, option_map, option_and_then}
use Rattle.std.specs.Option.{option_or}
use Rattle.tree_json.specs.Value.{JsonValue, bool, text, object, Members, member_of}
use Rattle.mapping_body.specs.declared.kind.Kind.{Kind}
use Rattle.mapping.specs.Mapping.{Mapping, field_named, kind_at, scope_named, relation_named, relation_at, is_parent}
use Rattle.search_form.specs.declared.form.Form.{Form}
use Rattle.search_form.specs.declared.form.Form.TheVariants.{Nested, ToChild, HasChild, HasParent, SortNested, Bucket, NestedBucket, ReverseNestedBucket, JoinBucket}
use Rattle.search_form.specs.Form.{chosen}

-- the text that stands under a name, and the empty one where none does
abbrev pub text_of : Option JsonValue → List ℕ
text_of (Some (text s)) = s
text_of v = []

abbrev pub text_under : Members → List ℕ → List ℕ
text_under ms name = text_of (member_of ms name)

-- whether true stands under a name
abbrev pub flag_of : Option JsonValue → Bool
flag_of (Some (bool b)) = b
flag_of v = false

abbrev pub flag_under : Members → List ℕ → Bool
flag_under ms name = flag_of (member_of ms name)

-- The number of a nested path. The empty path is the root's, which is no nested one.
abbrev pub nested_scope : Mapping → List ℕ → Option ℕ
nested_scope m [] = None
nested_scope m (byte ∷ path) = scope_named m (byte ∷ path)

-- the kind of the field at a path, and None where the path is unmapped
abbrev pub kind_named : Mapping → List ℕ → Option Kind
kind_named m path = option_map (kind_at m) (field_named m path)

-- the number of a relation that has a parent, and of one that is a parent
abbrev pub child_if : Mapping → ℕ → Option ℕ
child_if m relation = if is_some (relation_at m relation).parent then Some relation else None

abbrev pub child_named : Mapping → List ℕ → Option ℕ
child_named m name = option_and_then (child_if m) (relation_named m name)

abbrev pub parent_if : Mapping → ℕ → Option ℕ
parent_if m relation = if is_parent m relation then Some relation else None

abbrev pub parent_named : Mapping → List ℕ → Option ℕ
parent_named m name = option_and_then (parent_if m) (relation_named m name)

-- the nested path, the child relation and the parent relation that an object names, and the buckets that it has
abbrev pub nested_under : Mapping → Members → Option ℕ
nested_under m ms = nested_scope m (text_under ms (codes "path"))

abbrev pub child_under : Mapping → Members → Option ℕ
child_under m ms = child_named m (text_under ms (codes "type"))

abbrev pub parent_under : Mapping → Members → Option ℕ
parent_under m ms = parent_named m (text_under ms (codes "parent_type"))

abbrev pub buckets_in : Members → Option JsonValue
buckets_in ms = option_or (member_of ms (codes "aggs")) (member_of ms (codes "aggregations"))

-- ---- the scope in which the parts of an object stand

-- of trees, which are roots
abbrev pub root_if : Option ℕ → Option ℕ
root_if None = None
root_if (Some relation) = Some 0

-- the scope to which `reverse_nested` goes up: its path's, or the root
abbrev pub path_or_root : Mapping → Option JsonValue → Option ℕ
path_or_root m None = Some 0
path_or_root m (Some v) = nested_scope m (text_of (Some v))

abbrev pub bucket_scope_in : Mapping → ℕ → Form → JsonValue → Option ℕ
bucket_scope_in m scope NestedBucket (object ms) = nested_under m ms
bucket_scope_in m scope ReverseNestedBucket (object ms) = path_or_root m (member_of ms (codes "path"))
bucket_scope_in m scope JoinBucket v = Some 0
bucket_scope_in m scope form v = Some scope

abbrev pub bucket_scope : Mapping → ℕ → Option (List ℕ × Form × JsonValue) → Option ℕ
bucket_scope m scope None = Some scope
bucket_scope m scope (Some c) = bucket_scope_in m scope c.1 c.2

-- The scope in which the parts of an object stand: that of the objects at which they are judged. None is that of a
-- clause that is ignored, since its path or relation is unknown.
abbrev pub scope_in : Mapping → ℕ → Form → Members → Option ℕ
scope_in m scope Nested ms = nested_under m ms
scope_in m scope ToChild ms = scope_named m (text_under ms (codes "path"))
scope_in m scope HasChild ms = root_if (child_under m ms)
scope_in m scope HasParent ms = root_if (parent_under m ms)
scope_in m scope SortNested ms = nested_under m ms
scope_in m scope Bucket ms = bucket_scope m scope (chosen Bucket ms)
scope_in m scope form ms = Some scope

-- nothing is looked up inside an ignored clause
abbrev pub scope_inside : Mapping → Option ℕ → Form → Members → Option ℕ
scope_inside m None form ms = None
scope_inside m (Some scope) form ms = scope_in m scope form ms
