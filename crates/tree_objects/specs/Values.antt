-- The values that an object shows.
use Rattle.std.specs.Prelude.{ℕ, ◌==◌, ℤ, pos, neg_ℤ, Bool, true, false, ◌&&◌, ◌||◌, if◌then◌else◌, nat_le, nat_lt, List, [], ◌∷◌, length, codes, Option, Some, None, is_none, option_map, option_and_then, find}
use Rattle.std.specs.Fmt.{signed_decimal}
use Rattle.std.specs.Char.{is_ascii_digit}
use Rattle.std.specs.List.{flat_map, filter_map, list_all}
use Rattle.std.specs.Str.{bytes_eq}
use Rattle.std.specs.Str.Parse.{digits_value}
use Rattle.date_fields.specs.Moment.{moment}
use Rattle.tree_json.specs.Value.{JsonValue, null, bool, whole, text, object, Members, no_members, member, member_of}
use Rattle.mapping_body.specs.declared.kind.Kind.{Kind}
use Rattle.mapping_body.specs.declared.kind.Kind.TheVariants.{Text, Keyword, Long, Boolean, Date, Object as Plain, Nested, Join}
use Rattle.tree_objects.specs.declared.field_value.FieldValue.{FieldValue}
use Rattle.tree_objects.specs.declared.field_value.FieldValue.TheVariants.{Number, Written}
use Rattle.mapping_body.specs.Body.{is_join}
use Rattle.mapping.specs.Mapping.{Mapping, Field, kind_at, home_of, names_to, knows, shows, relation_known, relation_at}
use Rattle.tree_objects.specs.Object.{Object, scope, content, tree_of, below, items}
use Rattle.tree_objects.specs.Tree.{Tree}

-- ---- one value by its kind

abbrev pub bool_name : Bool → List ℕ
bool_name b = if b then codes "true" else codes "false"

abbrev pub bool_number : Bool → ℤ
bool_number b = if b then pos 1 else pos 0

-- one decimal digit or more
abbrev pub is_numeral : List ℕ → Bool
is_numeral digits = nat_lt 0 (length digits) && list_all is_ascii_digit digits

abbrev pub below_limit : ℕ → ℕ → Option ℕ
below_limit limit n = if nat_lt n limit then Some n else None

-- the number that decimal digits write, if it is below a limit
abbrev pub numeral_below : ℕ → List ℕ → Option ℕ
numeral_below limit digits = if is_numeral digits then below_limit limit (digits_value 10 digits) else None

-- the whole number that a text writes by an optional `-` and decimal digits, if it has 64 bits with its sign
abbrev pub whole_written : List ℕ → Option ℤ
whole_written [] = None
whole_written (byte ∷ digits) =
    if byte == 45 then option_map (λ n. neg_ℤ (pos n)) (numeral_below 9_223_372_036_854_775_809 digits)
    else option_map (λ n. pos n) (numeral_below 9_223_372_036_854_775_808 (byte ∷ digits))

abbrev pub bool_written : List ℕ → Option Bool
bool_written s =
    if bytes_eq s (codes "true") then Some true
    else (if bytes_eq s (codes "false") then Some false
    else (if bytes_eq s [] then Some false else None))

abbrev pub text_of : JsonValue → Option FieldValue
text_of (text s) = Some (Written s)
text_of (whole z) = Some (Written (signed_decimal z))
text_of (bool b) = Some (Written (bool_name b))
text_of v = None

abbrev pub long_of : JsonValue → Option FieldValue
long_of (whole z) = Some (Number z)
long_of (text s) = option_map (λ z. Number z) (whole_written s)
long_of v = None

abbrev pub boolean_of : JsonValue → Option FieldValue
boolean_of (bool b) = Some (Number (bool_number b))
boolean_of (text s) = option_map (λ b. Number (bool_number b)) (bool_written s)
boolean_of v = None

abbrev pub date_of : JsonValue → Option FieldValue
date_of (whole z) = Some (Number z)
date_of (text s) = option_map (λ z. Number z) (moment s)
date_of v = None

-- The value that a single JSON value is for a field of a kind, if it is one of that kind (Elasticsearch reference, field
-- data types). Plain objects, nested fields and joins have no values.
unfoldable pub convert : Kind → JsonValue → Option FieldValue
convert Text v = text_of v
convert Keyword v = text_of v
convert Long v = long_of v
convert Boolean v = boolean_of v
convert Date v = date_of v
convert Plain v = None
convert Nested v = None
convert Join v = None

-- the kinds that have values
abbrev pub has_values : Kind → Bool
has_values Plain = false
has_values Nested = false
has_values Join = false
has_values kind = true

-- the bytes that a value is written by; a number has none
abbrev pub written_bytes : FieldValue → ℕ
written_bytes (Number z) = 0
written_bytes (Written s) = length s

-- ---- the values of a field at an object

-- at an object that stands at the field's home: what is found along the names of the field, converted
abbrev pub own_values : Mapping → ℕ → Object → List FieldValue
own_values m f o =
    if knows m (tree_of o).generation f
    then filter_map (convert (kind_at m f)) (items (content o) (names_to m f))
    else []

-- At another object that shows the field: the values of the objects at its home below this one, in document order.
-- Nowhere else are there any.
abbrev pub values : Mapping → ℕ → Object → List FieldValue
values m f o =
    if home_of m f == scope o then own_values m f o
    else (if shows m (tree_of o).generation f (scope o) then flat_map (own_values m f) (below m o (home_of m f)) else [])

-- ---- the relation of a tree

-- a tree's relation: its number, and for a child the id of its parent
pub record Joined : Type 0 where
  pub relation : ℕ
  pub parent : Option (List ℕ)

-- what a join field holds: no relation, one, or what is none
pub data JoinReading : Type 0 where
  no_join : JoinReading
  joined_as : Joined → JoinReading
  bad_join : JoinReading

-- an id has 1 to 512 bytes
abbrev pub checked_id : List ℕ → Option (List ℕ)
checked_id id = if nat_lt 0 (length id) && nat_le (length id) 512 then Some id else None

abbrev pub id_written : JsonValue → Option (List ℕ)
id_written (text id) = checked_id id
id_written (whole z) = checked_id (signed_decimal z)
id_written v = None

-- a root relation, which has no parent
abbrev pub joined_as_root : Mapping → Option ℕ → JoinReading
joined_as_root m None = bad_join
joined_as_root m (Some r) =
    if is_none (relation_at m r).parent then joined_as (record { relation = r; parent = None }) else bad_join

abbrev pub joined_as_child : Mapping → Option ℕ → Option (List ℕ) → JoinReading
joined_as_child m None id = bad_join
joined_as_child m (Some r) None = bad_join
joined_as_child m (Some r) (Some id) =
    if is_none (relation_at m r).parent then bad_join else joined_as (record { relation = r; parent = Some id })

-- `name` and `parent` alone
abbrev pub has_join_names : Members → Bool
has_join_names no_members = true
has_join_names (member k d ms) = (bytes_eq k (codes "name") || bytes_eq k (codes "parent")) && has_join_names ms

abbrev pub join_by_parent : Mapping → ℕ → List ℕ → Option JsonValue → JoinReading
join_by_parent m g name None = joined_as_root m (relation_known m g name)
join_by_parent m g name (Some parent) = joined_as_child m (relation_known m g name) (id_written parent)

abbrev pub join_by_name : Mapping → ℕ → Option JsonValue → Option JsonValue → JoinReading
join_by_name m g (Some (text name)) parent = join_by_parent m g name parent
join_by_name m g name parent = bad_join

-- What a value of the join field says under the relations of a generation. A root relation is a text, or an object with
-- a `name`; a child relation is an object with a `name` and a `parent`. Null is none, and a list is bad (Elasticsearch
-- reference, join field type).
abbrev pub join_reading : Mapping → ℕ → JsonValue → JoinReading
join_reading m g null = no_join
join_reading m g (text name) = joined_as_root m (relation_known m g name)
join_reading m g (object ms) =
    if has_join_names ms
    then join_by_name m g (member_of ms (codes "name")) (member_of ms (codes "parent"))
    else bad_join
join_reading m g v = bad_join

-- the join field of a generation, if it has one
abbrev pub join_field : Mapping → ℕ → Option Field
join_field m g = find (λ f. is_join f.kind && nat_le f.since g) m.fields

abbrev pub relation_read : JoinReading → Option Joined
relation_read no_join = None
relation_read (joined_as j) = Some j
relation_read bad_join = None

abbrev pub member_of_source : JsonValue → List ℕ → Option JsonValue
member_of_source (object ms) name = member_of ms name
member_of_source v name = None

abbrev pub join_at : Mapping → ℕ → JsonValue → Option Field → Option Joined
join_at m g source None = None
join_at m g source (Some f) = option_and_then (λ v. relation_read (join_reading m g v)) (member_of_source source f.path)

-- the relation of a tree, by the join field and the relations of its mapping generation
unfoldable pub join_of : Mapping → Tree → Option Joined
join_of m tree = join_at m tree.generation tree.source (join_field m tree.generation)
