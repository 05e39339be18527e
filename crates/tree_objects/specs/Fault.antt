-- What is wrong with a source under a mapping: the first fault that a walk meets, names in byte order, lists in order,
-- depth first.
use Rattle.std.specs.Prelude.{ℕ, Bool, true, false, if◌then◌else◌, nat_lt, List, [], length, Option, Some, None, option_and_then}
use Rattle.std.specs.List.{list_any}
use Rattle.analysis.specs.Words.{words}
use Rattle.tree_json.specs.Value.{JsonValue, null, bool, whole, text, list, object, Elements, no_elements, element, Members, no_members, member}
use Rattle.mapping_body.specs.declared.kind.Kind.{Kind}
use Rattle.mapping_body.specs.declared.kind.Kind.TheVariants.{Text, Keyword, Object as Plain, Nested, Join}
use Rattle.tree_objects.specs.declared.field_value.FieldValue.{FieldValue}
use Rattle.tree_objects.specs.declared.field_value.FieldValue.TheVariants.{Written}
use Rattle.tree_objects.specs.declared.fault.Fault.{Fault}
use Rattle.tree_objects.specs.declared.fault.Fault.TheVariants.{WrongType, TermTooLong, BadJoin}
use Rattle.mapping_body.specs.Body.{is_join}
use Rattle.mapping_body.specs.Names.{joined}
use Rattle.mapping.specs.Mapping.{Mapping, kind_at, field_below}
use Rattle.tree_objects.specs.Values.{convert, JoinReading, no_join, joined_as, bad_join, join_reading}

-- a keyword's value and a text's token have at most 32,766 bytes
abbrev pub is_long_term : List ℕ → Bool
is_long_term term = nat_lt 32_766 (length term)

abbrev pub has_long_term : Kind → FieldValue → Bool
has_long_term Keyword (Written s) = is_long_term s
has_long_term Text (Written s) = list_any is_long_term (words s)
has_long_term kind v = false

abbrev pub fault_converted : ℕ → Kind → Option FieldValue → Option Fault
fault_converted f kind None = Some (WrongType f)
fault_converted f kind (Some v) = if has_long_term kind v then Some (TermTooLong f) else None

abbrev pub fault_joined : JoinReading → Option Fault
fault_joined no_join = None
fault_joined (joined_as j) = None
fault_joined bad_join = Some BadJoin

-- of a single value that is neither a list nor null
abbrev pub fault_single : Mapping → ℕ → ℕ → Kind → JsonValue → Option Fault
fault_single m g f Join v = fault_joined (join_reading m g v)
fault_single m g f kind v = fault_converted f kind (convert kind v)

abbrev pub first_of : Option Fault → Option Fault → Option Fault
first_of None later = later
first_of (Some fault) later = Some fault

-- a field whose values are objects
abbrev pub holds_objects : Kind → Bool
holds_objects Plain = true
holds_objects Nested = true
holds_objects kind = false

-- of an object as the value of a field
abbrev pub fault_of_object : Mapping → ℕ → ℕ → Kind → Members → Option Fault
fault_of_object m g f kind ms = if holds_objects kind then None else fault_single m g f kind (object ms)

-- Of a value at a field, whose path is given: a list stands for its elements, but for a join; null is no value; and what
-- stands in an object is walked. What has no field in the generation is no fault.
abbrev mutual
  pub fault_at : Mapping → ℕ → List ℕ → ℕ → Kind → JsonValue → Option Fault
  fault_at m g path f kind null = None
  fault_at m g path f kind (list ds) = if is_join kind then Some BadJoin else fault_in m g path f kind ds
  fault_at m g path f kind (object ms) = first_of (fault_of_object m g f kind ms) (fault_among m g path ms)
  fault_at m g path f kind (bool b) = fault_single m g f kind (bool b)
  fault_at m g path f kind (whole z) = fault_single m g f kind (whole z)
  fault_at m g path f kind (text s) = fault_single m g f kind (text s)

  pub fault_in : Mapping → ℕ → List ℕ → ℕ → Kind → Elements → Option Fault
  fault_in m g path f kind no_elements = None
  fault_in m g path f kind (element d ds) = first_of (fault_at m g path f kind d) (fault_in m g path f kind ds)

  pub fault_among : Mapping → ℕ → List ℕ → Members → Option Fault
  fault_among m g path no_members = None
  fault_among m g path (member k d ms) =
      first_of
      (option_and_then (λ f. fault_at m g (joined path k) f (kind_at m f) d) (field_below m g path k))
      (fault_among m g path ms)

abbrev pub fault_of_source : Mapping → ℕ → JsonValue → Option Fault
fault_of_source m g (object ms) = fault_among m g [] ms
fault_of_source m g v = None

-- the first fault of a source under a generation of a mapping
unfoldable pub first_fault : Mapping → ℕ → JsonValue → Option Fault
first_fault m g source = fault_of_source m g source
