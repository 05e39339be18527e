-- What single values of a search body say: numbers, words, and values under a field's kind.
use Rattle.std.specs.Prelude.{ℕ, pos, Bool, true, if◌then◌else◌, nat_le, List, [], ◌∷◌, codes, Option, Some, None, option_map}
use Rattle.std.specs.Str.{bytes_eq}
use Rattle.score_math.specs.declared.score.ScoreMode.{ScoreMode}
use Rattle.score_math.specs.declared.score.ScoreMode.TheVariants.{Avg, Max, Min, Sum, Zero}
use Rattle.tree_json.specs.Value.{JsonValue, bool, whole, list, object, Elements, no_elements, element, Members, member_of}
use Rattle.mapping_body.specs.declared.kind.Kind.{Kind}
use Rattle.mapping.specs.Mapping.{Mapping, field_named, kind_at}
use Rattle.tree_objects.specs.declared.field_value.FieldValue.{FieldValue}
use Rattle.tree_objects.specs.declared.field_value.FieldValue.TheVariants.{Number}
use Rattle.tree_objects.specs.Values.{convert}
use Rattle.search_walk.specs.Names.{text_of, text_under, child_under, parent_under}

-- ---- numbers and words

-- a whole number from 0 on
abbrev pub natural_of : Option JsonValue → Option ℕ
natural_of (Some (whole (pos n))) = Some n
natural_of v = None

abbrev pub natural_under : Members → List ℕ → Option ℕ
natural_under ms name = natural_of (member_of ms name)

abbrev pub up_to : ℕ → ℕ → Option ℕ → ℕ
up_to most default None = default
up_to most default (Some n) = if nat_le n most then n else default

-- a number up to the most that there is, and the default where none stands there
abbrev pub number_under : ℕ → ℕ → Members → List ℕ → ℕ
number_under most default ms name = up_to most default (natural_under ms name)

abbrev pub boost_in : Members → ℕ
boost_in ms = number_under 10_000 1 ms (codes "boost")

-- the boost of what stands under a field, where that is an object
abbrev pub boost_of : JsonValue → ℕ
boost_of (object ms) = boost_in ms
boost_of v = 1

abbrev pub mode_named : ScoreMode → List ℕ → ScoreMode
mode_named default word =
    if bytes_eq word (codes "avg") then Avg
    else (if bytes_eq word (codes "max") then Max
    else (if bytes_eq word (codes "min") then Min
    else (if bytes_eq word (codes "none") then Zero
    else (if bytes_eq word (codes "sum") then Sum
    else default))))

abbrev pub mode_in : ScoreMode → Members → ScoreMode
mode_in default ms = mode_named default (text_under ms (codes "score_mode"))

-- true, unless false stands there
abbrev pub unless_false : Option JsonValue → Bool
unless_false (Some (bool b)) = b
unless_false v = true

-- ---- fields and relations; nothing is looked up inside an ignored clause

abbrev pub field_in : Mapping → Option ℕ → List ℕ → Option ℕ
field_in m None path = None
field_in m (Some scope) path = field_named m path

abbrev pub kind_of_field : Mapping → Option ℕ → Option Kind
kind_of_field m field = option_map (kind_at m) field

abbrev pub child_in : Mapping → Option ℕ → Members → Option ℕ
child_in m None ms = None
child_in m (Some scope) ms = child_under m ms

abbrev pub parent_in : Mapping → Option ℕ → Members → Option ℕ
parent_in m None ms = None
parent_in m (Some scope) ms = parent_under m ms

-- ---- values

-- A value under a field's kind. Of an unmapped field, and of a value that isn't of the kind, none is asked: it is 0.
abbrev pub value_if : Option FieldValue → FieldValue
value_if None = Number (pos 0)
value_if (Some v) = v

abbrev pub value_by : Option Kind → JsonValue → FieldValue
value_by None v = Number (pos 0)
value_by (Some kind) v = value_if (convert kind v)

abbrev pub value_by_if : Option Kind → Option JsonValue → FieldValue
value_by_if kind None = Number (pos 0)
value_by_if kind (Some v) = value_by kind v

abbrev pub values_by : Option Kind → Elements → List FieldValue
values_by kind no_elements = []
values_by kind (element d ds) = value_by kind d ∷ values_by kind ds

abbrev pub values_of : Option Kind → JsonValue → List FieldValue
values_of kind (list ds) = values_by kind ds
values_of kind v = []

abbrev pub texts_in : Elements → List (List ℕ)
texts_in no_elements = []
texts_in (element d ds) = text_of (Some d) ∷ texts_in ds

abbrev pub texts_of : Option JsonValue → List (List ℕ)
texts_of (Some (list ds)) = texts_in ds
texts_of v = []
