-- What a leaf hits: it looks at one object, and on a field at the values that the object shows (Elasticsearch reference,
-- term-level queries and full text queries).
use Rattle.std.specs.Prelude.{ℕ, Bool, true, false, ◌&&◌, ◌||◌, ◌==◌, List, [], ◌∷◌, map, length, Option, Some, None, is_some, if◌then◌else◌}
use Rattle.std.specs.List.{list_any, list_all, flat_map, range_with_len, starts_with}
use Rattle.std.specs.Ordering.{is_le, is_lt}
use Rattle.std.specs.Str.{bytes_eq}
use Rattle.analysis.specs.Words.{words}
use Rattle.tree_objects.specs.declared.field_value.FieldValue.{FieldValue}
use Rattle.tree_objects.specs.declared.field_value.FieldValue.TheVariants.{Number, Written}
use Rattle.mapping_body.specs.declared.kind.Kind.{Kind}
use Rattle.mapping_body.specs.declared.kind.Kind.TheVariants.{Text, Keyword, Long, Boolean, Date, Object as Plain, Nested, Join}
use Rattle.mapping_body.specs.Names.{lies_above}
use Rattle.mapping.specs.Mapping.{Mapping, field_at, home_of, kind_at}
use Rattle.tree_objects.specs.Object.{Object, tree_of}
use Rattle.tree_objects.specs.Values.{values, join_of}
use Rattle.query_ast.specs.Clause.{Test, is_among, is_between, exists, begins_with, has_words, has_phrase, Leaf, match_all, match_none, ids, on_field, parent_id}
use Rattle.query_ast.specs.Compare.{value_cmp, is_same_value}
use Rattle.query_ast.specs.Joined.{is_root, has_relation, names_parent}
use Rattle.query_ast.specs.declared.query.RangeEnd.{RangeEnd}
use Rattle.query_ast.specs.declared.query.RangeEnd.TheVariants.{Free, Closed, Past}

-- ---- values

abbrev pub is_one_of : List FieldValue → FieldValue → Bool
is_one_of given v = list_any (is_same_value v) given

abbrev pub is_above_low : RangeEnd → FieldValue → Bool
is_above_low Free v = true
is_above_low (Closed low) v = is_le (value_cmp low v)
is_above_low (Past low) v = is_lt (value_cmp low v)

abbrev pub is_below_high : RangeEnd → FieldValue → Bool
is_below_high Free v = true
is_below_high (Closed high) v = is_le (value_cmp v high)
is_below_high (Past high) v = is_lt (value_cmp v high)

abbrev pub lies_between : RangeEnd → RangeEnd → FieldValue → Bool
lies_between low high v = is_above_low low v && is_below_high high v

-- a number begins with nothing
abbrev pub begins : List ℕ → FieldValue → Bool
begins start (Number z) = false
begins start (Written s) = starts_with (λ a b. a == b) s start

abbrev pub is_any : {A : Type 0} → List A → Bool
is_any [] = false
is_any (x ∷ xs) = true

-- ---- words

abbrev pub is_text : Kind → Bool
is_text Text = true
is_text Keyword = false
is_text Long = false
is_text Boolean = false
is_text Date = false
is_text Plain = false
is_text Nested = false
is_text Join = false

-- the words of a text in order; a number has none
abbrev pub words_in : FieldValue → List (List ℕ)
words_in (Number z) = []
words_in (Written s) = words s

-- what stands in the index for a value: for a text its words, for all else the value as a whole
abbrev pub terms_of : Bool → FieldValue → List FieldValue
terms_of true v = map (λ word. Written word) (words_in v)
terms_of false v = v ∷ []

abbrev pub terms : Mapping → ℕ → Object → List FieldValue
terms m f o = flat_map (terms_of (is_text (kind_at m f))) (values m f o)

abbrev pub is_shown : List (List ℕ) → List ℕ → Bool
is_shown shown word = list_any (bytes_eq word) shown

-- `match`: some word asked for is shown, or all are; with no word asked for, neither
abbrev pub words_are_shown : Bool → List (List ℕ) → List (List ℕ) → Bool
words_are_shown true asked shown = is_any asked && list_all (is_shown shown) asked
words_are_shown false asked shown = list_any (is_shown shown) asked

-- the words stand side by side somewhere in the list
abbrev pub has_run : List (List ℕ) → List (List ℕ) → Bool
has_run run [] = false
has_run run (word ∷ rest) = starts_with bytes_eq (word ∷ rest) run || has_run run rest

-- `match_phrase`: the words asked for, of which there is one, are neighbours in this one value
abbrev pub has_phrase_in : List (List ℕ) → FieldValue → Bool
has_phrase_in asked v = is_any asked && has_run asked (words_in v)

-- ---- fields

-- a field below a plain object, with the same home, shows a value
abbrev pub shows_inside : Mapping → ℕ → Object → ℕ → Bool
shows_inside m f o g =
    lies_above (field_at m f).path (field_at m g).path && (home_of m g == home_of m f && is_any (values m g o))

-- `exists`: a text without words is a value too. A nested path never has one, and the join field has one at the root alone.
abbrev pub field_exists : Mapping → ℕ → Kind → Object → Bool
field_exists m f Text o = is_any (values m f o)
field_exists m f Keyword o = is_any (values m f o)
field_exists m f Long o = is_any (values m f o)
field_exists m f Boolean o = is_any (values m f o)
field_exists m f Date o = is_any (values m f o)
field_exists m f Plain o = list_any (shows_inside m f o) (range_with_len 0 (length m.fields))
field_exists m f Nested o = false
field_exists m f Join o = is_root o && is_some (join_of m (tree_of o))

-- on kinds other than text, `match` and `match_phrase` are `term`
abbrev pub test_holds : Mapping → ℕ → Test → Object → Bool
test_holds m f (is_among given) o = list_any (is_one_of given) (terms m f o)
test_holds m f (is_between low high) o = list_any (lies_between low high) (values m f o)
test_holds m f exists o = field_exists m f (kind_at m f) o
test_holds m f (begins_with start) o = list_any (begins start) (terms m f o)
test_holds m f (has_words value all) o =
    if is_text (kind_at m f)
    then words_are_shown all (words_in value) (flat_map words_in (values m f o))
    else list_any (is_same_value value) (values m f o)
test_holds m f (has_phrase value) o =
    if is_text (kind_at m f)
    then list_any (has_phrase_in (words_in value)) (values m f o)
    else list_any (is_same_value value) (values m f o)

-- an unmapped field shows no value
abbrev pub on_holds : Mapping → Option ℕ → Test → Object → Bool
on_holds m None test o = false
on_holds m (Some f) test o = test_holds m f test o

-- a root of that child relation, whose parent has this id
abbrev pub is_child_of_id : Mapping → Option ℕ → List ℕ → Object → Bool
is_child_of_id m None id o = false
is_child_of_id m (Some r) id o =
    is_root o && (has_relation (join_of m (tree_of o)) r && names_parent (join_of m (tree_of o)) id)

unfoldable pub leaf_holds : Mapping → Leaf → Object → Bool
leaf_holds m match_all o = true
leaf_holds m match_none o = false
leaf_holds m (ids listed) o = is_root o && list_any (bytes_eq (tree_of o).id) listed
leaf_holds m (on_field field test) o = on_holds m field test o
leaf_holds m (parent_id child id) o = is_child_of_id m child id o
