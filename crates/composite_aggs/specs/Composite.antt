-- Buckets for each key, a page of them, and a bucket for each day, month or year (Elasticsearch reference, composite
-- aggregation and date histogram aggregation). A key is a list of values: one for each source of a composite, and the start of
-- an interval alone for a date histogram. What shows keys is of any type `A`.
use Rattle.std.specs.Prelude.{ℕ, ◌*◌, ℤ, Bool, true, ◌&&◌, not, List, [], ◌∷◌, map, length, filter, take, Option, Some, None, option_map, if◌then◌else◌}
use Rattle.std.specs.List.{filter_map, flat_map, list_any, last_or}
use Rattle.std.specs.Ordering.{is_eq, is_lt}
use Rattle.std.specs.Cmp.Lexicographic.{slice_cmp}
use Rattle.std.specs.declared.cmp.Ordering.{Ordering}
use Rattle.tree_objects.specs.declared.field_value.FieldValue.{FieldValue}
use Rattle.tree_objects.specs.declared.field_value.FieldValue.TheVariants.{Number, Written}
use Rattle.calendar_intervals.specs.Starts.{starts, start_of}
use Rattle.calendar_intervals.specs.declared.interval.Interval.{Interval}
use Rattle.query_ast.specs.Compare.{value_cmp, in_order, each_once}

-- ---- keys

-- source after source, numbers by number and texts by bytes
abbrev pub key_order : List FieldValue → List FieldValue → Ordering
key_order = slice_cmp value_cmp

abbrev pub is_lower : List FieldValue → List FieldValue → Bool
is_lower a b = is_lt (key_order a b)

abbrev pub is_same_key : List FieldValue → List FieldValue → Bool
is_same_key a b = is_eq (key_order a b)

abbrev pub with_value : FieldValue → List FieldValue → List FieldValue
with_value v key = v ∷ key

-- the lists of one value for each source, of the values that each source shows
abbrev pub combinations : List (List FieldValue) → List (List FieldValue)
combinations [] = [] ∷ []
combinations (values ∷ more) = flat_map (λ v. map (with_value v) (combinations more)) values

-- how many of them there are: a number for each source, multiplied
abbrev pub combination_count : List (List FieldValue) → ℕ
combination_count [] = 1
combination_count (values ∷ more) = length values * combination_count more

-- ---- buckets

-- a key with those that show it
pub record Keyed (A : Type 0) : Type 0 where
  pub key : List FieldValue
  pub those : List A

module _ {A : Type 0} (keys : A → List (List FieldValue)) where
  abbrev pub shows_key : List FieldValue → A → Bool
  shows_key key a = list_any (is_same_key key) (keys a)

  abbrev pub keyed : List A → List FieldValue → Keyed A
  keyed those key = record { key = key; those = filter (shows_key key) those }

  -- the keys that some of them show, each once, in order
  unfoldable pub keys_shown : List A → List (List FieldValue)
  keys_shown those = in_order is_lower (each_once is_same_key (flat_map keys those))

  -- a bucket for each of these keys
  unfoldable pub full_list : List A → List (Keyed A)
  full_list those = map (keyed those) (keys_shown those)

module _ {A : Type 0} where
  -- strictly behind the key, where there is one
  abbrev pub is_behind : Option (List FieldValue) → Keyed A → Bool
  is_behind None bucket = true
  is_behind (Some after) bucket = is_lower after bucket.key

  -- the first `size` of the buckets that are behind the key
  abbrev pub page_behind : Option (List FieldValue) → ℕ → List (Keyed A) → List (Keyed A)
  page_behind after size buckets = take size (filter (is_behind after) buckets)

  -- the key of the last bucket, with which the next page goes on
  abbrev pub last_key : List (Keyed A) → Option (List FieldValue)
  last_key buckets = last_or None (map (λ b. b.key) buckets)

-- ---- intervals of the calendar

-- the key of the interval that begins there
abbrev pub start_key : ℤ → List FieldValue
start_key start = Number start ∷ []

-- the key of the interval that a date lies in; a text lies in none
abbrev pub interval_key : Interval → FieldValue → Option (List FieldValue)
interval_key interval (Number moment) = option_map start_key (start_of interval moment)
interval_key interval (Written text) = None

-- the keys that dates show
abbrev pub start_keys : Interval → List FieldValue → List (List FieldValue)
start_keys interval dates = filter_map (interval_key interval) dates

-- the start isn't before all of the keys, nor behind all of them
abbrev pub lies_between : List (List FieldValue) → ℤ → Bool
lies_between keys start =
    list_any (λ key. not (is_lower (start_key start) key)) keys
    && list_any (λ key. not (is_lower key (start_key start))) keys

-- the keys of all starts between the least and the greatest of some keys
unfoldable pub filled : Interval → List (List FieldValue) → List (List FieldValue)
filled interval keys = map start_key (filter (lies_between keys) (starts interval))

module _ {A : Type 0} (keys : A → List (List FieldValue)) where
  -- a bucket for each key that some of them show, and with `fill` for each start between the least and the greatest too
  unfoldable pub histogram_of : Interval → Bool → List A → List (Keyed A)
  histogram_of interval fill those =
      map (keyed keys those) (if fill then filled interval (keys_shown keys those) else keys_shown keys those)
