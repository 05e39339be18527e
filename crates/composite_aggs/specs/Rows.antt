-- What rows show, as the pages and histograms over them have it.
use Rattle.std.specs.Prelude.{◌≡◌, ⊤, ℕ, ◌<◌, Bool, true, List, map, length, nat_lt}
use Rattle.std.specs.List.{enumerate_from, list_any}
use Rattle.tree_objects.specs.declared.field_value.FieldValue.{FieldValue}
use Rattle.calendar_intervals.specs.declared.interval.Interval.{Interval}
use Rattle.composite_aggs.specs.Composite.{Keyed, combinations, combination_count, histogram_of, start_keys}
use Rattle.composite_aggs.specs.declared.pages.Row.{Row}
use Rattle.composite_aggs.specs.declared.refusal.TheConstants.{MOST_BUCKETS, MOST_COMBINATIONS}
use Rattle.composite_aggs.specs.declared.refusal.PageRefusal.{PageRefusal}
use Rattle.composite_aggs.specs.declared.refusal.PageRefusal.TheVariants.{TooManyBuckets, TooManyCombinations, NoMemory}

abbrev pub parts_of : Row → List (List FieldValue)
parts_of row = row.parts.items

-- the keys of a row: one value of each source
abbrev pub keys_of : Row → List (List FieldValue)
keys_of row = combinations (parts_of row)

-- the same of a row that comes with its index
abbrev pub row_keys : ℕ × Row → List (List FieldValue)
row_keys row = keys_of row.1

abbrev pub index_of : {R : Type 0} → ℕ × R → ℕ
index_of row = row.0

-- a bucket of rows, by their indices
abbrev pub places_of : {R : Type 0} → Keyed (ℕ × R) → Keyed ℕ
places_of bucket = record { key = bucket.key; those = map index_of bucket.those }

abbrev pub has_too_many : Row → Bool
has_too_many row = nat_lt MOST_COMBINATIONS (combination_count (parts_of row))

-- why there is no page: exactly where a row shows more than 10,000 combinations, or for want of memory
abbrev pub IsPageCause : List Row → PageRefusal → Type 0
IsPageCause rows TooManyBuckets = ⊥
IsPageCause rows TooManyCombinations = list_any has_too_many rows ≡ true
IsPageCause rows NoMemory = ⊤

-- the keys that the dates of a row show
abbrev pub date_keys : Interval → ℕ × List FieldValue → List (List FieldValue)
date_keys interval row = start_keys interval row.1

-- why there is no histogram: exactly where it would have more than 10,000 buckets, or for want of memory
abbrev pub IsHistogramCause : Interval → Bool → List (List FieldValue) → PageRefusal → Type 0
IsHistogramCause interval fill rows TooManyBuckets =
    MOST_BUCKETS < length (histogram_of (date_keys interval) interval fill (enumerate_from 0 rows))
IsHistogramCause interval fill rows TooManyCombinations = ⊥
IsHistogramCause interval fill rows NoMemory = ⊤
