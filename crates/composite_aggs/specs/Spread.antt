-- Serving proofs alone: buckets put among the starts between theirs.
use Rattle.std.specs.Prelude.{◌≡◌, ⊤, ℕ, zero, suc, ◌<◌, ℤ, Bool, false, ◌&&◌, not, int_lt, List, [], ◌∷◌, map, length, filter, Option, Some, None, Contains, if◌then◌else◌}
use Rattle.std.specs.List.{AllByRecursion}
use Rattle.calendar_intervals.specs.Starts.{starts}
use Rattle.calendar_intervals.specs.declared.interval.Interval.{Interval}
use Rattle.tree_objects.specs.declared.field_value.FieldValue.{FieldValue}
use Rattle.tree_objects.specs.declared.field_value.FieldValue.TheVariants.{Number, Written}
use Rattle.composite_aggs.specs.Composite.{Keyed, is_same_key, lies_between, start_key}
use Rattle.composite_aggs.specs.declared.refusal.TheConstants.{MOST_BUCKETS}
use Rattle.composite_aggs.specs.declared.refusal.PageRefusal.{PageRefusal}
use Rattle.composite_aggs.specs.declared.refusal.PageRefusal.TheVariants.{TooManyBuckets, TooManyCombinations, NoMemory}

-- the starts from one to another
abbrev pub lies_from_to : ℤ → ℤ → ℤ → Bool
lies_from_to low high s = not (int_lt s low) && not (int_lt high s)

unfoldable pub starts_from_to : Interval → ℤ → ℤ → List ℤ
starts_from_to interval low high = filter (lies_from_to low high) (starts interval)

abbrev pub IsWalkCause : Interval → ℤ → ℤ → PageRefusal → Type 0
IsWalkCause interval low high TooManyBuckets = MOST_BUCKETS < length (starts_from_to interval low high)
IsWalkCause interval low high TooManyCombinations = ⊥
IsWalkCause interval low high NoMemory = ⊤

-- the keys of buckets, each the key of an interval
abbrev pub key_in : Keyed ℕ → List FieldValue
key_in b = b.key

abbrev pub keys_in : List (Keyed ℕ) → List (List FieldValue)
keys_in bs = map key_in bs

abbrev pub IsStartKey : Interval → List FieldValue → Type 0
IsStartKey interval key = (s : ℤ) × (key ≡ start_key s) × Contains (starts interval) s

abbrev pub AreStarts : Interval → List (Keyed ℕ) → Type 0
AreStarts interval bs = AllByRecursion (λ (b : Keyed ℕ). IsStartKey interval b.key) bs

abbrev pub first_number : List FieldValue → Option ℤ
first_number [] = None
first_number (Number n ∷ more) = Some n
first_number (Written t ∷ more) = None

abbrev pub number_at : ℕ → List (List FieldValue) → Option ℤ
number_at k [] = None
number_at zero (key ∷ keys) = first_number key
number_at (suc k) (key ∷ keys) = number_at k keys

-- the starts between those of some buckets
unfoldable pub spread : Interval → List (Keyed ℕ) → List ℤ
spread interval bs = filter (lies_between (keys_in bs)) (starts interval)

abbrev pub IsFillCause : Interval → List (Keyed ℕ) → PageRefusal → Type 0
IsFillCause interval bs TooManyBuckets = MOST_BUCKETS < length (spread interval bs)
IsFillCause interval bs TooManyCombinations = ⊥
IsFillCause interval bs NoMemory = ⊤

-- a bucket without rows
abbrev pub empty : ℤ → Keyed ℕ
empty start = record { key = start_key start; those = [] }

-- the bucket of a start, which is the first of some buckets or one without rows, and what is left of them
abbrev pub is_first : ℤ → List (Keyed ℕ) → Bool
is_first start [] = false
is_first start (b ∷ bs) = is_same_key b.key (start_key start)

abbrev pub first_of : ℤ → List (Keyed ℕ) → Keyed ℕ
first_of start [] = empty start
first_of start (b ∷ bs) = if is_same_key b.key (start_key start) then b else empty start

abbrev pub left_of : ℤ → List (Keyed ℕ) → List (Keyed ℕ)
left_of start [] = []
left_of start (b ∷ bs) = if is_same_key b.key (start_key start) then bs else b ∷ bs

-- the bucket of each start
abbrev pub merged : List ℤ → List (Keyed ℕ) → List (Keyed ℕ)
merged [] bs = []
merged (start ∷ more) bs = first_of start bs ∷ merged more (left_of start bs)
