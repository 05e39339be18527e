-- Serving proofs alone: the buckets that are kept while rows are gone through.
use Rattle.std.specs.Prelude.{◌≡◌, ℕ, ◌==◌, ◌+◌, ◌-◌, Bool, false, List, [], ◌∷◌, ◌++◌, slice_get, take, length, Option, Some, None, IfSome, if◌then◌else◌}
use Rattle.std.specs.List.{AllByRecursion}
use Rattle.std.specs.declared.cmp.Ordering.{Ordering}
use Rattle.std.specs.declared.cmp.Ordering.TheVariants.{Less, Equal, Greater}
use Rattle.tree_objects.specs.declared.field_value.FieldValue.{FieldValue}
use Rattle.composite_aggs.specs.Composite.{Keyed, key_order, is_behind}
use Rattle.composite_aggs.specs.declared.kept.KeyPlaces.{KeyPlaces}

-- what a kept bucket is
abbrev pub bucket_of : KeyPlaces → Keyed ℕ
bucket_of kept = record { key = kept.key; those = kept.places.items }

-- a key that begins with these values
abbrev pub prefixed : List FieldValue → List FieldValue → List FieldValue
prefixed front key = front ++ key

-- strictly ascending by key
abbrev pub Ascends : List (Keyed ℕ) → Type 0
Ascends [] = Unit {0}
Ascends (b ∷ bs) = AllByRecursion (λ (c : Keyed ℕ). key_order b.key c.key ≡ Less) bs × Ascends bs

-- the place is the last one
abbrev pub is_last : ℕ → Option ℕ → Bool
is_last place None = false
is_last place (Some last) = last == place

-- the place put last, if it doesn't stand there already
abbrev pub put_once : ℕ → List ℕ → List ℕ
put_once place places =
    if is_last place (slice_get places (length places - 1)) then places else places ++ place ∷ []

-- the place put into the bucket of the key
abbrev pub by_key : Ordering → List FieldValue → ℕ → Keyed ℕ → List (Keyed ℕ) → List (Keyed ℕ) → List (Keyed ℕ)
by_key Less key place b bs more = record { key = b.key; those = b.those } ∷ more
by_key Equal key place b bs more = record { key = b.key; those = put_once place b.those } ∷ bs
by_key Greater key place b bs more = record { key = key; those = place ∷ [] } ∷ b ∷ bs

abbrev pub with_place : List FieldValue → ℕ → List (Keyed ℕ) → List (Keyed ℕ)
with_place key place [] = record { key = key; those = place ∷ [] } ∷ []
with_place key place (b ∷ bs) = by_key (key_order b.key key) key place b bs (with_place key place bs)

-- how the key at an index stands to a key
abbrev pub IsAt : Ordering → List FieldValue → ℕ → List (Keyed ℕ) → Type 0
IsAt order key k bs = IfSome (slice_get bs k) (λ b. key_order b.key key ≡ order)

abbrev pub IsLowerAt : List FieldValue → ℕ → List (Keyed ℕ) → Type 0
IsLowerAt key k bs = IsAt Less key k bs

abbrev pub IsSameAt : List FieldValue → ℕ → List (Keyed ℕ) → Type 0
IsSameAt key k bs = IsAt Equal key k bs

abbrev pub IsHigherAt : List FieldValue → ℕ → List (Keyed ℕ) → Type 0
IsHigherAt key k bs = IsAt Greater key k bs

-- the same for a key that isn't to be behind another, of which nothing is kept, and the first `size` of what is kept then
abbrev pub added : Option (List FieldValue) → ℕ → ℕ → List FieldValue → List (Keyed ℕ) → List (Keyed ℕ)
added after size place key kept =
    let new : Keyed ℕ = record { key = key; those = [] } in
    if is_behind after new then take size (with_place key place kept) else kept

-- and so for several keys of one row
abbrev pub added_all : Option (List FieldValue) → ℕ → ℕ → List (List FieldValue) → List (Keyed ℕ) → List (Keyed ℕ)
added_all after size place [] kept = kept
added_all after size place (key ∷ keys) kept = added_all after size place keys (added after size place key kept)

-- and for the keys of rows, the first of which has the index `place`
abbrev pub added_rows : Option (List FieldValue) → ℕ → ℕ → List (List (List FieldValue)) → List (Keyed ℕ) → List (Keyed ℕ)
added_rows after size place [] kept = kept
added_rows after size place (keys ∷ rows) kept = added_rows after size (place + 1) rows (added_all after size place keys kept)
