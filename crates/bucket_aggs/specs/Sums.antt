-- What numbers come to: their sum, the least and the greatest.
use Rattle.std.specs.Prelude.{◌≡◌, ℕ, ◌+◌, ◌-◌, ◌*◌, ◌<◌, ◌^◌, ℤ, pos, negsuc, ◌+ℤ◌, ◌<ℤ◌, ◌≤ℤ◌, FitsSigned, Bool, false, if◌then◌else◌, List, [], length, fold, Option, Some, None}
use Rattle.std.specs.Int.{int_wrap, w64}
use Rattle.std.specs.List.{AllByRecursion, Contains, flat_map}
use Rattle.std.specs.Ordering.{int_cmp, is_lt}
use Rattle.doc_values.specs.Values.{values_of}
use Rattle.mapping_body.specs.declared.kind.Kind.{Kind}
use Rattle.segment.specs.Flat.{FlatDocument}
use Rattle.segment.specs.Live.{EntryState}
use Rattle.view_objects.specs.Values.{values_shown}
use Rattle.bucket_aggs.specs.declared.metrics.FieldSummary.{FieldSummary}
use Rattle.bucket_aggs.specs.declared.metrics.Running.{Running}
use Rattle.bucket_aggs.specs.declared.metrics.Summary.{Summary}
use Rattle.bucket_aggs.specs.Counts.{flats_of_view}

abbrev pub sum_of : List ℤ → ℤ
sum_of zs = fold (λ sum z. sum +ℤ z) (pos 0) zs

abbrev pub below : ℤ → ℤ → Bool
below a b = is_lt (int_cmp a b)

abbrev pub above : ℤ → ℤ → Bool
above a b = below b a

-- one of the numbers, and none comes before it; none where there are no numbers
abbrev pub IsFirst : (ℤ → ℤ → Bool) → List ℤ → Option ℤ → Type 0
IsFirst before zs None = zs ≡ []
IsFirst before zs (Some z) = Contains zs z × AllByRecursion (λ (x : ℤ). before x z ≡ false) zs

-- the first so far, with a number more, and with some
abbrev pub first_of : (ℤ → ℤ → Bool) → ℤ → ℤ → ℤ
first_of before first z = if before z first then z else first

abbrev pub first_from : (ℤ → ℤ → Bool) → ℤ → List ℤ → ℤ
first_from before first zs = fold (first_of before) first zs

pub record IsSummary (zs : List ℤ) (s : Summary) : Type 0 where
  pub count : s.count ≡ length zs
  pub total : s.total ≡ sum_of zs
  pub least : IsFirst below zs s.least
  pub greatest : IsFirst above zs s.greatest

-- before the first number: each is at or below the least and at or above the greatest
abbrev pub no_numbers : Running
no_numbers = record { count = 0; total = pos 0; least = pos (2 ^ 63 - 1); greatest = negsuc (2 ^ 63 - 1) }

-- the same but for the count and the sum, which begin anew
abbrev pub anew : Running → Running
anew s = record { count = 0; total = pos 0; least = s.least; greatest = s.greatest }

pub record IsAnew (s : Running) : Type 0 where
  pub count : s.count ≡ 0
  pub total : s.total ≡ pos 0

-- numbers of 64 bits that were added behind a start
pub record IsAdded (start : Running) (zs : List ℤ) (now : Running) : Type 0 where
  pub count : now.count ≡ start.count + length zs
  pub total : now.total ≡ start.total +ℤ sum_of zs
  pub least : now.least ≡ first_from below start.least zs
  pub greatest : now.greatest ≡ first_from above start.greatest zs
  pub fit : AllByRecursion (FitsSigned w64) zs

-- the same, but that the sum wraps at 64 bits
pub record IsWrapped (start : Running) (zs : List ℤ) (now : Running) : Type 0 where
  pub added : IsAdded start zs (record { count = now.count; total = sum_of zs; least = now.least; greatest = now.greatest })
  pub wraps : now.total ≡ int_wrap w64 (sum_of zs)

-- so many numbers of 64 bits may be added: the sum has 128 bits, and the count 64
pub record HasRoom (more : ℕ) (s : Running) : Type 0 where
  pub over : (pos (more * 2 ^ 63) +ℤ s.total) <ℤ pos (2 ^ 127)
  pub under : pos (more * 2 ^ 63) ≤ℤ (pos (2 ^ 127) +ℤ s.total)
  pub few : s.count + more < 2 ^ 64

-- the numbers of a document in the column of a field
abbrev pub numbers_in : ℕ → FlatDocument → List ℤ
numbers_in f d = values_of f d.numbers

-- how many keywords it has
abbrev pub keywords_in : ℕ → FlatDocument → ℕ
keywords_in f d = length (values_of f d.keywords)

abbrev pub values_in : Kind → ℕ → FlatDocument → ℕ
values_in kind f d = length (values_shown kind f d)

-- what is kept is what the numbers of its field come to over these documents
pub record IsKept (view : List EntryState) (scores : List (List (Option ℕ))) (kept : Option FieldSummary) : Type 0 where
  pub is : (own : FieldSummary) → kept ≡ Some own → IsSummary (flat_map (numbers_in own.field) (flats_of_view view scores)) own.sums
