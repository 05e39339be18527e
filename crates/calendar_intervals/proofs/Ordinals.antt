-- The intervals by their numbers: which day each begins with, and that they follow one another.
use Rattle.std.proofs.Common.{◌≡◌, ℕ, zero, suc, ◌+◌, ◌-◌, ◌*◌, ◌/◌, ◌%◌, ◌<◌, ◌≤◌, inl, inr, refl, sym, ◌∙◌, ap, subst, arith, ℤ, pos, negsuc, ◌+ℤ◌, ◌*ℤ◌, ◌<ℤ◌, ◌≤ℤ◌, ◌≢◌, FitsSigned, w64, to_z, of_z}
use Rattle.std.specs.Int.{IsInRange, int_div_euclid}
use Rattle.std.proofs.lemmas.Bool.{cases_order}
use Rattle.std.proofs.lemmas.Int.{by_lt_z, to_z-of_z}
use Rattle.jiff_core.specs.declared.civil.date.Date.{Date}
use Rattle.jiff_core.specs.Calendar.{days_in_month, days_from_civil, day_count, days_of_years, days_of_months, IsCivilDate, IsBetween}
use Rattle.jiff_core.specs.Date.{epoch_day, month_length, IsYmd}
use Rattle.jiff_core.proofs.SignedLemmas.{signed_arith}
use Rattle.jiff_core.proofs.CalendarLemmas.{days_from_civil-day_count, day_count-lt_year, day_count-lt_month, day_count-day_of_year, days_in_month_bounds}
use Rattle.jiff_core.proofs.DateLemmas.{civil, days_from_civil-day, days_from_civil-next_month, days_from_civil-next_year}
use Rattle.calendar_intervals.specs.Starts.{first_day_of, how_many, nth_start, years_begin, years_end, IsNumberOf, IsFirstDay, IsLastDay}
use Rattle.calendar_intervals.specs.declared.interval.Interval.{Interval}
use Rattle.calendar_intervals.specs.declared.interval.Interval.TheVariants.{Day, Month, Year}
use borrow.Author.Differences.{up, down}

-- ---- the ends

pub first_is : days_from_civil (pos 0) 1 1 ≡ negsuc 719_527
unfolding days_from_civil day_count days_of_years days_of_months
first_is = refl

pub end_is : days_from_civil (pos 10_000) 1 1 ≡ pos 2_932_897
unfolding days_from_civil day_count days_of_years days_of_months
end_is = refl

-- ---- later years and months

first_is_civil : (y m : ℕ) → y < 10_000 → IsInRange 1 12 m → IsCivilDate (pos y) m 1
first_is_civil y m h r = (omega (arith, signed_arith), r, omega (arith, days_in_month_bounds (pos y) m))

later_year : (y m d y₂ m₂ d₂ : ℕ) → IsCivilDate (pos y) m d → 1 ≤ d₂ → y < y₂ → days_from_civil (pos y) m d <ℤ days_from_civil (pos y₂) m₂ d₂
later_year y m d y₂ m₂ d₂ h first lt =
    let sooner : pos y <ℤ pos y₂ = omega (arith, signed_arith) in
    omega (arith, signed_arith, days_from_civil-day_count (pos y) m d, days_from_civil-day_count (pos y₂) m₂ d₂, day_count-lt_year (pos y) m d (pos y₂) m₂ d₂ h first sooner)

later_month : (y m d m₂ d₂ : ℕ) → IsCivilDate (pos y) m d → 1 ≤ d₂ → m < m₂ → days_from_civil (pos y) m d <ℤ days_from_civil (pos y) m₂ d₂
later_month y m d m₂ d₂ h first lt =
    omega (arith, signed_arith, days_from_civil-day_count (pos y) m d, days_from_civil-day_count (pos y) m₂ d₂, day_count-lt_month (pos y) m d m₂ d₂ h first lt)

-- a later interval begins later
pub later : (i : Interval) (k j : ℕ) → k < how_many i → k < j → first_day_of i k <ℤ first_day_of i j
unfolding first_day_of
later Day k j h lt = omega (arith, signed_arith)
later Month k j h lt =
    let civil_first = first_is_civil (k / 12) (k % 12 + 1) (omega arith) (omega arith) in
    elim (cases_order (k / 12) (j / 12)) [
      | inl same ↦ rw (← same) (later_month (k / 12) (k % 12 + 1) 1 (j % 12 + 1) 1 civil_first (omega arith) (omega arith))
      | inr (inl less) ↦ later_year (k / 12) (k % 12 + 1) 1 (j / 12) (j % 12 + 1) 1 civil_first (omega arith) less
      | inr (inr more) ↦ absurd (omega arith)
    ]
later Year k j h lt = later_year k 1 1 j 1 1 (first_is_civil k 1 h (omega arith)) (omega arith) lt

-- ---- the number of the interval that a day lies in

pub number_of_day : (day : ℤ) → IsBetween (negsuc 719_527) (pos 2_932_896) day → IsNumberOf Day day (up day + 719_528 - down day)
unfolding first_day_of
number_of_day day h = record {
  known = omega (arith, signed_arith);
  from = omega (arith, signed_arith, first_is);
  before = omega (arith, signed_arith, first_is);
}

-- a number that isn't negative
natural : (z : ℤ) → pos 0 ≤ℤ z → (n : ℕ) × (z ≡ pos n)
natural (pos n) h = (n, refl)
natural (negsuc n) h = absurd (omega (arith, signed_arith))

-- the year of a date that lies in the years 0000 to 9999
year_of : (d : Date) → IsBetween (negsuc 719_527) (pos 2_932_896) (epoch_day d) → (n : ℕ) × (d.year ≡ pos n) × (n < 10_000)
year_of d h =
    by_lt_z d.year (pos 0)
    (λ lt. absurd (omega (arith, signed_arith, first_is, days_from_civil-day_count d.year d.month d.day, days_from_civil-day_count (pos 0) 1 1, day_count-lt_year d.year d.month d.day (pos 0) 1 1 (civil d) (omega arith) lt)))
    (λ ge. let known = natural d.year ge in
    let n = known.0 in
    let same : d.year ≡ pos n = known.1 in
    (n, same, omega (arith, signed_arith, same, d.year_in)))

-- a month begins on its first day, and the next one after its last
month_begins : (n m : ℕ) → IsInRange 1 12 m → first_day_of Month (n * 12 + (m - 1)) ≡ days_from_civil (pos n) m 1
unfolding first_day_of
month_begins n m h =
    let year : (n * 12 + (m - 1)) / 12 ≡ n = omega arith in
    let month : (n * 12 + (m - 1)) % 12 + 1 ≡ m = omega arith in
    rw (year, month) refl

next_month_begins : (n m : ℕ) → IsInRange 1 12 m → first_day_of Month (n * 12 + (m - 1) + 1) ≡ days_from_civil (pos n) m (days_in_month (pos n) m) +ℤ pos 1
unfolding first_day_of
next_month_begins n m h =
    elim (cases_order m 12) [
      | inl december ↦
          let year : (n * 12 + (m - 1) + 1) / 12 ≡ n + 1 = omega arith in
          let month : (n * 12 + (m - 1) + 1) % 12 + 1 ≡ 1 = omega arith in
          rw (year, month, december) (days_from_civil-next_year (pos n) (pos (n + 1)) (omega (arith, signed_arith)) (omega (arith, signed_arith)))
      | inr (inl sooner) ↦
          let year : (n * 12 + (m - 1) + 1) / 12 ≡ n = omega arith in
          let month : (n * 12 + (m - 1) + 1) % 12 + 1 ≡ m + 1 = omega arith in
          rw (year, month) (days_from_civil-next_month (pos n) m (days_in_month (pos n) m) h.0 refl)
      | inr (inr later) ↦ absurd (omega arith)
    ]

in_month : (n m d : ℕ) → n < 10_000 → IsInRange 1 12 m → IsInRange 1 (days_in_month (pos n) m) d → IsNumberOf Month (days_from_civil (pos n) m d) (n * 12 + (m - 1))
in_month n m d h r q = record {
  known = omega arith;
  from = rw (month_begins n m r) (omega (arith, signed_arith, days_from_civil-day (pos n) m d 1 q.0 (omega arith)));
  before = rw (next_month_begins n m r) (omega (arith, signed_arith, days_from_civil-day (pos n) m d (days_in_month (pos n) m) q.0 (omega (arith, days_in_month_bounds (pos n) m))));
}

next_year_begins : (n : ℕ) → first_day_of Year (n + 1) ≡ days_from_civil (pos n) 12 31 +ℤ pos 1
unfolding first_day_of
next_year_begins n = days_from_civil-next_year (pos n) (pos (n + 1)) (omega (arith, signed_arith)) (omega (arith, signed_arith))

in_year : (n m d : ℕ) → n < 10_000 → IsInRange 1 12 m → IsInRange 1 (days_in_month (pos n) m) d → IsNumberOf Year (days_from_civil (pos n) m d) n
unfolding first_day_of
in_year n m d h r q = record {
  known = h;
  from = omega (arith, signed_arith, days_from_civil-day_count (pos n) m d, days_from_civil-day_count (pos n) 1 1, day_count-day_of_year (pos n) m d q.0);
  before = later_year n m d (n + 1) 1 1 (omega (arith, signed_arith), r, q) (omega arith) (omega arith);
}

-- ---- the first and the last day of an interval, as dates

first_of_month_at : (day : ℤ) (d it : Date) (n : ℕ) → d.year ≡ pos n → n < 10_000 → epoch_day d ≡ day → IsYmd d.year (pos d.month) (pos 1) it → IsFirstDay Month day (epoch_day it)
first_of_month_at day d it n same known is parts =
    let month : it.month ≡ d.month = omega (arith, signed_arith, parts.1) in
    let place : it.day ≡ 1 = omega (arith, signed_arith, parts.2) in
    let range : IsInRange 1 (days_in_month (pos n) d.month) d.day = rw same at d.day_in in
    (n * 12 + (d.month - 1), subst (λ z. IsNumberOf Month z (n * 12 + (d.month - 1))) (ap (λ y. days_from_civil y d.month d.day) (sym same) ∙ is) (in_month n d.month d.day known d.month_in range), rw (parts.0, month, place, same) (sym (month_begins n d.month d.month_in)))

pub first_of_month : (day : ℤ) (d it : Date) → IsBetween (negsuc 719_527) (pos 2_932_896) day → epoch_day d ≡ day → IsYmd d.year (pos d.month) (pos 1) it → IsFirstDay Month day (epoch_day it)
first_of_month day d it h is parts =
    let year = year_of d (rw is h) in first_of_month_at day d it year.0 year.1 year.2 is parts

last_of_month_at : (day : ℤ) (d it : Date) (n : ℕ) → d.year ≡ pos n → n < 10_000 → epoch_day d ≡ day → IsYmd d.year (pos d.month) (pos (month_length d)) it → IsLastDay Month day (epoch_day it)
last_of_month_at day d it n same known is parts =
    let month : it.month ≡ d.month = omega (arith, signed_arith, parts.1) in
    let place : it.day ≡ days_in_month d.year d.month = omega (arith, signed_arith, parts.2) in
    let range : IsInRange 1 (days_in_month (pos n) d.month) d.day = rw same at d.day_in in
    (n * 12 + (d.month - 1), subst (λ z. IsNumberOf Month z (n * 12 + (d.month - 1))) (ap (λ y. days_from_civil y d.month d.day) (sym same) ∙ is) (in_month n d.month d.day known d.month_in range), rw (parts.0, month, place, same) (sym (next_month_begins n d.month d.month_in)))

pub last_of_month : (day : ℤ) (d it : Date) → IsBetween (negsuc 719_527) (pos 2_932_896) day → epoch_day d ≡ day → IsYmd d.year (pos d.month) (pos (month_length d)) it → IsLastDay Month day (epoch_day it)
last_of_month day d it h is parts =
    let year = year_of d (rw is h) in last_of_month_at day d it year.0 year.1 year.2 is parts

first_of_year_at : (day : ℤ) (d it : Date) (n : ℕ) → d.year ≡ pos n → n < 10_000 → epoch_day d ≡ day → IsYmd d.year (pos 1) (pos 1) it → IsFirstDay Year day (epoch_day it)
unfolding first_day_of
first_of_year_at day d it n same known is parts =
    let month : it.month ≡ 1 = omega (arith, signed_arith, parts.1) in
    let place : it.day ≡ 1 = omega (arith, signed_arith, parts.2) in
    let range : IsInRange 1 (days_in_month (pos n) d.month) d.day = rw same at d.day_in in
    (n, subst (λ z. IsNumberOf Year z (n)) (ap (λ y. days_from_civil y d.month d.day) (sym same) ∙ is) (in_year n d.month d.day known d.month_in range), rw (parts.0, month, place, same) refl)

pub first_of_year : (day : ℤ) (d it : Date) → IsBetween (negsuc 719_527) (pos 2_932_896) day → epoch_day d ≡ day → IsYmd d.year (pos 1) (pos 1) it → IsFirstDay Year day (epoch_day it)
first_of_year day d it h is parts =
    let year = year_of d (rw is h) in first_of_year_at day d it year.0 year.1 year.2 is parts

last_of_year_at : (day : ℤ) (d it : Date) (n : ℕ) → d.year ≡ pos n → n < 10_000 → epoch_day d ≡ day → IsYmd d.year (pos 12) (pos 31) it → IsLastDay Year day (epoch_day it)
last_of_year_at day d it n same known is parts =
    let month : it.month ≡ 12 = omega (arith, signed_arith, parts.1) in
    let place : it.day ≡ 31 = omega (arith, signed_arith, parts.2) in
    let range : IsInRange 1 (days_in_month (pos n) d.month) d.day = rw same at d.day_in in
    (n, subst (λ z. IsNumberOf Year z (n)) (ap (λ y. days_from_civil y d.month d.day) (sym same) ∙ is) (in_year n d.month d.day known d.month_in range), rw (parts.0, month, place, same) (sym (next_year_begins n)))

pub last_of_year : (day : ℤ) (d it : Date) → IsBetween (negsuc 719_527) (pos 2_932_896) day → epoch_day d ≡ day → IsYmd d.year (pos 12) (pos 31) it → IsLastDay Year day (epoch_day it)
last_of_year day d it h is parts =
    let year = year_of d (rw is h) in last_of_year_at day d it year.0 year.1 year.2 is parts

pub first_of_day : (day : ℤ) → IsBetween (negsuc 719_527) (pos 2_932_896) day → IsFirstDay Day day day
unfolding first_day_of
first_of_day day h = (up day + 719_528 - down day, number_of_day day h, omega (arith, signed_arith, first_is))

pub last_of_day : (day : ℤ) → IsBetween (negsuc 719_527) (pos 2_932_896) day → IsLastDay Day day day
unfolding first_day_of
last_of_day day h = (up day + 719_528 - down day, number_of_day day h, omega (arith, signed_arith, first_is))

-- ---- from days to moments

pub ends_are : (i : Interval) → (first_day_of i 0 ≡ negsuc 719_527) × (first_day_of i (how_many i) ≡ pos 2_932_897)
unfolding first_day_of
ends_are Day = (omega (arith, signed_arith, first_is), omega (arith, signed_arith, first_is))
ends_are Month = (first_is, end_is)
ends_are Year = (first_is, end_is)

pub day_bounds : (i : Interval) (k : ℕ) → k < how_many i → IsBetween (negsuc 719_527) (pos 2_932_896) (first_day_of i k)
day_bounds i zero h =
    let ends = ends_are i in (omega (arith, signed_arith), omega (arith, signed_arith, later i zero (how_many i) h h))
day_bounds i (suc k) h =
    let ends = ends_are i in
    (omega (arith, signed_arith, later i zero (suc k) (omega arith) (omega arith)), omega (arith, signed_arith, later i (suc k) (how_many i) h h))

pub later_start : (i : Interval) (k j : ℕ) → k < how_many i → k < j → nth_start i k <ℤ nth_start i j
unfolding nth_start
later_start i k j h lt = omega (arith, signed_arith, later i k j h lt)

-- the number of the interval that a moment lies in
pub record IsOrdinalOf (i : Interval) (z : ℤ) (k : ℕ) : Type 0 where
  pub known : k < how_many i
  pub from : nth_start i k ≤ℤ z
  pub before : z <ℤ nth_start i (k + 1)

pub of_day : (i : Interval) (z : ℤ) (k : ℕ) → IsNumberOf i (int_div_euclid z (pos 86_400_000)) k → IsOrdinalOf i z k
unfolding nth_start
of_day i z k h = record {
  known = h.known;
  from = omega (arith, signed_arith, h.from);
  before = omega (arith, signed_arith, h.before);
}

-- no start lies between
pub not_later : (i : Interval) (z : ℤ) (k j : ℕ) → IsOrdinalOf i z k → j < how_many i → nth_start i j ≤ℤ z → nth_start i j ≤ℤ nth_start i k
not_later i z k j h known le =
    elim (cases_order k j) [
      | inl same ↦ rw same (omega (arith, signed_arith))
      | inr (inr less) ↦ omega (arith, signed_arith, later_start i j k known less)
      | inr (inl more) ↦ absurd (elim (cases_order (k + 1) j) [
        | inl next ↦ omega (arith, signed_arith, h.before, rw (← next) at le)
        | inr (inl further) ↦ omega (arith, signed_arith, h.before, later_start i (k + 1) j (omega arith) further)
        | inr (inr never) ↦ omega arith
      ])
    ]

-- ---- as the code computes them

moment_fits : (i : Interval) (k : ℕ) → k < how_many i → FitsSigned w64 (first_day_of i k *ℤ pos 86_400_000)
moment_fits i k h = omega (arith, signed_arith, day_bounds i k h)

pub day_fits : (i : Interval) (k : ℕ) → k < how_many i → FitsSigned w64 (first_day_of i k)
day_fits i k h = omega (arith, signed_arith, day_bounds i k h)

pub as_start : (i : Interval) (k : ℕ) (day : ℤ) → k < how_many i → day ≡ first_day_of i k → FitsSigned w64 (to_z w64 (of_z w64 day) *ℤ pos 86_400_000) × (to_z w64 (of_z w64 (to_z w64 (of_z w64 day) *ℤ pos 86_400_000)) ≡ nth_start i k)
unfolding nth_start
as_start i k day h is =
    rw (is, to_z-of_z w64 (first_day_of i k) (day_fits i k h))
    (moment_fits i k h, to_z-of_z w64 (first_day_of i k *ℤ pos 86_400_000) (moment_fits i k h))

pub as_next : (i : Interval) (k : ℕ) (last : ℤ) → FitsSigned w64 last → k < how_many i → last +ℤ pos 1 ≡ first_day_of i k → FitsSigned w64 (to_z w64 (of_z w64 last) +ℤ pos 1) × FitsSigned w64 (to_z w64 (of_z w64 (to_z w64 (of_z w64 last) +ℤ pos 1)) *ℤ pos 86_400_000) × (to_z w64 (of_z w64 (to_z w64 (of_z w64 (to_z w64 (of_z w64 last) +ℤ pos 1)) *ℤ pos 86_400_000)) ≡ nth_start i k)
as_next i k last fits h is =
    let parts = as_start i k (last +ℤ pos 1) h is in
    rw (to_z-of_z w64 last fits) (rw is (day_fits i k h), parts.0, parts.1)

-- ---- moments outside the years 0000 to 9999

pub before_all : (i : Interval) (z : ℤ) → int_div_euclid z (pos 86_400_000) <ℤ negsuc 719_527 → (j : ℕ) → j < how_many i → z <ℤ nth_start i j
unfolding nth_start
before_all i z h j known = omega (arith, signed_arith, day_bounds i j known)

pub behind_all : (i : Interval) (z : ℤ) → pos 2_932_896 <ℤ int_div_euclid z (pos 86_400_000) → (j : ℕ) → j < how_many i → nth_start i j ≤ℤ z
unfolding nth_start
behind_all i z h j known = omega (arith, signed_arith, day_bounds i j known)

pub behind_years : (z : ℤ) → pos 2_932_896 <ℤ int_div_euclid z (pos 86_400_000) → years_end ≤ℤ z
behind_years z h = omega (arith, signed_arith)

pub within_years : (z : ℤ) → int_div_euclid z (pos 86_400_000) ≤ℤ pos 2_932_896 → z <ℤ years_end
within_years z h = omega (arith, signed_arith)

pub some_known : (i : Interval) → 0 < how_many i
some_known Day = omega arith
some_known Month = omega arith
some_known Year = omega arith

pub first_start_is : (i : Interval) → nth_start i 0 ≡ years_begin
unfolding nth_start
first_start_is i = rw ((ends_are i).0) refl

-- the interval with this number is the last one exactly where it ends with the last day
pub last_one : (i : Interval) (k : ℕ) → k < how_many i → first_day_of i (k + 1) ≡ pos 2_932_897 → k + 1 ≡ how_many i
last_one i k h is =
    elim (cases_order (k + 1) (how_many i)) [
      | inl same ↦ same
      | inr (inl less) ↦ absurd (omega (arith, signed_arith, is, (ends_are i).1, later i (k + 1) (how_many i) less less))
      | inr (inr more) ↦ absurd (omega arith)
    ]

pub not_last : (i : Interval) (k : ℕ) → k < how_many i → first_day_of i (k + 1) ≢ pos 2_932_897 → k + 1 < how_many i
not_last i k h other =
    elim (cases_order (k + 1) (how_many i)) [
      | inl same ↦ absurd (other (ap (first_day_of i) same ∙ (ends_are i).1))
      | inr (inl less) ↦ less
      | inr (inr more) ↦ absurd (omega arith)
    ]
