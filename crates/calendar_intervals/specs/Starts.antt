-- Where the days, months and years of UTC begin in the years 0000 to 9999, in milliseconds since 1970-01-01T00:00:00Z. The
-- calendar is the proleptic Gregorian one (ISO 8601), and a day has 86,400,000 milliseconds.
use Rattle.std.specs.Prelude.{◌≡◌, ℕ, zero, suc, ◌+◌, ◌/◌, ◌%◌, ◌<◌, ℤ, pos, negsuc, ◌+ℤ◌, ◌*ℤ◌, ◌<ℤ◌, ◌≤ℤ◌, not, int_lt, List, [], ◌∷◌, ◌++◌, filter, find, Option, None, if◌then◌else◌}
use Rattle.std.specs.List.{last_or}
use Rattle.jiff_core.specs.Calendar.{days_from_civil}
use Rattle.calendar_intervals.specs.declared.interval.Interval.{Interval}
use Rattle.calendar_intervals.specs.declared.interval.Interval.TheVariants.{Day, Month, Year}

-- the day number (0 is 1970-01-01) with which an interval begins: intervals are counted from 0000-01-01 on
unfoldable pub first_day_of : Interval → ℕ → ℤ
first_day_of Day k = days_from_civil (pos 0) 1 1 +ℤ pos k
first_day_of Month k = days_from_civil (pos (k / 12)) (k % 12 + 1) 1
first_day_of Year k = days_from_civil (pos k) 1 1

-- how many begin before the year 10000
abbrev pub how_many : Interval → ℕ
how_many Day = 3_652_425
how_many Month = 120_000
how_many Year = 10_000

-- the moment at which it begins
unfoldable pub nth_start : Interval → ℕ → ℤ
nth_start i k = first_day_of i k *ℤ pos 86_400_000

-- the first `n` starts in order
unfoldable pub first_starts : Interval → ℕ → List ℤ
first_starts i zero = []
first_starts i (suc n) = first_starts i n ++ nth_start i n ∷ []

-- the starts of the years 0000 to 9999 in order
unfoldable pub starts : Interval → List ℤ
starts i = first_starts i (how_many i)

-- 0000-01-01T00:00:00Z, and the first moment after the year 9999
abbrev pub years_begin : ℤ
years_begin = negsuc 62_167_219_199_999

abbrev pub years_end : ℤ
years_end = pos 253_402_300_800_000

-- the start of the interval that a moment lies in: of the starts that aren't after it, the last. A moment outside the
-- years 0000 to 9999 has none.
unfoldable pub start_of : Interval → ℤ → Option ℤ
start_of i z = if int_lt z years_end then last_or None (filter (λ s. not (int_lt z s)) (starts i)) else None

-- the first of the starts that are after a moment
unfoldable pub next_of : Interval → ℤ → Option ℤ
next_of i z = find (int_lt z) (starts i)

-- ---- serving proofs alone: the number of the interval that a day lies in

pub record IsNumberOf (i : Interval) (day : ℤ) (k : ℕ) : Type 0 where
  pub known : k < how_many i
  pub from : first_day_of i k ≤ℤ day
  pub before : day <ℤ first_day_of i (k + 1)

abbrev pub IsFirstDay : Interval → ℤ → ℤ → Type 0
IsFirstDay i day first = (k : ℕ) × IsNumberOf i day k × (first ≡ first_day_of i k)

abbrev pub IsLastDay : Interval → ℤ → ℤ → Type 0
IsLastDay i day last = (k : ℕ) × IsNumberOf i day k × (last +ℤ pos 1 ≡ first_day_of i (k + 1))
