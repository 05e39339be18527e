-- The definition computed at intervals whose beginnings are known, so that a wrong rule in it doesn't check.
use Rattle.std.proofs.Common.{◌≡◌, refl, ◌+◌, ◌*◌, pos}
use Rattle.jiff_core.specs.Calendar.{days_from_civil, day_count, days_of_years, days_of_months}
use Rattle.calendar_intervals.specs.Starts.{first_day_of, how_many, nth_start, years_begin, years_end}
use Rattle.calendar_intervals.specs.declared.interval.Interval.TheVariants.{Day, Month, Year}

-- the years 0000 and 10000 begin where the two ends are said to be
first_year : nth_start Year 0 ≡ years_begin
unfolding nth_start first_day_of days_from_civil day_count days_of_years days_of_months
first_year = refl

year_10000 : nth_start Year 10_000 ≡ years_end
unfolding nth_start first_day_of days_from_civil day_count days_of_years days_of_months
year_10000 = refl

-- February and March of the year 2024, and 29 February of it
february : nth_start Month (12 * 2024 + 1) ≡ pos 1_706_745_600_000
unfolding nth_start first_day_of days_from_civil day_count days_of_years days_of_months
february = refl

march : nth_start Month (12 * 2024 + 2) ≡ pos 1_709_251_200_000
unfolding nth_start first_day_of days_from_civil day_count days_of_years days_of_months
march = refl

leap_day : nth_start Day (719_528 + 19_782) ≡ pos 1_709_164_800_000
unfolding nth_start first_day_of days_from_civil day_count days_of_years days_of_months
leap_day = refl

-- the last day and the last month before the year 10000
last_day : nth_start Day (how_many Day) ≡ years_end
unfolding nth_start first_day_of days_from_civil day_count days_of_years days_of_months
last_day = refl

last_month : nth_start Month (how_many Month) ≡ years_end
unfolding nth_start first_day_of days_from_civil day_count days_of_years days_of_months
last_month = refl
