-- The definition computed at texts whose moments are known, so that a wrong rule in it doesn't check.
use Rattle.std.proofs.Common.{◌≡◌, refl, pos, negsuc}
use Rattle.std.specs.Prelude.{codes, Some, None}
use Rattle.jiff_core.specs.Calendar.{days_from_civil, day_count, days_of_years, days_of_months}
use Rattle.date_fields.specs.Moment.{has_format, midnight, time_of_day, moment}

day : moment (codes "2024-01-15") ≡ Some (pos 1_705_276_800_000)
unfolding moment has_format midnight time_of_day days_from_civil day_count days_of_years days_of_months
day = refl

last_moment : moment (codes "9999-12-31T23:59:59.999Z") ≡ Some (pos 253_402_300_799_999)
unfolding moment has_format midnight time_of_day days_from_civil day_count days_of_years days_of_months
last_moment = refl

before_1970 : moment (codes "1969-12-31T23:59:59.999Z") ≡ Some (negsuc 0)
unfolding moment has_format midnight time_of_day days_from_civil day_count days_of_years days_of_months
before_1970 = refl

no_such_day : moment (codes "2024-02-30") ≡ None
unfolding moment has_format midnight time_of_day days_from_civil day_count days_of_years days_of_months
no_such_day = refl

no_zone : moment (codes "2024-01-15T09:30:00") ≡ None
unfolding moment has_format midnight time_of_day days_from_civil day_count days_of_years days_of_months
no_zone = refl
