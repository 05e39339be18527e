-- The day number of a date that `jiff` has made.
use Rattle.std.proofs.Common.{◌≡◌, ℕ, ◌<◌, true, refl, ◌∙◌, subst, arith, ℤ, pos, to_z, w8, w16}
use Rattle.std.specs.Prelude.{Some, Result, Ok, Err, IfOk}
use Rattle.std.specs.Result.{result_ok}
use Rattle.std.specs.Int.{IsInRange}
use Rattle.std.proofs.lemmas.Bool.Decides.{nat_tests}
use Rattle.std.proofs.lemmas.Int.{ints}
use Rattle.jiff_core.specs.Calendar.{days_in_month, days_from_civil}
use Rattle.date_fields.specs.Moment.{is_date, day_number}

is_date_from : (year month day : ℕ) → IsInRange 1 12 month → IsInRange 1 (days_in_month (pos year) month) day → is_date year month day ≡ true
is_date_from year month day in_year in_month = grind (arith, nat_tests, in_year, in_month)

day_number_from : (year month day : ℕ) → IsInRange 1 12 month → IsInRange 1 (days_in_month (pos year) month) day → day_number year month day ≡ Some (days_from_civil (pos year) month day)
day_number_from year month day in_year in_month = rw (is_date_from year month day in_year in_month) refl

-- numbers of four and of two digits keep their values as the signed ones that make a date
pub day_number_of_date : (year month day : ℕ) (y : ℤ) (m d : ℕ) → year < 10_000 → month < 100 → day < 100 → y ≡ to_z w16 year → pos m ≡ to_z w8 month → pos d ≡ to_z w8 day → IsInRange 1 12 m → IsInRange 1 (days_in_month y m) d → day_number year month day ≡ Some (days_from_civil y m d)
day_number_of_date year month day y m d four two two_more same_year same_month same_day in_year in_month =
    let is_year : y ≡ pos year = same_year ∙ omega (arith, ints) in
    let is_month : m ≡ month = omega (arith, ints) in
    let is_day : d ≡ day = omega (arith, ints) in
    rw (is_year, is_month, is_day) (day_number_from year month day (rw is_month at in_year) (rw (is_year, is_month, is_day) at in_month))

-- what holds of a result's value, if there is one, holds of the value that `ok` gives
pub at_some : {T E : Type 0} (P : T → Type 0) (r : Result T E) (x : T) → Some x ≡ result_ok r → IfOk r P → P x
at_some P (Ok y) x e h = let same : y ≡ x = cc in subst P same h
at_some P (Err y) x e h = cc
