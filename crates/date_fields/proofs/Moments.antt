-- The moment of a text of each form, and of one that has none.
use Rattle.std.proofs.Common.{◌≡◌, ℕ, List, true, false, take, drop}
use Rattle.std.specs.Prelude.{None}
use Rattle.date_fields.specs.Moment.{has_format, date_format, second_format, milli_format, field, midnight, time_of_day, moment_at, moment}

pub moment_of_date : (text : List ℕ) → has_format date_format text ≡ true → moment text ≡ midnight text
unfolding moment
moment_of_date text date = rw date

pub moment_of_second : (text : List ℕ) → has_format date_format text ≡ false → has_format second_format text ≡ true → moment text ≡ moment_at (midnight (take 10 text)) (time_of_day (take 8 (drop 11 text))) 0
unfolding moment
moment_of_second text date second = rw (date, second)

pub moment_of_milli : (text : List ℕ) → has_format date_format text ≡ false → has_format second_format text ≡ false → has_format milli_format text ≡ true → moment text ≡ moment_at (midnight (take 10 text)) (time_of_day (take 8 (drop 11 text))) (field text 20 23)
unfolding moment
moment_of_milli text date second milli = rw (date, second, milli)

pub moment_of_none : (text : List ℕ) → has_format date_format text ≡ false → has_format second_format text ≡ false → has_format milli_format text ≡ false → moment text ≡ None
unfolding moment
moment_of_none text date second milli = rw (date, second, milli)
