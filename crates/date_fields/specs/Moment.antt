-- The moment that a date text names, in milliseconds since 1970-01-01T00:00:00Z, of which a day has 86,400,000.
-- A text is a date of RFC 3339 (`full-date`), which stands for its midnight in UTC, or a date with a time in UTC
-- (`date-time` with a capital `T` and `Z`, and either no fraction or one of three digits).
use Rattle.std.specs.Prelude.{◌==◌, ℕ, ◌+◌, ◌*◌, ℤ, pos, ◌+ℤ◌, ◌*ℤ◌, Bool, true, false, ◌&&◌, if◌then◌else◌, nat_le, List, [], ◌∷◌, take, codes, slice_range, Option, Some, None, option_map}
use Rattle.std.specs.Char.{is_ascii_digit}
use Rattle.std.specs.Str.Parse.{digits_value}
use Rattle.jiff_core.specs.Calendar.{days_in_month, days_from_civil}

-- a format's `0` stands for any decimal digit, and each other byte of a format for itself
abbrev pub suits : ℕ → ℕ → Bool
suits mark byte = if mark == 48 then is_ascii_digit byte else (byte == mark)

-- the text is as long as the format, and each of its bytes suits the format's byte at that place
unfoldable pub has_format : List ℕ → List ℕ → Bool
has_format [] [] = true
has_format [] (byte ∷ text) = false
has_format (mark ∷ format) [] = false
has_format (mark ∷ format) (byte ∷ text) = suits mark byte && has_format format text

-- a year, a month and a day, as `2024-01-15`
abbrev pub date_format : List ℕ
date_format = codes "0000-00-00"

-- hours, minutes and seconds, as `09:30:00`
abbrev pub time_format : List ℕ
time_format = codes "00:00:00"

-- such a date with such a time, as `2024-01-15T09:30:00Z`
abbrev pub second_format : List ℕ
second_format = codes "0000-00-00T00:00:00Z"

-- the same with milliseconds, as `2024-01-15T09:30:00.250Z`
abbrev pub milli_format : List ℕ
milli_format = codes "0000-00-00T00:00:00.000Z"

-- the number that the digits write in the bytes `from` up to and without `to`
abbrev pub field : List ℕ → ℕ → ℕ → ℕ
field text from to = digits_value 10 (slice_range text from to)

-- the proleptic Gregorian calendar (ISO 8601) has the date
abbrev pub is_date : ℕ → ℕ → ℕ → Bool
is_date year month day =
    nat_le 1 month && nat_le month 12 && nat_le 1 day && nat_le day (days_in_month (pos year) month)

-- the days from 1 January 1970 to the date, where the calendar has it
abbrev pub day_number : ℕ → ℕ → ℕ → Option ℤ
day_number year month day =
    if is_date year month day then Some (days_from_civil (pos year) month day) else None

-- the moment at which the date begins in UTC, where the calendar has the date
unfoldable pub midnight : List ℕ → Option ℤ
midnight date =
    option_map (λ day. day *ℤ pos 86_400_000) (day_number (field date 0 4) (field date 5 7) (field date 8 10))

-- a clock shows the time; it shows no leap second
abbrev pub is_time : ℕ → ℕ → ℕ → Bool
is_time hour minute second = nat_le hour 23 && nat_le minute 59 && nat_le second 59

-- the milliseconds from midnight to the time, as `09:30:00`, where a clock shows it
unfoldable pub time_of_day : List ℕ → Option ℕ
time_of_day time =
    if is_time (field time 0 2) (field time 3 5) (field time 6 8)
    then Some (((field time 0 2 * 60 + field time 3 5) * 60 + field time 6 8) * 1_000)
    else None

-- so many milliseconds after the time of the day, where there are such a day and time
abbrev pub moment_at : Option ℤ → Option ℕ → ℕ → Option ℤ
moment_at (Some day) (Some time) millis = Some (day +ℤ pos (time + millis))
moment_at (Some day) None millis = None
moment_at None time millis = None

-- the moment that a text names, if it has one of the formats, its date is in the calendar and its time on the clock
unfoldable pub moment : List ℕ → Option ℤ
moment text =
    if has_format date_format text then midnight text
    else (if has_format second_format text
    then moment_at (midnight (take 10 text)) (time_of_day (slice_range text 11 19)) 0
    else (if has_format milli_format text
    then moment_at (midnight (take 10 text)) (time_of_day (slice_range text 11 19)) (field text 20 23)
    else None))
