-- What a text of a format is made of.
use Rattle.std.proofs.Common.{◌≡◌, ℕ, zero, suc, ◌-◌, ◌<◌, ◌≤◌, Bool, ◌&&◌, true, false, List, [], ◌∷◌, length, drop, take, nat_eq, length-take, length-drop, ◌≢◌, refl, ap, arith}
use Rattle.std.specs.Prelude.{slice_range}
use Rattle.std.specs.List.{list_all}
use Rattle.std.specs.Str.Parse.{AllDigits}
use Rattle.std.specs.Char.{is_ascii_digit, digit_value}
use Rattle.std.proofs.lemmas.Bool.Decides.{nat_tests}
use Rattle.date_fields.specs.Moment.{suits, has_format, date_format, time_format, second_format, milli_format}

-- both parts of a true conjunction are true
both : (a b : Bool) → (a && b) ≡ true → (a ≡ true) × (b ≡ true)
both true b h = (refl, h)
both false b h = cc

-- as long as the format
pub length-has_format : (format text : List ℕ) → has_format format text ≡ true → length text ≡ length format
unfolding has_format
length-has_format [] [] h = refl
length-has_format [] (c ∷ text) h = cc
length-has_format (m ∷ format) [] h = cc
length-has_format (m ∷ format) (c ∷ text) h = ap suc (length-has_format format text (both _ _ h).1)

has_format-drop : (n : ℕ) (format text : List ℕ) → has_format format text ≡ true → has_format (drop n format) (drop n text) ≡ true
unfolding has_format
has_format-drop zero format text h = h
has_format-drop (suc n) [] [] h = refl
has_format-drop (suc n) [] (c ∷ text) h = cc
has_format-drop (suc n) (m ∷ format) [] h = cc
has_format-drop (suc n) (m ∷ format) (c ∷ text) h = has_format-drop n format text (both _ _ h).1

pub has_format-take : (n : ℕ) (format text : List ℕ) → has_format format text ≡ true → has_format (take n format) (take n text) ≡ true
unfolding has_format
has_format-take zero format text h = refl
has_format-take (suc n) [] [] h = refl
has_format-take (suc n) [] (c ∷ text) h = cc
has_format-take (suc n) (m ∷ format) [] h = cc
has_format-take (suc n) (m ∷ format) (c ∷ text) h =
    let parts = both (suits m c) (has_format format text) h in
    rw (parts.0, has_format-take n format text parts.1) refl

-- a part of the text has the same part of the format
pub has_format-slice_range : (format text : List ℕ) (from to : ℕ) → has_format format text ≡ true → has_format (slice_range format from to) (slice_range text from to) ≡ true
has_format-slice_range format text from to h =
    has_format-take (to - from) (drop from format) (drop from text) (has_format-drop from format text h)

digit_suits : (c : ℕ) → is_ascii_digit c ≡ true → digit_value c < 10
digit_suits c h = grind (arith, nat_tests)

-- where the format has nothing but `0`, the text has digits
digits_of_format : (format text : List ℕ) → list_all (λ m. nat_eq m 48) format ≡ true → has_format format text ≡ true → AllDigits 10 text
unfolding has_format
digits_of_format [] [] zeros h = tt
digits_of_format [] (c ∷ text) zeros h = cc
digits_of_format (m ∷ format) [] zeros h = cc
digits_of_format (m ∷ format) (c ∷ text) zeros h =
    let zero_first = both (nat_eq m 48) (list_all (λ m. nat_eq m 48) format) zeros in
    let parts = both (suits m c) (has_format format text) h in
    let digit : is_ascii_digit c ≡ true = rw zero_first.0 at parts.0 in
    (digit_suits c digit, digits_of_format format text zero_first.1 parts.1)

field_digits : (format text : List ℕ) (from to : ℕ) → list_all (λ m. nat_eq m 48) (slice_range format from to) ≡ true → has_format format text ≡ true → AllDigits 10 (slice_range text from to)
field_digits format text from to zeros h = digits_of_format _ _ zeros (has_format-slice_range format text from to h)

pub unequal_lengths : (format text : List ℕ) → length text ≢ length format → false ≡ has_format format text
unequal_lengths format text h = elim (has_format format text) as (λ v. has_format format text ≡ v → false ≡ v) [ true ↦ (λ e. absurd (h (length-has_format format text e))) | false ↦ (λ e. refl) ] refl

-- the fields of a date
pub long_date : (date : List ℕ) → has_format date_format date ≡ true → length date ≡ 10
long_date date h = length-has_format _ date h

pub year_digits : (date : List ℕ) → has_format date_format date ≡ true → AllDigits 10 (take 4 date)
year_digits date h = field_digits _ date 0 4 refl h

pub month_digits : (date : List ℕ) → has_format date_format date ≡ true → AllDigits 10 (take 2 (drop 5 date))
month_digits date h = field_digits _ date 5 7 refl h

pub day_digits : (date : List ℕ) → has_format date_format date ≡ true → AllDigits 10 (take 2 (drop 8 date))
day_digits date h = field_digits _ date 8 10 refl h

pub ruleset date_fields = (long_date, year_digits, month_digits, day_digits)

-- the fields of a time
pub long_time : (time : List ℕ) → has_format time_format time ≡ true → length time ≡ 8
long_time time h = length-has_format _ time h

pub hour_digits : (time : List ℕ) → has_format time_format time ≡ true → AllDigits 10 (take 2 time)
hour_digits time h = field_digits _ time 0 2 refl h

pub minute_digits : (time : List ℕ) → has_format time_format time ≡ true → AllDigits 10 (take 2 (drop 3 time))
minute_digits time h = field_digits _ time 3 5 refl h

pub second_digits : (time : List ℕ) → has_format time_format time ≡ true → AllDigits 10 (take 2 (drop 6 time))
second_digits time h = field_digits _ time 6 8 refl h

pub ruleset time_fields = (long_time, hour_digits, minute_digits, second_digits)

-- a text that has a time in it is long enough for it
pub long_enough : (text : List ℕ) → has_format time_format (take 8 (drop 11 text)) ≡ true → 19 ≤ length text
long_enough text h =
    omega (arith, length-has_format _ _ h, length-take 8 (drop 11 text), length-drop 11 text)

-- the date, the time and the fraction in the two longer forms
pub second_date : (text : List ℕ) → has_format second_format text ≡ true → has_format date_format (take 10 text) ≡ true
second_date text h = has_format-slice_range _ text 0 10 h

pub second_time : (text : List ℕ) → has_format second_format text ≡ true → has_format time_format (take 8 (drop 11 text)) ≡ true
second_time text h = has_format-slice_range _ text 11 19 h

pub long_milli : (text : List ℕ) → has_format milli_format text ≡ true → length text ≡ 24
long_milli text h = length-has_format _ text h

pub milli_date : (text : List ℕ) → has_format milli_format text ≡ true → has_format date_format (take 10 text) ≡ true
milli_date text h = has_format-slice_range _ text 0 10 h

pub milli_time : (text : List ℕ) → has_format milli_format text ≡ true → has_format time_format (take 8 (drop 11 text)) ≡ true
milli_time text h = has_format-slice_range _ text 11 19 h

pub milli_digits : (text : List ℕ) → has_format milli_format text ≡ true → AllDigits 10 (take 3 (drop 20 text))
milli_digits text h = field_digits _ text 20 23 refl h
