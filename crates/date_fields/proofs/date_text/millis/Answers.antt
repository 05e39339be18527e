use Rattle.std.proofs.Common.{rules, sym, ◌∙◌}
use Rattle.date_fields.proofs.Formats.{second_date, second_time, long_milli, milli_date, milli_time, milli_digits}
use Rattle.date_fields.proofs.Moments.{moment_of_date, moment_of_second, moment_of_milli, moment_of_none}
use Rattle.date_fields.proofs.date_text.millis.Goals as goal

pub moment_at-requires-clause-date : goal.moment_at-requires-clause-date
moment_at-requires-clause-date c = second_date _ (sym c.if-has_format-2.ensures)

pub moment_at-requires-clause-time : goal.moment_at-requires-clause-time
moment_at-requires-clause-time c = second_time _ (sym c.if-has_format-2.ensures)

pub slice_bounds-number-end : goal.slice_bounds-number-end
slice_bounds-number-end c = let long = long_milli _ (sym c.if-has_format-3.ensures) in search rules

pub number-requires-clause-digits : goal.number-requires-clause-digits
number-requires-clause-digits c = milli_digits _ (sym c.if-has_format-3.ensures)

pub moment_at-requires-then-has_format-3-clause-date :
    goal.moment_at-requires-then-has_format-3-clause-date
moment_at-requires-then-has_format-3-clause-date c = milli_date _ (sym c.if-has_format-3.ensures)

pub moment_at-requires-then-has_format-3-clause-time :
    goal.moment_at-requires-then-has_format-3-clause-time
moment_at-requires-then-has_format-3-clause-time c = milli_time _ (sym c.if-has_format-3.ensures)

pub returns-then-has_format : goal.returns-then-has_format
returns-then-has_format c =
    rw (← c.as_bytes-text.ensures.value) (c.midnight.ensures.value ∙ sym (moment_of_date _ (sym c.if-has_format.ensures)))

pub returns-then-has_format-2 : goal.returns-then-has_format-2
returns-then-has_format-2 c =
    rw (← c.as_bytes-text.ensures.value)
    (c.moment_at.ensures ∙ sym (moment_of_second _ (sym c.if-has_format.ensures) (sym c.if-has_format-2.ensures)))

pub returns-then-has_format-3 : goal.returns-then-has_format-3
returns-then-has_format-3 c =
    let fraction = c.number.ensures.value in
    rw (← c.as_bytes-text.ensures.value)
    (rw fraction at c.moment_at-then-has_format-3.ensures
    ∙ sym (moment_of_milli _ (sym c.if-has_format.ensures) (sym c.if-has_format-2.ensures) (sym c.if-has_format-3.ensures)))

pub returns-else-has_format-3 : goal.returns-else-has_format-3
returns-else-has_format-3 c =
    rw (← c.as_bytes-text.ensures.value)
    (sym (moment_of_none _ (sym c.if-has_format.ensures) (sym c.if-has_format-2.ensures) (sym c.if-has_format-3.ensures)))
