use Rattle.std.proofs.Common.{◌≡◌, ◌<ℤ◌, sym, ap, ◌∙◌, FitsSigned, w64, pos, negsuc, rules, arith}
use Rattle.std.specs.Prelude.{Some}
use Rattle.std.specs.Int.{int_div_euclid}
use Rattle.std.proofs.lemmas.Int.{to_z-of_z}
use Rattle.jiff_core.proofs.SignedLemmas.{signed_arith}
use Rattle.calendar_intervals.specs.Starts.{IsNumberOf, years_end}
use Rattle.calendar_intervals.proofs.Ordinals.{IsOrdinalOf, of_day, as_start, before_all, behind_years, within_years}
use Rattle.calendar_intervals.proofs.InOrder.{among, start_is, no_start_before, no_start_behind, greatest}
use Rattle.calendar_intervals.proofs.interval.start.Goals as goal
use Rattle.calendar_intervals.proofs.interval.start.Goals.{then-day-lt-FIRST_DAY-via-then-day-lt-FIRST_DAY, then-day-lt-FIRST_DAY-via-else-day-lt-FIRST_DAY+then-day-gt-LAST_DAY}

pub returns-then-day-lt-FIRST_DAY-clause-value : goal.returns-then-day-lt-FIRST_DAY-clause-value
returns-then-day-lt-FIRST_DAY-clause-value c =
    let fits : FitsSigned w64 c.div_euclid-day.result = search rules in
    let is : c.div_euclid-day.result ≡ int_div_euclid c.args.millis (pos 86_400_000) = rw (to_z-of_z w64 c.args.millis c.ranges.millis) at c.div_euclid-day.ensures in
    elim c.then-day-lt-FIRST_DAY.branch [
      | then-day-lt-FIRST_DAY-via-then-day-lt-FIRST_DAY w ↦
          let low : int_div_euclid c.args.millis (pos 86_400_000) <ℤ negsuc 719_527 = omega (arith, signed_arith, is, rw (to_z-of_z w64 _ fits) at w.if-day-lt-FIRST_DAY.true) in
          sym (no_start_before c.args.interval c.args.millis (before_all c.args.interval c.args.millis low))
      | then-day-lt-FIRST_DAY-via-else-day-lt-FIRST_DAY+then-day-gt-LAST_DAY w ↦
          let high : pos 2_932_896 <ℤ int_div_euclid c.args.millis (pos 86_400_000) = omega (arith, signed_arith, is, rw (to_z-of_z w64 _ fits) at w.if-day-gt-LAST_DAY.true) in
          sym (no_start_behind c.args.interval c.args.millis (behind_years c.args.millis high))
    ]

ordinal : (c : goal.After-first_day) → IsOrdinalOf c.args.interval c.args.millis c.first_day.ensures.0
ordinal c =
    let fits : FitsSigned w64 c.div_euclid-day.result = search rules in
    let is : c.div_euclid-day.result ≡ int_div_euclid c.args.millis (pos 86_400_000) = rw (to_z-of_z w64 c.args.millis c.ranges.millis) at c.div_euclid-day.ensures in
    let number : IsNumberOf c.args.interval c.div_euclid-day.result c.first_day.ensures.0 = rw (to_z-of_z w64 c.div_euclid-day.result fits) at c.first_day.ensures.1 in
    of_day c.args.interval c.args.millis c.first_day.ensures.0 (rw is at number)

within : (c : goal.After-first_day) → c.args.millis <ℤ years_end
within c =
    let fits : FitsSigned w64 c.div_euclid-day.result = search rules in
    let is : c.div_euclid-day.result ≡ int_div_euclid c.args.millis (pos 86_400_000) = rw (to_z-of_z w64 c.args.millis c.ranges.millis) at c.div_euclid-day.ensures in
    within_years c.args.millis (omega (arith, signed_arith, is, rw (to_z-of_z w64 _ fits) at c.if-day-gt-LAST_DAY.false))

pub overflow_mul-result : goal.overflow_mul-result
overflow_mul-result c =
    (as_start c.args.interval c.first_day.ensures.0 c.first_day.result (ordinal c).known c.first_day.ensures.2).0

pub returns-clause-value : goal.returns-clause-value
returns-clause-value c =
    ap Some (as_start c.args.interval c.first_day.ensures.0 c.first_day.result (ordinal c).known c.first_day.ensures.2).1
    ∙ sym (start_is c.args.interval c.args.millis c.first_day.ensures.0 (ordinal c) (within c))

pub returns-clause-begins : goal.returns-clause-begins
returns-clause-begins c =
    rw ((as_start c.args.interval c.first_day.ensures.0 c.first_day.result (ordinal c).known c.first_day.ensures.2).1)
    (among c.args.interval c.first_day.ensures.0 (ordinal c).known, (ordinal c).from)

pub returns-clause-greatest : goal.returns-clause-greatest
returns-clause-greatest c =
    rw ((as_start c.args.interval c.first_day.ensures.0 c.first_day.result (ordinal c).known c.first_day.ensures.2).1)
    (greatest c.args.interval c.args.millis c.first_day.ensures.0 (ordinal c))
