use Rattle.std.proofs.Common.{◌≡◌, ◌+◌, ◌<◌, ◌<ℤ◌, ◌+ℤ◌, sym, ap, ◌∙◌, FitsSigned, w64, to_z, of_z, pos, negsuc, rules, arith}
use Rattle.std.specs.Prelude.{Some}
use Rattle.std.specs.Int.{int_div_euclid}
use Rattle.std.proofs.lemmas.Int.{to_z-of_z}
use Rattle.jiff_core.proofs.SignedLemmas.{signed_arith}
use Rattle.calendar_intervals.specs.Starts.{IsNumberOf, first_day_of, how_many}
use Rattle.calendar_intervals.proofs.Ordinals.{IsOrdinalOf, of_day, as_next, before_all, behind_all, some_known, first_start_is, last_one, not_last}
use Rattle.calendar_intervals.proofs.InOrder.{among, next_is, next_is_first, no_next, least, upto_found}
use Rattle.calendar_intervals.proofs.interval.next.Goals as goal

low : (c : goal.Then-day-lt-FIRST_DAY) → int_div_euclid c.args.millis (pos 86_400_000) <ℤ negsuc 719_527
low c =
    let fits : FitsSigned w64 c.div_euclid-day.result = search rules in
    let is : c.div_euclid-day.result ≡ int_div_euclid c.args.millis (pos 86_400_000) = rw (to_z-of_z w64 c.args.millis c.ranges.millis) at c.div_euclid-day.ensures in
    omega (arith, signed_arith, is, rw (to_z-of_z w64 _ fits) at c.if-day-lt-FIRST_DAY.true)

pub returns-then-day-lt-FIRST_DAY-clause-value : goal.returns-then-day-lt-FIRST_DAY-clause-value
returns-then-day-lt-FIRST_DAY-clause-value c =
    ap Some (sym (first_start_is c.args.interval))
    ∙ sym (next_is_first c.args.interval c.args.millis (some_known c.args.interval) (before_all c.args.interval c.args.millis (low c) 0 (some_known c.args.interval)))

pub returns-then-day-lt-FIRST_DAY-clause-begins : goal.returns-then-day-lt-FIRST_DAY-clause-begins
returns-then-day-lt-FIRST_DAY-clause-begins c =
    rw (← first_start_is c.args.interval)
    (among c.args.interval 0 (some_known c.args.interval), before_all c.args.interval c.args.millis (low c) 0 (some_known c.args.interval))

pub returns-then-day-lt-FIRST_DAY-clause-least : goal.returns-then-day-lt-FIRST_DAY-clause-least
returns-then-day-lt-FIRST_DAY-clause-least c =
    rw (← first_start_is c.args.interval)
    (least c.args.interval c.args.millis 0 (some_known c.args.interval) (λ j lt. absurd (omega arith)))

pub returns-then-day-gt-LAST_DAY-clause-value : goal.returns-then-day-gt-LAST_DAY-clause-value
returns-then-day-gt-LAST_DAY-clause-value c =
    let fits : FitsSigned w64 c.div_euclid-day.result = search rules in
    let is : c.div_euclid-day.result ≡ int_div_euclid c.args.millis (pos 86_400_000) = rw (to_z-of_z w64 c.args.millis c.ranges.millis) at c.div_euclid-day.ensures in
    let high : pos 2_932_896 <ℤ int_div_euclid c.args.millis (pos 86_400_000) = omega (arith, signed_arith, is, rw (to_z-of_z w64 _ fits) at c.if-day-gt-LAST_DAY.true) in
    sym (no_next c.args.interval c.args.millis (behind_all c.args.interval c.args.millis high))

pub returns-then-last-eq-LAST_DAY-clause-value : goal.returns-then-last-eq-LAST_DAY-clause-value
returns-then-last-eq-LAST_DAY-clause-value c =
    let k = c.last_day-last.ensures.0 in
    let fits : FitsSigned w64 c.div_euclid-day.result = search rules in
    let last_fits : FitsSigned w64 c.last_day-last.result = search rules in
    let is : c.div_euclid-day.result ≡ int_div_euclid c.args.millis (pos 86_400_000) = rw (to_z-of_z w64 c.args.millis c.ranges.millis) at c.div_euclid-day.ensures in
    let number : IsNumberOf c.args.interval c.div_euclid-day.result k = rw (to_z-of_z w64 c.div_euclid-day.result fits) at c.last_day-last.ensures.1 in
    let found : IsOrdinalOf c.args.interval c.args.millis k = of_day c.args.interval c.args.millis k (rw is at number) in
    let day : c.last_day-last.result ≡ pos 2_932_896 = sym (to_z-of_z w64 c.last_day-last.result last_fits) ∙ ap (to_z w64) c.if-last-eq-LAST_DAY.true in
    let last : first_day_of c.args.interval (k + 1) ≡ pos 2_932_897 = sym c.last_day-last.ensures.2 ∙ ap (λ z. z +ℤ pos 1) day in
    let ends : k + 1 ≡ how_many c.args.interval = last_one c.args.interval k found.known last in
    sym (no_next c.args.interval c.args.millis (λ j lt. upto_found c.args.interval c.args.millis k j found (omega arith)))

found : (c : goal.Else-last-eq-LAST_DAY) → IsOrdinalOf c.args.interval c.args.millis c.last_day-last.ensures.0
found c =
    let k = c.last_day-last.ensures.0 in
    let fits : FitsSigned w64 c.div_euclid-day.result = search rules in
    let is : c.div_euclid-day.result ≡ int_div_euclid c.args.millis (pos 86_400_000) = rw (to_z-of_z w64 c.args.millis c.ranges.millis) at c.div_euclid-day.ensures in
    let number : IsNumberOf c.args.interval c.div_euclid-day.result k = rw (to_z-of_z w64 c.div_euclid-day.result fits) at c.last_day-last.ensures.1 in
    of_day c.args.interval c.args.millis k (rw is at number)

more : (c : goal.Else-last-eq-LAST_DAY) → c.last_day-last.ensures.0 + 1 < how_many c.args.interval
more c =
    let k = c.last_day-last.ensures.0 in
    not_last c.args.interval k (found c).known
    (λ e. let day : c.last_day-last.result ≡ pos 2_932_896 = omega (arith, signed_arith, c.last_day-last.ensures.2, e) in
    c.if-last-eq-LAST_DAY.false (ap (of_z w64) day))

pub overflow_add-result : goal.overflow_add-result
overflow_add-result c =
    let last_fits : FitsSigned w64 c.last_day-last.result = search rules in
    (as_next c.args.interval (c.last_day-last.ensures.0 + 1) c.last_day-last.result last_fits (more c) c.last_day-last.ensures.2).0

pub overflow_mul-result-2 : goal.overflow_mul-result-2
overflow_mul-result-2 c =
    let last_fits : FitsSigned w64 c.last_day-last.result = search rules in
    (as_next c.args.interval (c.last_day-last.ensures.0 + 1) c.last_day-last.result last_fits (more c) c.last_day-last.ensures.2).1

pub returns-clause-value : goal.returns-clause-value
returns-clause-value c =
    let last_fits : FitsSigned w64 c.last_day-last.result = search rules in
    ap Some (as_next c.args.interval (c.last_day-last.ensures.0 + 1) c.last_day-last.result last_fits (more c) c.last_day-last.ensures.2).2
    ∙ sym (next_is c.args.interval c.args.millis c.last_day-last.ensures.0 (found c) (more c))

pub returns-clause-begins : goal.returns-clause-begins
returns-clause-begins c =
    let last_fits : FitsSigned w64 c.last_day-last.result = search rules in
    rw ((as_next c.args.interval (c.last_day-last.ensures.0 + 1) c.last_day-last.result last_fits (more c) c.last_day-last.ensures.2).2)
    (among c.args.interval (c.last_day-last.ensures.0 + 1) (more c), (found c).before)

pub returns-clause-least : goal.returns-clause-least
returns-clause-least c =
    let last_fits : FitsSigned w64 c.last_day-last.result = search rules in
    rw ((as_next c.args.interval (c.last_day-last.ensures.0 + 1) c.last_day-last.result last_fits (more c) c.last_day-last.ensures.2).2)
    (least c.args.interval c.args.millis (c.last_day-last.ensures.0 + 1) (more c) (λ j lt. upto_found c.args.interval c.args.millis c.last_day-last.ensures.0 j (found c) (omega arith)))
