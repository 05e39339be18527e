use Rattle.std.proofs.Common.{◌∙◌, FitsSigned, w64, rules}
use Rattle.std.proofs.lemmas.Int.{to_z-of_z}
use Rattle.calendar_intervals.proofs.Ordinals.{first_of_day, first_of_month, first_of_year}
use Rattle.calendar_intervals.proofs.interval.first_day.Goals as goal

pub returns-in-Day : goal.returns-in-Day
returns-in-Day c = rw (c.in-Day.is, to_z-of_z w64 c.args.day c.ranges.day) (first_of_day c.args.day c.requires)

pub returns-in-Month : goal.returns-in-Month
returns-in-Month c =
    let fits : FitsSigned w64 c.number_of.result = search rules in
    rw (c.in-Month.is, to_z-of_z w64 c.number_of.result fits, c.number_of.ensures)
    (first_of_month c.args.day c.date_of.result c.first_of_month.result c.requires (c.date_of.ensures ∙ to_z-of_z w64 c.args.day c.ranges.day) c.first_of_month.ensures)

pub returns-in-Year : goal.returns-in-Year
returns-in-Year c =
    let fits : FitsSigned w64 c.number_of-in-Year.result = search rules in
    rw (c.in-Year.is, to_z-of_z w64 c.number_of-in-Year.result fits, c.number_of-in-Year.ensures)
    (first_of_year c.args.day c.date_of-in-Year.result c.first_of_year.result c.requires (c.date_of-in-Year.ensures ∙ to_z-of_z w64 c.args.day c.ranges.day) c.first_of_year.ensures)
