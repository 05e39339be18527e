use Rattle.std.proofs.Common.{sym, ◌∙◌, ap, FitsSigned, w32, rules}
use Rattle.std.specs.Prelude.{Some}
use Rattle.std.proofs.lemmas.Int.{to_z-of_z}
use Rattle.date_fields.proofs.Dates.{day_number_of_date, at_some}
use Rattle.date_fields.proofs.date_text.day_number.Goals as goal

pub returns-clause-value : goal.returns-clause-value
returns-clause-value c =
    let date = c.in_ok-date.date in
    let parts = at_some _ _ date c.in_ok-date.ensures.value c.new.ensures.value in
    let day = rw c.to_plain.ensures at c.to_unix_epoch_day.ensures.value in
    let fits : FitsSigned w32 c.to_unix_epoch_day.result = search rules in
    ap Some (to_z-of_z w32 _ fits ∙ day)
    ∙ sym (day_number_of_date _ _ _ date.year date.month date.day c.requires.year c.requires.month c.requires.day parts.0 parts.1 parts.2 date.month_in date.day_in)
