use Rattle.std.proofs.Common.{ℕ, ◌<◌, List, get_or, ℤ}
use Rattle.segment_fits.specs.Tested.{IsValueColumn}
use Rattle.segment_fits.specs.declared.form.Form.TheVariants.{Numbers}
use Rattle.segment_fits.proofs.columns.are_numbers_shown.Given as goal

abbrev pub invariant-columns : goal.invariant-columns
invariant-columns l = (k : ℕ) (d : ℕ × List (ℕ × List ℤ)) → k < l.at → IsValueColumn l.ground.mapping.now l.ground.standings.now Numbers (get_or l.segment.numbers k d)
