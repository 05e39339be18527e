use Rattle.std.proofs.Common.{ℕ, ◌<◌, List, get_or}
use Rattle.segment_fits.specs.Tested.{IsValueColumn}
use Rattle.segment_fits.specs.declared.form.Form.TheVariants.{Keywords}
use Rattle.segment_fits.proofs.columns.are_keywords_shown.Given as goal

abbrev pub invariant-columns : goal.invariant-columns
invariant-columns l = (k : ℕ) (d : ℕ × List (ℕ × List ℕ)) → k < l.at → IsValueColumn l.ground.mapping.now l.ground.standings.now Keywords (get_or l.segment.ordinals k d)
