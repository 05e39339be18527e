use Rattle.std.proofs.Common.{ℕ, ◌<◌, Bool, List, get_or}
use Rattle.segment_fits.specs.Tested.{IsTextColumn}
use Rattle.segment_fits.proofs.columns.are_texts_shown.Given as goal

abbrev pub invariant-columns : goal.invariant-columns
invariant-columns l = (k : ℕ) (d : ℕ × List Bool) → k < l.field-index → IsTextColumn l.ground.mapping.now l.ground.standings.now (get_or l.field-items k d)
