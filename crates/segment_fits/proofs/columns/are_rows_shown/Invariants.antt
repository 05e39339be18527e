use Rattle.std.proofs.Common.{ℕ, ◌<◌, get_or}
use Rattle.doc_values.specs.Values.{documents}
use Rattle.segment_fits.specs.Tested.{standing_at, IsShownTo}
use Rattle.segment_fits.proofs.columns.are_rows_shown.Given as goal

abbrev pub invariant-rows : goal.invariant-rows
invariant-rows g l = (row : ℕ) → row < l.row → IsShownTo l.shown.mapping.now l.shown.field (standing_at l.standings (get_or (documents l.column) row 0))
