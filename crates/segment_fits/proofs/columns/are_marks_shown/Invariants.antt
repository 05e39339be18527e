use Rattle.std.proofs.Common.{◌≡◌, ℕ, ◌-◌, ◌<◌, true, false, length, get_or}
use Rattle.segment_fits.specs.Tested.{standing_at, IsShownTo}
use Rattle.segment_fits.proofs.columns.are_marks_shown.Given as goal

abbrev pub invariant-documents : goal.invariant-documents
invariant-documents l = (doc : ℕ) → doc < l.from → get_or l.set doc false ≡ true → IsShownTo l.shown.mapping.now l.shown.field (standing_at l.standings doc)

abbrev pub decreases-documents : goal.decreases-documents
decreases-documents l = length l.set - l.from
