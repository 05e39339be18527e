use Rattle.std.proofs.Common.{ℕ, ◌<◌, ◌≤◌, get_or}
use Rattle.mapping.specs.Mapping.{scope_at}
use Rattle.segment_fits.specs.declared.standing.Standing.{Standing}
use Rattle.segment_fits.proofs.known.are_scopes_known.Given as goal

abbrev pub invariant-documents : goal.invariant-documents
invariant-documents l = (k : ℕ) (d : Standing) → k < l.it-index → (scope_at l.mapping (get_or l.standings k d).scope).since ≤ (get_or l.standings k d).generation
