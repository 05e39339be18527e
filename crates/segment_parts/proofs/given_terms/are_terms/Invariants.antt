use Rattle.std.proofs.Common.{◌≡◌, ℕ, List, ◌<◌, slice_get, Some}
use Rattle.segment_parts.specs.Agree.{IsTermAt}
use Rattle.segment_parts.specs.Lists.{terms_of}
use Rattle.segment_parts.proofs.given_terms.are_terms.Given as goal

abbrev pub invariant-terms : goal.invariant-terms
invariant-terms l = (ordinal : ℕ) (term : ℕ × List ℕ) → ordinal < l.ordinal → slice_get (terms_of l.columns) ordinal ≡ Some term → IsTermAt l.columns ordinal term
