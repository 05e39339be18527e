use Rattle.std.proofs.Common.{◌≡◌, ℕ, List, ◌<◌, slice_get, Some}
use Rattle.segment_parts.specs.Agree.{IsTermAt}
use Rattle.segment_parts.specs.Lists.{terms_of}
use Rattle.segment.proofs.agree_terms.are_terms.Given as goal

abbrev pub invariant-ordinals : goal.invariant-ordinals
invariant-ordinals l = (ordinal : ℕ) (term : ℕ × List ℕ) → ordinal < l.ordinal → slice_get (terms_of l.parts) ordinal ≡ Some term → IsTermAt l.parts ordinal term
