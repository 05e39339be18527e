-- A term that stands at a place.
use Rattle.std.proofs.Common.{◌≡◌, ℕ, List, [], Some, slice_get, ap}
use Rattle.std.proofs.lemmas.Option.{get_or_from_slice_get}
use Rattle.segment.specs.Flat.{bytes_at}

-- the bytes of the term at a place
pub bytes_from : (terms : List (ℕ × List ℕ)) (at field : ℕ) (bytes : List ℕ) → slice_get terms at ≡ Some (field, bytes) → bytes_at terms at ≡ bytes
bytes_from terms at field bytes is = ap (λ (term : ℕ × List ℕ). term.1) (get_or_from_slice_get terms at (field, bytes) (0, []) is)
