-- What an empty file holds once a header was written.
use Rattle.std.proofs.Common.{◌≡◌, ℕ, ◌+◌, false, List, [], ◌∷◌, ◌++◌, length, Option, Some, refl, ◌∙◌, ap, subst, arith}
use Rattle.std.proofs.Math.Seq.{drop-nil}
use Rattle.std.proofs.lemmas.List.{append-nil}
use Rattle.disk.specs.Memory.{written}
use Rattle.disk.specs.Stops.{TakesAll}
use Rattle.commit_images.specs.Commits.{IsBlank}
use Rattle.store_text.specs.Header.{header_size, is_open, magic}
use Rattle.store_text.specs.Pieces.{Stands}
use Rattle.store_text.specs.declared.header.Side.{Side}
use Rattle.store_text.specs.declared.header.Side.TheVariants.{A, B}

-- bytes that are written into an empty file are all of it
written_empty : (bytes : List ℕ) → written 0 bytes [] ≡ bytes
written_empty [] = refl
written_empty (byte ∷ bytes) = ap (λ (rest : List ℕ). (byte ∷ bytes) ++ rest) (drop-nil (0 + length (byte ∷ bytes))) ∙ append-nil (byte ∷ bytes)

-- what an empty file holds once a header with both gates closed was written
pub blank_written : (header : List ℕ) (old mid new : Option (List ℕ)) → length header ≡ header_size → Stands header magic → ((side : Side) → is_open side header ≡ false)
    → TakesAll 0 header old mid → new ≡ mid → old ≡ Some [] → (file : List ℕ) × (new ≡ Some file) × IsBlank file
blank_written header old mid new long stands shut takes same empty = (
  header,
  same ∙ (subst (λ (content : Option (List ℕ)). TakesAll 0 header content mid) empty takes ∙ ap (λ (file : List ℕ). Some file) (written_empty header)),
  record { long = omega (arith, long); stands = stands; a_closed = shut A; b_closed = shut B },
)
