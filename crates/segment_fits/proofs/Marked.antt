-- Flags, and what is counted of them.
use Rattle.std.proofs.Common.{◌≡◌, ℕ, zero, suc, ◌+◌, ◌<◌, ◌≤◌, Bool, true, false, List, [], ◌∷◌, length, map, take, get_or, if◌then◌else◌, refl, ap, ◌∙◌, arith}
use Rattle.std.specs.Prelude.{count_by}
use Rattle.block_bits.specs.Flags.{is_marked}
use Rattle.flattener.specs.Fits.{is_root}
use Rattle.mapping_body.proofs.Walks.{split}
use Rattle.segment.specs.Flat.{FlatDocument}
use Rattle.segment_parts.specs.Marks.{count-mark}
use Rattle.segment_fits.proofs.Under.{root_count, roots_before}

-- some flag is set
pub marked_some : (flags : List Bool) → 1 ≤ count_by is_marked flags → (doc : ℕ) × (doc < length flags) × (get_or flags doc false ≡ true)
marked_some [] some = absurd (omega (arith, some, none_marked))
  where
    none_marked : count_by is_marked [] ≡ 0
    none_marked = refl
marked_some (true ∷ flags) some = (0, omega arith, refl)
marked_some (false ∷ flags) some =
    let rest = marked_some flags (omega (arith, some, count-mark false flags)) in (suc rest.0, omega (arith, rest.1), rest.2)

pub count_is : (flats : List FlatDocument) → count_by is_marked (map is_root flats) ≡ root_count flats
count_is [] = refl
count_is (flat ∷ flats) =
    split (is_root flat)
    (λ is. rw is (count-mark true (map is_root flats) ∙ (let more : 1 + count_by is_marked (map is_root flats) ≡ suc (root_count flats) = omega (arith, count_is flats) in more)))
    (λ isnt. rw isnt (count-mark false (map is_root flats) ∙ (let same : 0 + count_by is_marked (map is_root flats) ≡ root_count flats = omega (arith, count_is flats) in same)))

pub before_is : (doc : ℕ) (flats : List FlatDocument) → count_by is_marked (take doc (map is_root flats)) ≡ roots_before doc flats
before_is zero [] = refl
before_is zero (flat ∷ flats) = refl
before_is (suc doc) [] = refl
before_is (suc doc) (flat ∷ flats) =
    count-mark (is_root flat) (take doc (map is_root flats)) ∙ ap (λ n. (if is_root flat then 1 else 0) + n) (before_is doc flats)
