-- The join field among the fields.
use Rattle.std.proofs.Common.{◌≡◌, ℕ, zero, suc, ◌+◌, ◌<◌, ◌≤◌, ◌&&◌, true, false, List, [], ◌∷◌, length, drop, refl, ap, ◌∙◌, arith, Option, Some, None, get_or, nat_le, find}
use Rattle.mapping_body.specs.Body.{is_join}
use Rattle.mapping.specs.Mapping.{Mapping, Field, field_at, no_field, kind_at, knows}

-- the join field from a number on
abbrev pub among : ℕ → List Field → Option Field
among g fs = find (λ f. is_join f.kind && nat_le f.since g) fs

abbrev pub field_from : Mapping → ℕ → ℕ → Option Field
field_from m g at = among g (drop at m.fields)

drop_at : (fs : List Field) (at : ℕ) → at < length fs → drop at fs ≡ get_or fs at no_field ∷ drop (at + 1) fs
drop_at [] at h = absurd (omega (arith, h))
drop_at (f ∷ fs) zero h = refl
drop_at (f ∷ fs) (suc at) h = let less : at < length fs = omega (arith, h) in let next : suc at + 1 ≡ suc (at + 1) = omega arith in rw next (drop_at fs at less)

drop_past : (fs : List Field) (at : ℕ) → length fs ≤ at → drop at fs ≡ []
drop_past [] zero h = refl
drop_past [] (suc at) h = refl
drop_past (f ∷ fs) zero h = absurd (omega (arith, h))
drop_past (f ∷ fs) (suc at) h = let less : length fs ≤ at = omega (arith, h) in drop_past fs at less

pub field_found : (m : Mapping) (g at : ℕ) → at < length m.fields → (is_join (kind_at m at) && knows m g at) ≡ true → field_from m g at ≡ Some (field_at m at)
field_found m g at h is = ap (among g) (drop_at m.fields at h) ∙ rw is refl

pub field_passed : (m : Mapping) (g at : ℕ) → at < length m.fields → (is_join (kind_at m at) && knows m g at) ≡ false → field_from m g at ≡ field_from m g (at + 1)
field_passed m g at h isnt = ap (among g) (drop_at m.fields at h) ∙ rw isnt refl

pub field_none : (m : Mapping) (g at : ℕ) → length m.fields ≤ at → field_from m g at ≡ None
field_none m g at h = ap (among g) (drop_past m.fields at h)

pub ruleset joins = (field_found, field_passed, field_none)
