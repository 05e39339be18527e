-- Extents that stand in order begin one behind the other, and their gaps end so.
use Rattle.std.proofs.Common.{◌≡◌, ℕ, zero, suc, ◌+◌, ◌-◌, ◌≤◌, true, false, nat_lt, List, [], ◌∷◌, length, arith}
use Rattle.std.specs.List.{AllAdjacentBelow}
use Rattle.std.specs.List.Sorted.{IsNonDecreasingBy}
use Rattle.std.proofs.lemmas.List.Sorted.{IsNonDecreasingBy-from_all_adjacent}
use Rattle.extent_pool.specs.declared.extent.Extent.{Extent}
use Rattle.extent_pool.specs.Extents.{end_of}
use Rattle.extent_pool.specs.Gaps.{AreLaid, gaps}
use Rattle.extent_pool.proofs.Laid.{split}

-- the numbers of the extents rise, from one that is given
abbrev Rises : (Extent → ℕ) → ℕ → List Extent → Type 0
Rises f low [] = Unit {0}
Rises f low (e ∷ es) = (low ≤ f e) × Rises f (f e) es

adjacent : (f : Extent → ℕ) (low : ℕ) (es : List Extent) → Rises f low es → AllAdjacentBelow (λ x y. f x ≤ f y) es (length es)
adjacent f low [] rises k d h = absurd (omega arith)
adjacent f low (x ∷ []) rises k d h = absurd (omega arith)
adjacent f low (x ∷ y ∷ ys) rises zero d h = rises.1.0
adjacent f low (x ∷ y ∷ ys) rises (suc k) d h =
    let next : suc k + 1 ≡ suc (k + 1) = omega arith in
    rw next (adjacent f (f x) (y ∷ ys) rises.1 k d (omega arith))

rising : (f : Extent → ℕ) (low : ℕ) (es : List Extent) → Rises f low es → IsNonDecreasingBy f es
rising f low es rises = IsNonDecreasingBy-from_all_adjacent f es (adjacent f low es rises)

places_rise : (es : List Extent) (low from end : ℕ) → AreLaid from es end → low ≤ from → Rises (λ e. e.at) low es
places_rise [] low from end laid h = tt
places_rise (e ∷ es) low from end laid h = (omega arith, places_rise es e.at (end_of e) end laid.3 (omega arith))

pub begin_in_order : (es : List Extent) (end : ℕ) → AreLaid 0 es end → IsNonDecreasingBy (λ e. e.at) es
begin_in_order es end laid = rising (λ e. e.at) 0 es (places_rise es 0 0 end laid (omega arith))

ends_rise : (es : List Extent) (low from end : ℕ) → AreLaid from es end → low ≤ from → Rises (λ h. h.at + h.len) low (gaps from es end)
ends_rise [] low from end laid h =
    split (nat_lt from end)
    (λ (some : nat_lt from end ≡ true). rw some (omega arith, tt))
    (λ (none : nat_lt from end ≡ false). rw none tt)
ends_rise (e ∷ es) low from end laid h =
    split (nat_lt from e.at)
    (λ (some : nat_lt from e.at ≡ true). rw some (omega arith, ends_rise es (from + (e.at - from)) (end_of e) end laid.3 (omega arith)))
    (λ (none : nat_lt from e.at ≡ false). rw none (ends_rise es low (end_of e) end laid.3 (omega arith)))

pub end_in_order : (es : List Extent) (end : ℕ) → AreLaid 0 es end → IsNonDecreasingBy (λ h. h.at + h.len) (gaps 0 es end)
end_in_order es end laid = rising (λ h. h.at + h.len) 0 (gaps 0 es end) (ends_rise es 0 0 end laid (omega arith))
