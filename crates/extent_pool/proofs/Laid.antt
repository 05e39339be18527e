-- What follows for extents that stand in order.
use Rattle.std.proofs.Common.{◌≡◌, ℕ, zero, suc, ◌+◌, ◌/◌, ◌%◌, ◌<◌, ◌≤◌, Bool, true, false, cond, List, [], ◌∷◌, length, length-append, map, refl, arith}
use Rattle.std.specs.List.{All, count_by}
use Rattle.std.specs.List.Sorted.{IsStrictlyIncreasing}
use Rattle.std.proofs.lemmas.List.Elements.{All-nil, All-cons}
use Rattle.std.proofs.lemmas.List.Sums.{sum_by-cons}
use Rattle.extent_pool.specs.declared.extent.TheConstants.{UNIT}
use Rattle.extent_pool.specs.declared.extent.Extent.{Extent}
use Rattle.extent_pool.specs.Extents.{end_of, keeps, AreDisjoint, AreInOrder}
use Rattle.extent_pool.specs.Holes.{holes_of}
use Rattle.extent_pool.specs.Gaps.{AreLaid, gap, gaps, whole}
use Rattle.extent_pool.proofs.Units.{runs_are_gaps, laid_order}

pub holes_are_gaps : (limit : ℕ) (taken : List Extent) → AreLaid 0 taken (whole limit) → holes_of limit taken ≡ gaps 0 taken (whole limit)
unfolding holes_of
holes_are_gaps limit taken laid = runs_are_gaps taken 0 (limit / UNIT) (whole limit) (omega arith) laid

-- how many of the extents keep a byte
pub keepers-cons : (byte : ℕ) (e : Extent) (es : List Extent) → count_by (keeps byte) (e ∷ es) ≡ cond (keeps byte e) 1 0 + count_by (keeps byte) es
keepers-cons byte e es = sum_by-cons (λ x. cond (keeps byte x) 1 0) e es

none_before : (es : List Extent) (from end byte : ℕ) → AreLaid from es end → byte < from → count_by (keeps byte) es ≡ 0
none_before [] from end byte laid h = refl
none_before (e ∷ es) from end byte laid h = rw (keepers-cons byte e es) (grind (arith, none_before es (end_of e) end byte laid.3))

one_keeper : (es : List Extent) (from end byte : ℕ) → AreLaid from es end → count_by (keeps byte) es ≤ 1
one_keeper [] from end byte laid = omega arith
one_keeper (e ∷ es) from end byte laid = rw (keepers-cons byte e es) (grind (arith, one_keeper es (end_of e) end byte laid.3, none_before es (end_of e) end byte laid.3))

pub disjoint : (es : List Extent) (from end : ℕ) → AreLaid from es end → AreDisjoint es
disjoint es from end laid = record { one_at_most = λ byte. one_keeper es from end byte laid }

ascending : (es : List Extent) (from end : ℕ) → AreLaid from es end → IsStrictlyIncreasing (map (λ e. e.at) es)
ascending [] from end laid k h = absurd (omega arith)
ascending (x ∷ []) from end laid k h = absurd (omega arith)
ascending (x ∷ y ∷ ys) from end laid zero h = omega arith
ascending (x ∷ y ∷ ys) from end laid (suc k) h =
    let next : suc k + 1 ≡ suc (k + 1) = omega arith in
    rw next (ascending (y ∷ ys) (end_of x) end laid.3 k (omega arith))

aligned : (es : List Extent) (from end : ℕ) → AreLaid from es end → All (λ e. e.at % UNIT ≡ 0) es
aligned [] from end laid = All-nil (λ e. e.at % UNIT ≡ 0)
aligned (e ∷ es) from end laid = All-cons (λ x. x.at % UNIT ≡ 0) e es laid.1 (aligned es (end_of e) end laid.3)

within : (es : List Extent) (from end limit : ℕ) → AreLaid from es end → end ≤ limit → All (λ e. end_of e ≤ limit) es
within [] from end limit laid h = All-nil (λ e. end_of e ≤ limit)
within (e ∷ es) from end limit laid h =
    All-cons (λ x. end_of x ≤ limit) e es (omega (arith, laid_order es (end_of e) end laid.3)) (within es (end_of e) end limit laid.3 h)

pub in_order : (es : List Extent) (limit : ℕ) → AreLaid 0 es (whole limit) → AreInOrder limit es
in_order es limit laid =
    record {
      ascending = ascending es 0 (whole limit) laid;
      aligned = aligned es 0 (whole limit) laid;
      within = within es 0 (whole limit) limit laid (omega arith);
    }

pub length-gaps : (es : List Extent) (from end : ℕ) → length (gaps from es end) ≤ length es + 1
length-gaps [] from end = grind arith
length-gaps (e ∷ es) from end = grind (arith, length-gaps es (end_of e) end, length-append (gap from e.at) (gaps (end_of e) es end))

-- Cases of a test.
pub split : {P : Type 0} → (t : Bool) → (t ≡ true → P) → (t ≡ false → P) → P
split true on off = on refl
split false on off = off refl
