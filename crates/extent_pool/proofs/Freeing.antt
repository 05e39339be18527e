-- Giving back: the bytes of an extent become a hole, one with its neighbours.
use Rattle.std.proofs.Common.{◌≡◌, ℕ, ◌+◌, ◌-◌, ◌<◌, ◌≤◌, ◌==◌, true, false, List, [], ◌∷◌, ◌++◌, length, Some, subst, arith}
use Rattle.extent_pool.specs.declared.extent.Extent.{Extent}
use Rattle.extent_pool.specs.Extents.{end_of}
use Rattle.extent_pool.specs.Gaps.{AreLaid, gap, gaps}
use Rattle.std.specs.List.{find}
use Rattle.extent_pool.specs.Changes.{without_extent, in_front, freed}
use Rattle.extent_pool.proofs.Laid.{split}

-- A hole that ends before the gaps begin is not joined to them.
in_front_apart : (es : List Extent) (from end at stop : ℕ) → AreLaid from es end → stop < from → in_front at stop (gaps from es end) ≡ (record { at = at; len = stop - at } ∷ gaps from es end)
in_front_apart [] from end at stop laid h = grind arith
in_front_apart (e ∷ es) from end at stop laid h = grind (arith, in_front_apart es (end_of e) end at stop laid.3)

-- Bytes in front of the gaps are not joined to one before.
freed_before : (es : List Extent) (from end at stop : ℕ) → AreLaid from es end → at < from → freed at stop (gaps from es end) ≡ in_front at stop (gaps from es end)
freed_before [] from end at stop laid h = grind arith
freed_before (e ∷ es) from end at stop laid h = grind (arith, freed_before es (end_of e) end at stop laid.3)

-- The first gap grows to the front.
gaps_from_earlier : (es : List Extent) (from to end : ℕ) → AreLaid to es end → from < to → gaps from es end ≡ in_front from to (gaps to es end)
gaps_from_earlier [] from to end laid h = grind arith
gaps_from_earlier (e ∷ es) from to end laid h = grind (arith, in_front_apart es (end_of e) end from to laid.3)

pub found_place : (es : List Extent) (from end at : ℕ) (e : Extent) → AreLaid from es end → find (λ x. x.at == at) es ≡ Some e → from ≤ at
found_place [] from end at e laid is = grind arith
found_place (x ∷ xs) from end at e laid is = grind (arith, found_place xs (end_of x) end at e laid.3)

pub found_len : (es : List Extent) (from end at : ℕ) (e : Extent) → AreLaid from es end → find (λ x. x.at == at) es ≡ Some e → 1 ≤ e.len
found_len [] from end at e laid is = grind arith
found_len (x ∷ xs) from end at e laid is = grind (arith, found_len xs (end_of x) end at e laid.3)

laid_earlier : (es : List Extent) (from to end : ℕ) → AreLaid to es end → from ≤ to → AreLaid from es end
laid_earlier [] from to end laid h = omega arith
laid_earlier (e ∷ es) from to end laid h = (omega arith, laid.1, laid.2, laid.3)

pub laid_without : (es : List Extent) (from end at : ℕ) → AreLaid from es end → AreLaid from (without_extent at es) end
laid_without [] from end at laid = laid
laid_without (x ∷ xs) from end at laid =
    split (x.at == at)
    (λ (same : (x.at == at) ≡ true). rw same (laid_earlier xs from (end_of x) end laid.3 (omega arith)))
    (λ (other : (x.at == at) ≡ false). rw other (laid.0, laid.1, laid.2, laid_without xs (end_of x) end at laid.3))

pub length-without : (es : List Extent) (at : ℕ) (e : Extent) → find (λ x. x.at == at) es ≡ Some e → length (without_extent at es) + 1 ≡ length es
length-without [] at e is = grind arith
length-without (x ∷ xs) at e is = grind (arith, length-without xs at e)

removed_here : (x : Extent) (xs : List Extent) (from end : ℕ) → AreLaid from (x ∷ xs) end → gaps from xs end ≡ freed x.at (end_of x) (gap from x.at ++ gaps (end_of x) xs end)
removed_here x xs from end laid =
    grind (arith, gaps_from_earlier xs from (end_of x) end laid.3, freed_before xs (end_of x) end x.at (end_of x) laid.3)

pub gaps_without : (es : List Extent) (from end : ℕ) (e : Extent) → AreLaid from es end → find (λ x. x.at == e.at) es ≡ Some e → gaps from (without_extent e.at es) end ≡ freed e.at (end_of e) (gaps from es end)
gaps_without [] from end e laid is = grind arith
gaps_without (x ∷ xs) from end e laid is =
    split (x.at == e.at)
    (λ (same : (x.at == e.at) ≡ true).
    let found = rw same at is in
    let it : x ≡ e = cc in
    rw same (subst (λ y. gaps from xs end ≡ freed y.at (end_of y) (gap from x.at ++ gaps (end_of x) xs end)) it (removed_here x xs from end laid)))
    (λ (other : (x.at == e.at) ≡ false).
    let found = rw other at is in
    rw other (grind (arith, found_place xs (end_of x) end e.at e laid.3 found, gaps_without xs (end_of x) end e laid.3 found)))
