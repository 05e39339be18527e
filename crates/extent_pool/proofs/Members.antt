-- The place of an extent among those that stand in order.
use Rattle.std.proofs.Common.{◌≡◌, ℕ, zero, suc, ◌+◌, ◌<◌, ◌==◌, true, false, List, [], ◌∷◌, Some, length, get_or, refl, ap, arith}
use Rattle.std.specs.List.{find, prefix_len, insert, remove}
use Rattle.extent_pool.specs.declared.extent.Extent.{Extent}
use Rattle.extent_pool.specs.Extents.{end_of}
use Rattle.extent_pool.specs.Gaps.{AreLaid}
use Rattle.extent_pool.specs.Changes.{begins_before, with_extent, without_extent}
use Rattle.extent_pool.proofs.Laid.{split}
use Rattle.extent_pool.proofs.Freeing.{found_place}

-- one more than the extents in front
one_more : (at : ℕ) (es : List Extent) → 1 + prefix_len (begins_before at) es ≡ suc (prefix_len (begins_before at) es)
one_more at es = omega arith

pub with_at : (e : Extent) (es : List Extent) → with_extent e es ≡ insert es (prefix_len (begins_before e.at) es) e
with_at e [] = refl
with_at e (x ∷ xs) =
    split (begins_before e.at x)
    (λ (before : begins_before e.at x ≡ true). rw before (rw (one_more e.at xs) (ap (λ ys. x ∷ ys) (with_at e xs))))
    (λ (behind : begins_before e.at x ≡ false). rw behind refl)

-- the extent stands at the place, and is taken out there
pub record StandsAt (es : List Extent) (place : ℕ) (e : Extent) : Type 0 where
  pub inside : place < length es
  pub here : (d : Extent) → get_or es place d ≡ e
  pub removed : without_extent e.at es ≡ remove es place

pub stands_at : (es : List Extent) (from end : ℕ) (e : Extent) → AreLaid from es end → find (λ x. x.at == e.at) es ≡ Some e → StandsAt es (prefix_len (begins_before e.at) es) e
stands_at [] from end e laid is = absurd (cc)
stands_at (x ∷ xs) from end e laid is =
    split (x.at == e.at)
    (λ (same : (x.at == e.at) ≡ true).
    let found = rw same at is in
    let it : x ≡ e = cc in
    let not_before : begins_before e.at x ≡ false = grind arith in
    rw not_before (record { inside = omega arith; here = λ d. it; removed = rw same refl }))
    (λ (other : (x.at == e.at) ≡ false).
    let found = rw other at is in
    let before : begins_before e.at x ≡ true = grind (arith, found_place xs (end_of x) end e.at e laid.3 found) in
    let rest = stands_at xs (end_of x) end e laid.3 found in
    rw before (rw (one_more e.at xs)
    (record { inside = omega (arith, rest.inside); here = rest.here; removed = rw other (ap (λ ys. x ∷ ys) rest.removed) })))

-- an extent that is among those in order is the one that begins there
pub found_from : (es : List Extent) (from end : ℕ) (e : Extent) (k : ℕ) → AreLaid from es end → k < length es → get_or es k e ≡ e → find (λ x. x.at == e.at) es ≡ Some e
found_from [] from end e k laid h is = absurd (omega arith)
found_from (x ∷ xs) from end e zero laid h is = grind arith
found_from (x ∷ xs) from end e (suc k) laid h is =
    let rest = found_from xs (end_of x) end e k laid.3 (omega arith) is in
    let other : (x.at == e.at) ≡ false = grind (arith, found_place xs (end_of x) end e.at e laid.3 rest) in
    rw other rest
