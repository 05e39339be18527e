-- Taking: the first hole that has room loses its front, and the extents have one more.
use Rattle.std.proofs.Common.{◌≡◌, ℕ, suc, ◌+◌, ◌%◌, ◌<◌, ◌≤◌, true, false, nat_le, nat_lt, List, [], ◌∷◌, length, Option, Some, None, refl, sym, ap, ◌∙◌, subst, arith}
use Rattle.std.specs.List.{find, position, position_or_len}
use Rattle.extent_pool.specs.declared.extent.TheConstants.{UNIT}
use Rattle.extent_pool.specs.declared.extent.Extent.{Extent}
use Rattle.extent_pool.specs.Extents.{rounded, end_of}
use Rattle.extent_pool.specs.Holes.{has_room}
use Rattle.extent_pool.specs.Gaps.{AreLaid, gaps}
use Rattle.extent_pool.specs.Changes.{with_extent, filled, IsFirst}
use Rattle.extent_pool.proofs.Laid.{split}

-- A hole that is found begins behind the place where the gaps begin.
found_behind : (es : List Extent) (from end size : ℕ) (h : Extent) → AreLaid from es end → find (λ x. nat_le size x.len) (gaps from es end) ≡ Some h → from ≤ h.at
found_behind [] from end size h laid is = grind arith
found_behind (e ∷ es) from end size h laid is = grind (arith, found_behind es (end_of e) end size h laid.3)

pub laid_with : (es : List Extent) (from end size : ℕ) (e h : Extent) → AreLaid from es end → from % UNIT ≡ 0 → find (λ x. nat_le size x.len) (gaps from es end) ≡ Some h → e.at ≡ h.at → rounded e.len ≡ size → 1 ≤ e.len → AreLaid from (with_extent e es) end
laid_with [] from end size e h laid unit is at_is size_is some = (grind arith, grind arith, some, grind arith)
laid_with (x ∷ xs) from end size e h laid unit is at_is size_is some =
    split (nat_lt x.at e.at)
    (λ (below : nat_lt x.at e.at ≡ true).
    rw below (
      laid.0,
      laid.1,
      laid.2,
      laid_with xs (end_of x) end size e h laid.3 (omega arith) (grind arith) at_is size_is some,
    ))
    (λ (above : nat_lt x.at e.at ≡ false).
    rw above
    (let behind = found_behind xs (end_of x) end size h laid.3 in
    (grind arith, grind arith, some, (grind arith, laid.1, laid.2, laid.3))))

pub gaps_with : (es : List Extent) (from end size : ℕ) (e h : Extent) → AreLaid from es end → find (λ x. nat_le size x.len) (gaps from es end) ≡ Some h → e.at ≡ h.at → rounded e.len ≡ size → gaps from (with_extent e es) end ≡ filled size (gaps from es end)
gaps_with [] from end size e h laid is at_is size_is = grind arith
gaps_with (x ∷ xs) from end size e h laid is at_is size_is = grind (arith, gaps_with xs (end_of x) end size e h laid.3, found_behind xs (end_of x) end size h laid.3)

first_from : (hs : List Extent) (size : ℕ) → position_or_len (λ x. nat_le size x.len) hs < length hs → IsFirst hs size (position_or_len (λ x. nat_le size x.len) hs)
first_from [] size h = absurd (omega arith)
first_from (x ∷ xs) size h =
    split (nat_le size x.len)
    (λ (fits : nat_le size x.len ≡ true).
    rw fits (record { inside = omega arith; fits = λ d. grind arith; found = λ d. rw fits refl; filled_is = λ d. rw fits refl }))
    (λ (small : nat_le size x.len ≡ false).
    let one_more : 1 + position_or_len (λ y. nat_le size y.len) xs ≡ suc (position_or_len (λ y. nat_le size y.len) xs) = omega arith in
    let less : position_or_len (λ y. nat_le size y.len) xs < length xs = grind arith in
    let rest = first_from xs size less in
    let next : suc (position_or_len (λ y. nat_le size y.len) xs) + 1 ≡ suc (position_or_len (λ y. nat_le size y.len) xs + 1) = omega arith in
    rw small (rw one_more
    (record {
      inside = omega (arith, rest.inside);
      fits = rest.fits;
      found = λ d. rw small (rest.found d);
      filled_is = λ d. rw small (rw next (ap (λ ys. x ∷ ys) (rest.filled_is d)));
    })))

-- the first hole that has room
first_at : (hs : List Extent) (size place : ℕ) → position (λ x. nat_le size x.len) hs ≡ Some place → IsFirst hs size place
first_at hs size place is =
    let there : position_or_len (λ x. nat_le size x.len) hs ≡ place = grind arith in
    let inside : position_or_len (λ x. nat_le size x.len) hs < length hs = grind arith in
    subst (λ n. IsFirst hs size n) there (first_from hs size inside)

-- no hole has room
none_at : (hs : List Extent) (size : ℕ) → position (λ x. nat_le size x.len) hs ≡ None → find (λ x. nat_le size x.len) hs ≡ None
none_at [] size is = refl
none_at (x ∷ xs) size is =
    split (nat_le size x.len)
    (λ (fits : nat_le size x.len ≡ true). absurd (grind arith))
    (λ (small : nat_le size x.len ≡ false).
    let rest : position (λ y. nat_le size y.len) xs ≡ None = grind arith in
    rw small (none_at xs size rest))

-- the same for what a search of the holes answered
pub first_of : (hs searched : List Extent) (len place : ℕ) (found : Option ℕ) → found ≡ position (has_room len) searched → searched ≡ hs → found ≡ Some place → IsFirst hs (rounded len) place
first_of hs searched len place found is same some =
    first_at hs (rounded len) place (ap (position (has_room len)) (sym same) ∙ (sym is ∙ some))

pub none_of : (hs searched : List Extent) (len : ℕ) (found : Option ℕ) → found ≡ position (has_room len) searched → searched ≡ hs → found ≡ None → find (has_room len) hs ≡ None
none_of hs searched len found is same none =
    none_at hs (rounded len) (ap (position (has_room len)) (sym same) ∙ (sym is ∙ none))
