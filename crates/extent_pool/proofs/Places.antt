-- Lists changed at one place.
use Rattle.std.proofs.Common.{◌≡◌, ℕ, zero, suc, ◌+◌, ◌-◌, ◌<◌, ◌≤◌, true, false, List, [], ◌∷◌, ◌++◌, length, length-append, take, drop, get_or, set, refl, sym, ap, ◌∙◌, subst, arith}
use Rattle.std.specs.List.{prefix_len}
use Rattle.std.proofs.lemmas.List.{get_or_default}
use Rattle.std.proofs.lemmas.List.Folds.{length-prefix_len}
use Rattle.extent_pool.specs.declared.extent.Extent.{Extent}
use Rattle.extent_pool.specs.Extents.{end_of}
use Rattle.extent_pool.specs.Gaps.{AreLaid, gap}
use Rattle.extent_pool.specs.Changes.{ends_before, in_front, freed_here, freed}
use Rattle.extent_pool.proofs.Laid.{split}
use Rattle.extent_pool.proofs.Units.{laid_order}

-- one element is written
set_parts : {X : Type 0} (xs : List X) (i : ℕ) (x : X) → i < length xs → set xs i x ≡ take i xs ++ (x ∷ drop (i + 1) xs)
set_parts [] i x h = absurd (omega arith)
set_parts (y ∷ ys) zero x h = refl
set_parts (y ∷ ys) (suc i) x h =
    let next : suc i + 1 ≡ suc (i + 1) = omega arith in rw next (ap (λ zs. y ∷ zs) (set_parts ys i x (omega arith)))

rest_parts : {X : Type 0} (xs : List X) (i : ℕ) (d : X) → i < length xs → drop i xs ≡ get_or xs i d ∷ drop (i + 1) xs
rest_parts [] i d h = absurd (omega arith)
rest_parts (y ∷ ys) zero d h = refl
rest_parts (y ∷ ys) (suc i) d h =
    let next : suc i + 1 ≡ suc (i + 1) = omega arith in rw next (rest_parts ys i d (omega arith))

-- what is freed stands behind the holes that end before it
freed_parts : (at end : ℕ) (hs : List Extent) → freed at end hs ≡ take (prefix_len (ends_before at) hs) hs ++ freed_here at end (drop (prefix_len (ends_before at) hs) hs)
freed_parts at end [] = refl
freed_parts at end (h ∷ hs) =
    let one_more : 1 + prefix_len (ends_before at) hs ≡ suc (prefix_len (ends_before at) hs) = omega arith in
    split (ends_before at h)
    (λ (before : ends_before at h ≡ true). rw before (rw one_more (ap (λ xs. h ∷ xs) (freed_parts at end hs))))
    (λ (behind : ends_before at h ≡ false). rw behind refl)

pub freed_at : (at end place : ℕ) (hs : List Extent) → place ≡ prefix_len (ends_before at) hs → freed at end hs ≡ take place hs ++ freed_here at end (drop place hs)
freed_at at end place hs is = rw is (freed_parts at end hs)

pub length-freed : (at end place : ℕ) (hs : List Extent) → place ≡ prefix_len (ends_before at) hs → length (freed at end hs) ≡ place + length (freed_here at end (drop place hs))
length-freed at end place hs is =
    ap length (freed_at at end place hs is)
    ∙ (length-append (take place hs) (freed_here at end (drop place hs))
    ∙ ap (λ n. n + length (freed_here at end (drop place hs))) (rw is (length-prefix_len (ends_before at) hs)))

-- a hole in front of one that begins at its end
in_front_touching : (at end : ℕ) (h : Extent) (hs : List Extent) → h.at ≡ end → in_front at end (h ∷ hs) ≡ (record { at = at; len = h.at + h.len - at } ∷ hs)
in_front_touching at end h hs e = grind arith

-- the hole at a place is written anew as one that takes it in
pub joined_at : (hs : List Extent) (place at end : ℕ) (d : Extent) → place < length hs → (get_or hs place d).at ≡ end → set hs place (record { at = at; len = (get_or hs place d).at + (get_or hs place d).len - at }) ≡ take place hs ++ in_front at end (drop place hs)
joined_at hs place at end d l touches =
    let here : (record { at = at; len = (get_or hs place d).at + (get_or hs place d).len - at } ∷ drop (place + 1) hs) ≡ in_front at end (drop place hs) =
    sym (in_front_touching at end (get_or hs place d) (drop (place + 1) hs) touches) ∙ ap (in_front at end) (sym (rest_parts hs place d l)) in
    set_parts hs place (record { at = at; len = (get_or hs place d).at + (get_or hs place d).len - at }) l ∙ ap (λ xs. take place hs ++ xs) here

gap_behind : (h : Extent) (size : ℕ) → size < h.len → gap (h.at + size) (h.at + h.len) ≡ record { at = h.at + size; len = h.len - size } ∷ []
gap_behind h size less = grind arith

-- the hole at a place loses its front
pub shortened_at : (hs : List Extent) (place size : ℕ) (d e : Extent) → place < length hs → size < (get_or hs place d).len → set hs place (record { at = (get_or hs place d).at + size; len = (get_or hs place d).len - size }) ≡ take place hs ++ (gap ((get_or hs place e).at + size) ((get_or hs place e).at + (get_or hs place e).len) ++ drop (place + 1) hs)
shortened_at hs place size d e l less =
    rw (get_or_default hs place e d l, gap_behind (get_or hs place d) size less)
    (set_parts hs place (record { at = (get_or hs place d).at + size; len = (get_or hs place d).len - size }) l)

-- an extent among those that stand in order ends at the end or before
pub laid_at : (es : List Extent) (i from end : ℕ) (d : Extent) → AreLaid from (drop i es) end → i < length es → end_of (get_or es i d) ≤ end
laid_at es i from end d laid l =
    let rest : AreLaid from (get_or es i d ∷ drop (i + 1) es) end = subst (λ xs. AreLaid from xs end) (rest_parts es i d l) laid in
    laid_order (drop (i + 1) es) (end_of (get_or es i d)) end rest.3
