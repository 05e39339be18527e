-- What a pool keeps, and how it is kept.
use Rattle.std.proofs.Common.{◌≡◌, ℕ, ◌+◌, ◌^◌, ◌<◌, ◌≤◌, ◌==◌, true, false, nat_le, nat_lt, List, [], ◌∷◌, ◌++◌, Some, None, refl, length, take, drop, get_or, sym, ap, ◌∙◌, subst, arith}
use Rattle.std.specs.List.{All, find}
use Rattle.std.specs.List.Sorted.{IsNonDecreasingBy}
use Rattle.std.proofs.lemmas.List.Elements.{All-nil, All-cons}
use Rattle.extent_pool.specs.declared.extent.Extent.{Extent}
use Rattle.extent_pool.specs.Extents.{Extents, room_of, rounded, end_of, AreDisjoint, AreInOrder}
use Rattle.extent_pool.specs.Holes.{holes_of, has_room, first_fit}
use Rattle.std.specs.Option.{option_map}
use Rattle.extent_pool.specs.Gaps.{IsKept, AreLaid, gap, gaps, whole}
use Rattle.extent_pool.specs.Changes.{with_extent, without_extent, filled, freed, IsFirst}
use Rattle.extent_pool.proofs.Laid.{split, holes_are_gaps, disjoint, in_order, length-gaps}
use Rattle.extent_pool.proofs.Units.{laid_order}
use Rattle.extent_pool.proofs.Rising.{begin_in_order, end_in_order}
use Rattle.extent_pool.proofs.Taking.{laid_with, gaps_with}
use Rattle.extent_pool.proofs.Freeing.{laid_without, gaps_without, length-without}

pub kept_holes : (limit : ℕ) (taken : List Extent) (holes : Extents) → IsKept limit taken holes → holes.extents ≡ holes_of limit taken
kept_holes limit taken holes kept = kept.holes_are ∙ sym (holes_are_gaps limit taken kept.laid)

pub kept_disjoint : (limit : ℕ) (taken : List Extent) (holes : Extents) → IsKept limit taken holes → AreDisjoint taken
kept_disjoint limit taken holes kept = disjoint taken 0 (whole limit) kept.laid

pub kept_in_order : (limit : ℕ) (taken : List Extent) (holes : Extents) → IsKept limit taken holes → AreInOrder limit taken
kept_in_order limit taken holes kept = in_order taken limit kept.laid

pub kept_few : (limit : ℕ) (taken : List Extent) (holes : Extents) → IsKept limit taken holes → length holes.extents ≤ length taken + 1
kept_few limit taken holes kept = rw kept.holes_are (length-gaps taken 0 (whole limit))

pub kept_begin : (limit : ℕ) (taken : List Extent) (holes : Extents) → IsKept limit taken holes → IsNonDecreasingBy (λ e. e.at) taken
kept_begin limit taken holes kept = begin_in_order taken (whole limit) kept.laid

pub kept_end : (limit : ℕ) (taken : List Extent) (holes : Extents) → IsKept limit taken holes → IsNonDecreasingBy (λ h. h.at + h.len) holes.extents
kept_end limit taken holes kept = rw kept.holes_are (end_in_order taken (whole limit) kept.laid)

gaps_end : (es : List Extent) (from end : ℕ) → AreLaid from es end → All (λ h. h.at + h.len ≤ end) (gaps from es end)
gaps_end [] from end laid =
    split (nat_lt from end)
    (λ (some : nat_lt from end ≡ true). rw some (All-cons (λ h. h.at + h.len ≤ end) _ [] (omega arith) (All-nil (λ h. h.at + h.len ≤ end))))
    (λ (none : nat_lt from end ≡ false). rw none (All-nil (λ h. h.at + h.len ≤ end)))
gaps_end (e ∷ es) from end laid =
    let order = laid_order es (end_of e) end laid.3 in
    split (nat_lt from e.at)
    (λ (some : nat_lt from e.at ≡ true).
    rw some (All-cons (λ h. h.at + h.len ≤ end) _ (gaps (end_of e) es end) (omega arith) (gaps_end es (end_of e) end laid.3)))
    (λ (none : nat_lt from e.at ≡ false). rw none (gaps_end es (end_of e) end laid.3))

pub kept_below : (limit : ℕ) (taken : List Extent) (holes : Extents) → IsKept limit taken holes → All (λ h. h.at + h.len < 2 ^ 64) holes.extents
kept_below limit taken holes kept =
    let below = gaps_end taken 0 (whole limit) kept.laid in
    rw kept.holes_are (λ k d h. omega (arith, below k d h, kept.small))

-- an extent more, at the front of the first hole that is as long
pub kept_with : (limit : ℕ) (taken new_taken : List Extent) (holes new_holes : Extents) (place : ℕ) (d e : Extent) → IsKept limit taken holes → IsFirst holes.extents (rounded e.len) place → e.at ≡ (get_or holes.extents place d).at → 1 ≤ e.len → new_taken ≡ with_extent e taken → new_holes.extents ≡ take place holes.extents ++ (gap ((get_or holes.extents place d).at + rounded e.len) ((get_or holes.extents place d).at + (get_or holes.extents place d).len) ++ drop (place + 1) holes.extents) → length new_taken + 1 ≤ room_of new_holes → IsKept limit new_taken new_holes
kept_with limit taken new_taken holes new_holes place d e kept first at_is some taken_is holes_are room =
    let hole = get_or holes.extents place d in
    let found : find (λ x. nat_le (rounded e.len) x.len) (gaps 0 taken (whole limit)) ≡ Some (get_or holes.extents place d) =
    subst (λ hs. find (λ x. nat_le (rounded e.len) x.len) hs ≡ Some (get_or holes.extents place d)) kept.holes_are (first.found d) in
    record {
      small = kept.small;
      laid = rw taken_is (laid_with taken 0 (whole limit) (rounded e.len) e (get_or holes.extents place d) kept.laid refl found at_is refl some);
      holes_are =
          holes_are
          ∙ (sym (first.filled_is d)
          ∙ (ap (filled (rounded e.len)) kept.holes_are
          ∙ (sym (gaps_with taken 0 (whole limit) (rounded e.len) e (get_or holes.extents place d) kept.laid found at_is refl)
          ∙ ap (λ es. gaps 0 es (whole limit)) (sym taken_is))));
      room = room;
    }

-- without an extent, whose bytes are free
pub kept_without : (limit : ℕ) (taken new_taken : List Extent) (holes new_holes : Extents) (e : Extent) → IsKept limit taken holes → find (λ x. x.at == e.at) taken ≡ Some e → new_taken ≡ without_extent e.at taken → new_holes.extents ≡ freed e.at (end_of e) holes.extents → room_of new_holes ≡ room_of holes → IsKept limit new_taken new_holes
kept_without limit taken new_taken holes new_holes e kept found taken_is holes_are room =
    record {
      small = kept.small;
      laid = rw taken_is (laid_without taken 0 (whole limit) e.at kept.laid);
      holes_are =
          holes_are
          ∙ (ap (freed e.at (end_of e)) kept.holes_are
          ∙ (sym (gaps_without taken 0 (whole limit) e kept.laid found)
          ∙ ap (λ es. gaps 0 es (whole limit)) (sym taken_is)));
      room = rw taken_is (omega (arith, length-without taken e.at e found, room, kept.room));
    }

-- there is room for the holes of the extents without one
pub freed_fits : (limit : ℕ) (taken : List Extent) (holes : Extents) (e : Extent) → IsKept limit taken holes → find (λ x. x.at == e.at) taken ≡ Some e → length (freed e.at (end_of e) holes.extents) ≤ room_of holes
freed_fits limit taken holes e kept found =
    let same : freed e.at (end_of e) holes.extents ≡ gaps 0 (without_extent e.at taken) (whole limit) =
    ap (freed e.at (end_of e)) kept.holes_are ∙ sym (gaps_without taken 0 (whole limit) e kept.laid found) in
    omega (arith, ap length same, length-gaps (without_extent e.at taken) 0 (whole limit), length-without taken e.at e found, kept.room)

-- the facts that `take` and `give_back` want of a pool
pub ruleset keeping = (kept_holes, kept_disjoint, kept_in_order, kept_few, kept_begin, kept_end, kept_below)

-- the extent that is taken, and that there is none
pub fit_is : (limit len place : ℕ) (taken : List Extent) (holes : Extents) (d : Extent) → IsKept limit taken holes → IsFirst holes.extents (rounded len) place → first_fit len (holes_of limit taken) ≡ Some (record { at = (get_or holes.extents place d).at; len = len })
fit_is limit len place taken holes d kept first =
    rw (sym (kept_holes limit taken holes kept)) (ap (option_map (λ h. record { at = h.at; len = len })) (first.found d))

pub no_fit : (limit len : ℕ) (taken : List Extent) (holes : Extents) → IsKept limit taken holes → find (has_room len) holes.extents ≡ None → first_fit len (holes_of limit taken) ≡ None
no_fit limit len taken holes kept none =
    rw (sym (kept_holes limit taken holes kept)) (ap (option_map (λ h. record { at = h.at; len = len })) none)
