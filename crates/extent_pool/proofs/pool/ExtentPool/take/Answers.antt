use Rattle.std.proofs.Common.{◌≡◌, Some, None, length, get_or, refl, ap, ◌∙◌, sym, subst, arith}
use Rattle.std.proofs.lemmas.List.Sorted.{length_permutation}
use Rattle.extent_pool.specs.declared.extent.Extent.{Extent}
use Rattle.extent_pool.specs.Holes.{holes_of, first_fit}
use Rattle.extent_pool.specs.Changes.{with_extent}
use Rattle.extent_pool.proofs.Taking.{first_of, none_of}
use Rattle.extent_pool.proofs.Kept.{kept_disjoint, kept_in_order, kept_begin, kept_below, kept_with, fit_is, no_fit}
use Rattle.extent_pool.proofs.pool.ExtentPool.take.Goals as goal

pub returns-in_default-clause-full : goal.returns-in_default-clause-full
returns-in_default-clause-full c =
    let missing = none_of _ _ _ _ c.first_with_room.ensures c.as_slice.ensures c.in_default.is in
    let none =
    subst (λ p. first_fit c.args.len (holes_of p.limit p.taken) ≡ None) c.self.view_is
    (no_fit c.self.inside.limit c.args.len c.self.inside.taken.items c.self.inside.holes c.self.invariant missing) in
    (λ _. none, λ _. refl)

pub returns-in_err-reserve_one-clause-full : goal.returns-in_err-reserve_one-clause-full
returns-in_err-reserve_one-clause-full c =
    let d : Extent = record { at = 0; len = 0 } in
    let first = first_of _ _ _ _ _ c.first_with_room.ensures c.as_slice.ensures c.in-Some.is in
    let fit =
    subst (λ p. first_fit c.args.len (holes_of p.limit p.taken) ≡ Some (record { at = (get_or c.self.inside.holes.extents c.in-Some.place d).at; len = c.args.len })) c.self.view_is
    (fit_is c.self.inside.limit c.args.len c.in-Some.place c.self.inside.taken.items c.self.inside.holes d c.self.invariant first) in
    (λ is_full. let wrong = rw is_full at c.from_residual.ensures.1 in absurd (cc), λ none. absurd (cc))

pub next_multiple_of-requires-clause-fits : goal.next_multiple_of-requires-clause-fits
next_multiple_of-requires-clause-fits c =
    let d : Extent = record { at = 0; len = 0 } in
    let first = first_of _ _ _ _ _ c.first_with_room.ensures c.as_slice.ensures c.in-Some.is in
    let below = kept_below c.self.inside.limit c.self.inside.taken.items c.self.inside.holes c.self.invariant c.in-Some.place d first.inside in
    omega (arith, first.fits d, below)

pub shorten-requires-clause-size : goal.shorten-requires-clause-size
shorten-requires-clause-size c =
    let first = first_of _ _ _ _ _ c.first_with_room.ensures c.as_slice.ensures c.in-Some.is in
    λ d. rw (c.next_multiple_of.ensures.value, c.in_ok-reserve_one.ensures.holes) (first.fits d)

pub add_extent-requires-clause-rising : goal.add_extent-requires-clause-rising
add_extent-requires-clause-rising c =
    rw c.in_ok-reserve_one.ensures.taken (kept_begin c.self.inside.limit c.self.inside.taken.items c.self.inside.holes c.self.invariant)

pub invariant_of-self-2 : goal.invariant_of-self-2
invariant_of-self-2 c =
    let d : Extent = record { at = 0; len = 0 } in
    let place = c.in-Some.place in
    let first = first_of _ _ _ _ _ c.first_with_room.ensures c.as_slice.ensures c.in-Some.is in
    let e : Extent = record { at = (get_or c.as_slice-2.result.now place d).at; len = c.args.len } in
    let at_is = ap (λ hs. (get_or hs place d).at) (c.as_slice-2.ensures ∙ c.in_ok-reserve_one.ensures.holes) in
    let taken_is = c.add_extent.ensures.items ∙ ap (with_extent e) c.in_ok-reserve_one.ensures.taken in
    let holes_are = rw (c.next_multiple_of.ensures.value, c.in_ok-reserve_one.ensures.holes) at (c.shorten.ensures.extents d) in
    let long = length_permutation _ _ c.add_extent.ensures.gains in
    kept_with c.self.inside.limit c.self.inside.taken.items c.add_extent.new.extents.items c.self.inside.holes c.shorten.new.holes place d e c.self.invariant first at_is c.requires taken_is holes_are
    (omega (arith, long, ap length c.in_ok-reserve_one.ensures.taken, c.in_ok-reserve_one.ensures.ok, c.shorten.ensures.room))

pub returns-clause-first_fit : goal.returns-clause-first_fit
returns-clause-first_fit c =
    let d : Extent = record { at = 0; len = 0 } in
    let first = first_of _ _ _ _ _ c.first_with_room.ensures c.as_slice.ensures c.in-Some.is in
    let fit =
    subst (λ p. first_fit c.args.len (holes_of p.limit p.taken) ≡ Some (record { at = (get_or c.self.inside.holes.extents c.in-Some.place d).at; len = c.args.len })) c.self.view_is
    (fit_is c.self.inside.limit c.args.len c.in-Some.place c.self.inside.taken.items c.self.inside.holes d c.self.invariant first) in
    fit ∙ ap (λ hs. Some (record { at = (get_or hs c.in-Some.place d).at; len = c.args.len })) (sym (c.as_slice-2.ensures ∙ c.in_ok-reserve_one.ensures.holes))

pub returns-clause-full : goal.returns-clause-full
returns-clause-full c =
    let fit = returns-clause-first_fit c in (λ is_full. absurd (cc), λ none. absurd (cc))

pub returns-clause-in_order : goal.returns-clause-in_order
returns-clause-in_order c = kept_in_order _ _ _ (invariant_of-self-2 c)

pub returns-clause-disjoint : goal.returns-clause-disjoint
returns-clause-disjoint c = kept_disjoint _ _ _ (invariant_of-self-2 c)
