use Rattle.std.proofs.Common.{◌≤◌, ◌++◌, length, refl, ap, ◌∙◌, sym, subst, arith}
use Rattle.std.specs.List.Sorted.{IsPermutation}
use Rattle.std.proofs.lemmas.List.Sorted.{All-permutation}
use Rattle.extent_pool.specs.Extents.{end_of}
use Rattle.extent_pool.specs.Gaps.{whole, gaps}
use Rattle.extent_pool.specs.Changes.{are_apart}
use Rattle.extent_pool.proofs.Kept.{kept_in_order, kept_disjoint}
use Rattle.extent_pool.proofs.Sorting.{beyond_of, within_of, overlap, laid_in_order, given_disjoint}
use Rattle.extent_pool.proofs.pool.ExtentPool.over.Goals as goal

pub returns-then-not-all_within-clause-beyond_limit : goal.returns-then-not-all_within-clause-beyond_limit
returns-then-not-all_within-clause-beyond_limit c =
    (λ _. beyond_of c.args.taken.now.extents _ c.args.limit _ c.all_within.ensures c.as_slice.ensures c.if-not-all_within.true, λ _. refl)

pub stand_apart-requires : goal.stand_apart-requires
stand_apart-requires c =
    let taken = c.args.taken.now.extents in
    let sorted = c.in_ok-sorted.sorted.items in
    let ends = within_of taken _ c.args.limit _ c.all_within.ensures c.as_slice.ensures c.if-not-all_within.false in
    let same = subst (λ es. IsPermutation es sorted) c.as_slice-2.ensures c.in_ok-sorted.ensures.same in
    let below = All-permutation (λ e. end_of e ≤ c.args.limit) taken sorted same ends in
    rw c.as_slice-3.ensures.value (λ k d h. omega (arith, below k d h, c.requires.limit))

pub returns-then-not-stand_apart-clause-overlap : goal.returns-then-not-stand_apart-clause-overlap
returns-then-not-stand_apart-clause-overlap c =
    let taken = c.args.taken.now.extents in
    let sorted = c.in_ok-sorted.sorted.items in
    let ends = within_of taken _ c.args.limit _ c.all_within.ensures c.as_slice.ensures c.if-not-all_within.false in
    let same = subst (λ es. IsPermutation es sorted) c.as_slice-2.ensures c.in_ok-sorted.ensures.same in
    let near = ap (are_apart 0) (sym c.as_slice-3.ensures.value) ∙ (sym c.stand_apart.ensures ∙ c.if-not-stand_apart.true) in
    λ _. (ends, λ alone. overlap taken sorted same c.in_ok-sorted.ensures.rising c.requires.lengths near alone)

pub add_gaps-requires-clause-laid : goal.add_gaps-requires-clause-laid
add_gaps-requires-clause-laid c =
    let taken = c.args.taken.now.extents in
    let sorted = c.in_ok-sorted.sorted.items in
    let ends = within_of taken _ c.args.limit _ c.all_within.ensures c.as_slice.ensures c.if-not-all_within.false in
    let same = subst (λ es. IsPermutation es sorted) c.as_slice-2.ensures c.in_ok-sorted.ensures.same in
    let apart = ap (are_apart 0) (sym c.as_slice-3.ensures.value) ∙ (sym c.stand_apart.ensures ∙ c.if-not-stand_apart.false) in
    rw c.as_slice-4.ensures.value (laid_in_order taken sorted c.args.limit same c.requires.places c.requires.lengths ends apart)

pub invariant_of-result : goal.invariant_of-result
invariant_of-result c =
    let taken = c.args.taken.now.extents in
    let sorted = c.in_ok-sorted.sorted.items in
    let ends = within_of taken _ c.args.limit _ c.all_within.ensures c.as_slice.ensures c.if-not-all_within.false in
    let same = subst (λ es. IsPermutation es sorted) c.as_slice-2.ensures c.in_ok-sorted.ensures.same in
    let apart = ap (are_apart 0) (sym c.as_slice-3.ensures.value) ∙ (sym c.stand_apart.ensures ∙ c.if-not-stand_apart.false) in
    let empty = c.in_ok-reserve.ensures.extents ∙ (c.of-holes.ensures ∙ c.new.ensures.items) in
    record {
      small = c.requires.limit;
      laid = laid_in_order taken sorted c.args.limit same c.requires.places c.requires.lengths ends apart;
      holes_are =
          c.add_gaps.ensures.extents
          ∙ (ap (λ hs. hs ++ gaps 0 c.as_slice-4.result.now (whole c.args.limit)) empty
          ∙ ap (λ es. gaps 0 es (whole c.args.limit)) c.as_slice-4.ensures.value);
      room = omega (arith, c.add_gaps.ensures.room, c.in_ok-reserve.ensures.ok, c.len.ensures, c.as_slice-4.ensures.len, ap length c.as_slice-4.ensures.value);
    }

pub returns-clause-in_order : goal.returns-clause-in_order
returns-clause-in_order c = kept_in_order _ _ _ (invariant_of-result c)

pub returns-clause-disjoint : goal.returns-clause-disjoint
returns-clause-disjoint c =
    let taken = c.args.taken.now.extents in
    let sorted = c.in_ok-sorted.sorted.items in
    let same = subst (λ es. IsPermutation es sorted) c.as_slice-2.ensures c.in_ok-sorted.ensures.same in
    given_disjoint taken sorted same (kept_disjoint _ _ _ (invariant_of-result c))
