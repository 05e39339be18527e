use Rattle.std.proofs.Common.{ap, ◌∙◌, sym, subst, arith}
use Rattle.std.specs.List.{Contains}
use Rattle.extent_pool.specs.Gaps.{whole}
use Rattle.extent_pool.specs.Changes.{freed}
use Rattle.extent_pool.proofs.Freeing.{found_len}
use Rattle.extent_pool.proofs.Members.{found_from}
use Rattle.extent_pool.proofs.Kept.{kept_disjoint, kept_in_order, kept_end, kept_without, freed_fits}
use Rattle.extent_pool.proofs.pool.ExtentPool.give_back.Goals as goal

pub remove_extent-requires-clause-found : goal.remove_extent-requires-clause-found
remove_extent-requires-clause-found c =
    let there = subst (λ p. Contains p.taken c.args.extent) (sym c.self.view_is) c.requires in
    found_from c.self.inside.taken.items 0 (whole c.self.inside.limit) c.args.extent there.0 c.self.invariant.laid there.1 there.2

pub release-requires-clause-order : goal.release-requires-clause-order
release-requires-clause-order c =
    let there = subst (λ p. Contains p.taken c.args.extent) (sym c.self.view_is) c.requires in
    let found = found_from c.self.inside.taken.items 0 (whole c.self.inside.limit) c.args.extent there.0 c.self.invariant.laid there.1 there.2 in
    omega (arith, found_len c.self.inside.taken.items 0 (whole c.self.inside.limit) c.args.extent.at c.args.extent c.self.invariant.laid found)

pub release-requires-clause-rising : goal.release-requires-clause-rising
release-requires-clause-rising c = kept_end _ _ _ c.self.invariant

pub release-requires-clause-room : goal.release-requires-clause-room
release-requires-clause-room c =
    let there = subst (λ p. Contains p.taken c.args.extent) (sym c.self.view_is) c.requires in
    let found = found_from c.self.inside.taken.items 0 (whole c.self.inside.limit) c.args.extent there.0 c.self.invariant.laid there.1 there.2 in
    rw c.end.ensures (freed_fits c.self.inside.limit c.self.inside.taken.items c.self.inside.holes c.args.extent c.self.invariant found)

pub invariant_of-self : goal.invariant_of-self
invariant_of-self c =
    let there = subst (λ p. Contains p.taken c.args.extent) (sym c.self.view_is) c.requires in
    let found = found_from c.self.inside.taken.items 0 (whole c.self.inside.limit) c.args.extent there.0 c.self.invariant.laid there.1 there.2 in
    let holes_are = c.release.ensures.extents ∙ ap (λ n. freed c.args.extent.at n c.self.inside.holes.extents) c.end.ensures in
    kept_without c.self.inside.limit c.self.inside.taken.items c.remove_extent.new.extents.items c.self.inside.holes c.release.new.holes c.args.extent
    c.self.invariant found c.remove_extent.ensures.items holes_are c.release.ensures.room

pub returns-clause-in_order : goal.returns-clause-in_order
returns-clause-in_order c = kept_in_order _ _ _ (invariant_of-self c)

pub returns-clause-disjoint : goal.returns-clause-disjoint
returns-clause-disjoint c = kept_disjoint _ _ _ (invariant_of-self c)
