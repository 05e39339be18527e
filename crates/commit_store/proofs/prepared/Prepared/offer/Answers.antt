use Rattle.std.proofs.Common.{◌≡◌, ℕ, ◌≤◌, Bool, Some, List, length, slice_get, slice_set, IfOk, sym, ◌∙◌, ap, subst, arith}
use Rattle.std.proofs.lemmas.List.{map-set}
use Rattle.segment_parts.specs.Text.{segment_text}
use Rattle.commit_store.specs.declared.prepared.Planned.{Planned}
use Rattle.commit_store.specs.Moving.{IsOffered, IsOfferedTo, SaysAsMuch}
use Rattle.commit_store.specs.Placed.{IsMoved}
use Rattle.commit_store.specs.Planned.{all_planned, planned_seen}
use Rattle.commit_store.specs.Preparing.{PlannedSegment, PreparedState, IsPreparedBy}
use Rattle.commit_store.proofs.Committed.{IsLong}
use Rattle.commit_store.proofs.Moving.{offered_by, offered_says, offered_to, one_of, ok_with, planned_there, same_there, state_with}
use Rattle.commit_store.proofs.Sizes.{text_some}
use Rattle.commit_store.proofs.prepared.Prepared.offer.Goals as goal

pub move_to_front-requires : goal.move_to_front-requires
move_to_front-requires c =
    let items : List Planned = c.self.inside.segments.items in
    let it : PreparedState = record { limit = c.self.inside.pool.limit; bodies = c.self.inside.bodies.items; dynamic = c.self.inside.dynamic; next = c.self.inside.next; segments = all_planned items; record_extent = c.self.inside.record_extent; taken = c.self.inside.pool.taken } in
    let by : IsPreparedBy c.args.store.now it = subst (IsPreparedBy c.args.store.now) (sym c.self.view_is) c.requires.by in
    let there = planned_there items c.args.place c.index_mut-planned.result.now c.index_mut-planned.ensures.value (ap (λ (own : PreparedState). slice_get own.segments c.args.place) c.self.view_is) c.requires.stays in
    let long = one_of IsLong (all_planned items) c.args.place (planned_seen c.index_mut-planned.result.now) by.long there.0 in
    omega (arith, long, text_some c.index_mut-planned.result.now.entry.columns)

pub returns-clause-offered : goal.returns-clause-offered
returns-clause-offered c =
    let items : List Planned = c.self.inside.segments.items in
    let it : PreparedState = record { limit = c.self.inside.pool.limit; bodies = c.self.inside.bodies.items; dynamic = c.self.inside.dynamic; next = c.self.inside.next; segments = all_planned items; record_extent = c.self.inside.record_extent; taken = c.self.inside.pool.taken } in
    let own : PlannedSegment = planned_seen c.index_mut-planned.result.now in
    let new : PlannedSegment = planned_seen c.move_to_front.new.planned in
    let there = planned_there items c.args.place c.index_mut-planned.result.now c.index_mut-planned.ensures.value (ap (λ (own : PreparedState). slice_get own.segments c.args.place) c.self.view_is) c.requires.stays in
    ok_with c.move_to_front.result (λ (moved : Bool). IsMoved moved own new c.self.inside.pool c.move_to_front.new.pool)
    (λ (moved : Bool). IsOffered moved c.args.place c.args.self.now (state_with it (all_planned (slice_set items c.args.place c.move_to_front.new.planned)) c.move_to_front.new.pool))
    (λ moved to segment is.
    let same : own ≡ segment = same_there (all_planned items) c.args.place own segment there.0 (ap (λ (one : PreparedState). slice_get one.segments c.args.place) c.self.view_is ∙ is) in
    subst (λ (one : PlannedSegment). IsOfferedTo moved one c.args.place c.args.self.now (state_with it (all_planned (slice_set items c.args.place c.move_to_front.new.planned)) c.move_to_front.new.pool)) same
    (subst (λ (one : PreparedState). IsOfferedTo moved own c.args.place one (state_with it (all_planned (slice_set items c.args.place c.move_to_front.new.planned)) c.move_to_front.new.pool)) c.self.view_is
    (subst (λ (segments : List PlannedSegment). IsOfferedTo moved own c.args.place it (state_with it segments c.move_to_front.new.pool)) (sym (map-set planned_seen items c.args.place c.move_to_front.new.planned))
    (offered_to it (all_planned items) own new c.args.place c.self.inside.pool c.move_to_front.new.pool moved there.0 to))))
    c.move_to_front.ensures.moved

pub returns-clause-by : goal.returns-clause-by
returns-clause-by c =
    let items : List Planned = c.self.inside.segments.items in
    let it : PreparedState = record { limit = c.self.inside.pool.limit; bodies = c.self.inside.bodies.items; dynamic = c.self.inside.dynamic; next = c.self.inside.next; segments = all_planned items; record_extent = c.self.inside.record_extent; taken = c.self.inside.pool.taken } in
    let own : PlannedSegment = planned_seen c.index_mut-planned.result.now in
    let new : PlannedSegment = planned_seen c.move_to_front.new.planned in
    let by : IsPreparedBy c.args.store.now it = subst (IsPreparedBy c.args.store.now) (sym c.self.view_is) c.requires.by in
    let there = planned_there items c.args.place c.index_mut-planned.result.now c.index_mut-planned.ensures.value (ap (λ (own : PreparedState). slice_get own.segments c.args.place) c.self.view_is) c.requires.stays in
    ok_with c.move_to_front.result (λ (moved : Bool). IsMoved moved own new c.self.inside.pool c.move_to_front.new.pool)
    (λ (moved : Bool). IsPreparedBy c.args.store.now (state_with it (all_planned (slice_set items c.args.place c.move_to_front.new.planned)) c.move_to_front.new.pool))
    (λ moved to. subst (λ (segments : List PlannedSegment). IsPreparedBy c.args.store.now (state_with it segments c.move_to_front.new.pool)) (sym (map-set planned_seen items c.args.place c.move_to_front.new.planned))
    (offered_by c.record_has_one_text.ensures.size c.args.store.now it (all_planned items) own new c.args.place c.self.inside.pool c.move_to_front.new.pool moved c.limit-limit.ensures.store by there.0 there.1 to))
    c.move_to_front.ensures.moved

pub returns-clause-says : goal.returns-clause-says
returns-clause-says c =
    let items : List Planned = c.self.inside.segments.items in
    let it : PreparedState = record { limit = c.self.inside.pool.limit; bodies = c.self.inside.bodies.items; dynamic = c.self.inside.dynamic; next = c.self.inside.next; segments = all_planned items; record_extent = c.self.inside.record_extent; taken = c.self.inside.pool.taken } in
    let own : PlannedSegment = planned_seen c.index_mut-planned.result.now in
    let new : PlannedSegment = planned_seen c.move_to_front.new.planned in
    let by : IsPreparedBy c.args.store.now it = subst (IsPreparedBy c.args.store.now) (sym c.self.view_is) c.requires.by in
    let there = planned_there items c.args.place c.index_mut-planned.result.now c.index_mut-planned.ensures.value (ap (λ (own : PreparedState). slice_get own.segments c.args.place) c.self.view_is) c.requires.stays in
    ok_with c.move_to_front.result (λ (moved : Bool). IsMoved moved own new c.self.inside.pool c.move_to_front.new.pool)
    (λ (moved : Bool). SaysAsMuch c.args.store.now c.args.self.now (state_with it (all_planned (slice_set items c.args.place c.move_to_front.new.planned)) c.move_to_front.new.pool))
    (λ moved to.
    subst (λ (one : PreparedState). SaysAsMuch c.args.store.now one (state_with it (all_planned (slice_set items c.args.place c.move_to_front.new.planned)) c.move_to_front.new.pool)) c.self.view_is
    (subst (λ (segments : List PlannedSegment). SaysAsMuch c.args.store.now it (state_with it segments c.move_to_front.new.pool)) (sym (map-set planned_seen items c.args.place c.move_to_front.new.planned))
    (offered_says c.args.store.now it (all_planned items) own new c.args.place c.self.inside.pool c.move_to_front.new.pool moved c.limit-limit.ensures.store by there.0 there.1 to)))
    c.move_to_front.ensures.moved
