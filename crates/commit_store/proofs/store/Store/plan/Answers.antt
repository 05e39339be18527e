use Rattle.std.proofs.Common.{rules, ◌≡◌, ℕ, ◌+◌, ◌<◌, List, ◌∷◌, ◌++◌, length, sum_by, None, refl, sym, ◌∙◌, ap, subst, arith}
use Rattle.std.proofs.lemmas.Grind.{common_steps}
use Rattle.extent_pool.specs.Placing.{fit}
use Rattle.segment.specs.Live.{EntryState}
use Rattle.commit_store.specs.declared.known.KnownSegment.{KnownSegment}
use Rattle.commit_store.specs.declared.prepared.Planned.{Planned}
use Rattle.commit_store.specs.Known.{StoreState}
use Rattle.commit_store.specs.Placed.{ArePlanned}
use Rattle.commit_store.specs.Planned.{all_planned}
use Rattle.commit_store.proofs.Rooms.{IsPoolOf, Orders, body_size, planned_size, no_room_for_record, planned_room}
use Rattle.commit_store.proofs.Small.{no_room_below}
use Rattle.commit_store.proofs.store.Store.plan.Goals as goal

pub returns-in_err-pool-clause-full : goal.returns-in_err-pool-clause-full
returns-in_err-pool-clause-full c = λ is.
    let less : c.args.self.now.limit < 2_048 = first_of (search rules, grind (arith, common_steps)) in
    no_room_below c.args.self.now c.args.mapping.now c.args.view.now less

pub returns-in_err-record_extent-clause-full : goal.returns-in_err-record_extent-clause-full
returns-in_err-record_extent-clause-full c = λ is.
    let none : fit c.planned_in.new.pool.limit c.planned_in.new.pool.taken c.in_ok-size.size ≡ None = first_of (search rules, grind (arith, common_steps)) in
    let segments : List Planned = c.in_ok-segments.segments.items in
    let bodies : List (List ℕ) = c.in_ok-bodies.bodies.items in
    let known : c.as_slice.result.now ≡ c.args.self.now.known = c.as_slice.ensures.value ∙ ap (λ (it : StoreState). it.known) c.self.view_is in
    let pool : IsPoolOf c.args.self.now c.in_ok-pool.pool = record { taken = c.in_ok-pool.ensures.taken; limit = c.in_ok-pool.ensures.limit } in
    let planned : ArePlanned c.args.self.now.known c.args.view.now c.in_ok-pool.pool c.planned_in.new.pool (all_planned segments)
    = subst (λ (it : List KnownSegment). ArePlanned it c.args.view.now c.in_ok-pool.pool c.planned_in.new.pool (all_planned segments)) known
    (subst (λ (it : List EntryState). ArePlanned c.as_slice.result.now it c.in_ok-pool.pool c.planned_in.new.pool (all_planned segments)) c.entries-entries.ensures.entries
    c.in_ok-segments.ensures.planned) in
    let long : c.in_ok-size.size ≡ 21 + (sum_by body_size bodies + sum_by planned_size (all_planned segments))
    = c.in_ok-size.ensures
    ∙ ap (λ (it : List (List ℕ)). 21 + (sum_by body_size it + sum_by planned_size (all_planned c.as_slice-3.result.now))) c.as_slice-2.ensures.value
    ∙ ap (λ (it : List Planned). 21 + (sum_by body_size bodies + sum_by planned_size (all_planned it))) c.as_slice-3.ensures.value in
    no_room_for_record (record { fits = c.order_makes_no_difference.ensures.fit; places = c.order_makes_no_difference.ensures.placed }) c.args.self.now c.args.mapping.now c.args.view.now c.in_ok-pool.pool
    c.planned_in.new.pool bodies (all_planned segments) c.in_ok-size.size pool planned c.planned_in.ensures.limit c.in_ok-bodies.ensures.texts long none

pub returns-clause-room : goal.returns-clause-room
returns-clause-room c =
    let segments : List Planned = c.in_ok-segments.segments.items in
    let bodies : List (List ℕ) = c.in_ok-bodies.bodies.items in
    let known : c.as_slice.result.now ≡ c.args.self.now.known = c.as_slice.ensures.value ∙ ap (λ (it : StoreState). it.known) c.self.view_is in
    let pool : IsPoolOf c.args.self.now c.in_ok-pool.pool = record { taken = c.in_ok-pool.ensures.taken; limit = c.in_ok-pool.ensures.limit } in
    let planned : ArePlanned c.args.self.now.known c.args.view.now c.in_ok-pool.pool c.planned_in.new.pool (all_planned segments)
    = subst (λ (it : List KnownSegment). ArePlanned it c.args.view.now c.in_ok-pool.pool c.planned_in.new.pool (all_planned segments)) known
    (subst (λ (it : List EntryState). ArePlanned c.as_slice.result.now it c.in_ok-pool.pool c.planned_in.new.pool (all_planned segments)) c.entries-entries.ensures.entries
    c.in_ok-segments.ensures.planned) in
    let long : c.in_ok-size.size ≡ 21 + (sum_by body_size bodies + sum_by planned_size (all_planned segments))
    = c.in_ok-size.ensures
    ∙ ap (λ (it : List (List ℕ)). 21 + (sum_by body_size it + sum_by planned_size (all_planned c.as_slice-3.result.now))) c.as_slice-2.ensures.value
    ∙ ap (λ (it : List Planned). 21 + (sum_by body_size bodies + sum_by planned_size (all_planned it))) c.as_slice-3.ensures.value in
    planned_room (record { fits = c.order_makes_no_difference.ensures.fit; places = c.order_makes_no_difference.ensures.placed }) c.args.self.now c.args.mapping.now c.args.next c.args.view.now c.in_ok-pool.pool
    c.planned_in.new.pool
    (record {
      limit = c.taken_in.new.pool.limit;
      bodies = bodies;
      dynamic = c.dynamic.result;
      next = c.args.next;
      segments = all_planned segments;
      record_extent = c.in_ok-record_extent.record_extent;
      taken = c.taken_in.new.pool.taken;
    })
    c.in_ok-size.size pool planned c.planned_in.ensures.limit c.in_ok-bodies.ensures.texts c.dynamic.ensures refl long c.in_ok-record_extent.ensures.fit c.in_ok-record_extent.ensures.taken c.taken_in.ensures.limit
