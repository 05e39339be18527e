use Rattle.std.proofs.Common.{◌≡◌, ◌<◌, IfOk, sym, subst, arith}
use Rattle.std.proofs.lemmas.Grind.{common_steps}
use Rattle.commit_store.specs.Known.{StoreState, IsStore}
use Rattle.commit_store.specs.Preparing.{IsCommitOf, IsPreparedBy, IsPreparedFor, SaysView, with_closed}
use Rattle.commit_store.specs.Saying.{StoreCommit, last_generation}
use Rattle.commit_store.proofs.Closing.{store_closed}
use Rattle.commit_store.proofs.Good.{IsPlannedAs, prepared_as, says_as}
use Rattle.commit_store.proofs.store.Store.prepared.Goals as goal

pub returns-clause-by : goal.returns-clause-by
returns-clause-by g c =
    let is : IsStore (with_closed c.args.self.now) = store_closed c.args.self.now (subst IsStore c.self.view_is c.self.invariant) in
    let tried : c.self.inside.tried < last_generation = first_of (omega (arith, c.self.invariant.tried, c.if-self-eq-LAST_GENERATION.false), grind (arith, common_steps)) in
    let below : c.args.self.now.tried < last_generation = subst (λ (it : StoreState). it.tried < last_generation) c.self.view_is tried in
    let closed : c.idle_closed.new.self ≡ with_closed c.args.self.now = c.in_ok-idle_closed.ensures.closed in
    let planned : IsPlannedAs (with_closed c.args.self.now) c.args.mapping.now c.args.next c.args.view.now c.plan.result = record {
      is = is;
      committable = record { read = c.requires.read; fits = c.requires.fits; sources = c.requires.sources; blocks = c.requires.blocks; few = c.requires.few; known = c.requires.known };
      own = c.plan.ensures.ids;
      below = below;
      for_view = subst (λ (it : StoreState). IfOk c.plan.result (IsPreparedFor it c.args.mapping.now c.args.next c.args.view.now)) closed c.plan.ensures.room;
      sound = c.plan.ensures.sound;
      in_order = c.plan.ensures.in_order;
      disjoint = c.plan.ensures.disjoint;
      few = c.plan.ensures.few;
      bodies = c.plan.ensures.bodies;
      mapping = c.plan.ensures.mapping;
    } in
    subst (λ (it : StoreState). IfOk c.plan.result (λ prepared. IsPreparedBy it prepared)) (sym closed)
    (prepared_as (record { flats = c.fitting_segments_are_blocks.ensures.flats; same = c.fitting_segments_are_blocks.ensures.same }) c.record_has_one_text.ensures.size
    (with_closed c.args.self.now) c.args.mapping.now c.args.next c.args.view.now c.plan.result planned)

pub returns-clause-says : goal.returns-clause-says
returns-clause-says g c =
    let is : IsStore (with_closed c.args.self.now) = store_closed c.args.self.now (subst IsStore c.self.view_is c.self.invariant) in
    let tried : c.self.inside.tried < last_generation = first_of (omega (arith, c.self.invariant.tried, c.if-self-eq-LAST_GENERATION.false), grind (arith, common_steps)) in
    let below : c.args.self.now.tried < last_generation = subst (λ (it : StoreState). it.tried < last_generation) c.self.view_is tried in
    let closed : c.idle_closed.new.self ≡ with_closed c.args.self.now = c.in_ok-idle_closed.ensures.closed in
    let planned : IsPlannedAs (with_closed c.args.self.now) c.args.mapping.now c.args.next c.args.view.now c.plan.result = record {
      is = is;
      committable = record { read = c.requires.read; fits = c.requires.fits; sources = c.requires.sources; blocks = c.requires.blocks; few = c.requires.few; known = c.requires.known };
      own = c.plan.ensures.ids;
      below = below;
      for_view = subst (λ (it : StoreState). IfOk c.plan.result (IsPreparedFor it c.args.mapping.now c.args.next c.args.view.now)) closed c.plan.ensures.room;
      sound = c.plan.ensures.sound;
      in_order = c.plan.ensures.in_order;
      disjoint = c.plan.ensures.disjoint;
      few = c.plan.ensures.few;
      bodies = c.plan.ensures.bodies;
      mapping = c.plan.ensures.mapping;
    } in
    subst (λ (it : StoreState). IfOk c.plan.result (λ prepared. (own : StoreCommit) → IsCommitOf it prepared own → SaysView c.args.mapping.now c.args.next c.args.view.now own)) (sym closed)
    (says_as (with_closed c.args.self.now) c.args.mapping.now c.args.next c.args.view.now c.plan.result planned)
