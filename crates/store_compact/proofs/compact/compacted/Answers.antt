use Rattle.std.proofs.Common.{◌≡◌, ℕ, Some, sym, ◌∙◌, ap, subst}
use Rattle.commit_store.specs.Known.{StoreState, KeepsStore}
use Rattle.commit_store.specs.Preparing.{IsCommitOf, committed, with_closed}
use Rattle.commit_store.specs.Saying.{StoreCommit}
use Rattle.commit_store.specs.Stepping.{Holds}
use Rattle.store_compact.specs.Compacting.{IsCompacted}
use Rattle.store_compact.proofs.AfterMoves.{compacted_is, stay_prepared}
use Rattle.store_compact.proofs.Results.{on_err}
use Rattle.store_compact.proofs.Steps.{closed_alone, commit_on}
use Rattle.store_compact.proofs.compact.compacted.Goals as goal

pub offer_last-requires-clause-stay : goal.offer_last-requires-clause-stay
offer_last-requires-clause-stay g c =
    stay_prepared c.args.store.now c.args.mapping.now c.args.next c.args.view.now c.in_ok-prepared.prepared c.in_ok-prepared.prepared.limit c.in_ok-prepared.ensures.prepared

pub returns-clause-stored : goal.returns-clause-stored
returns-clause-stored g c =
    let new : c.finished.new.self ≡ committed (with_closed c.args.store.now) c.offer_last.new.prepared
    = c.in_ok-finished.ensures.committed ∙ ap (λ (it : StoreState). committed it c.offer_last.new.prepared) c.in_ok-prepared.ensures.closed in
    subst (IsCompacted c.args.store.now c.args.mapping.now c.args.view.now c.args.most c.in_ok-count.count) (sym new)
    (compacted_is c.order_makes_no_difference.ensures.moved c.args.store.now c.args.mapping.now c.args.next c.args.view.now c.args.most c.in_ok-count.count c.in_ok-prepared.prepared c.offer_last.new.prepared
    c.limit-limit.ensures.store c.in_ok-prepared.ensures.prepared c.in_ok-count.ensures.moved)

pub returns-clause-done : goal.returns-clause-done
returns-clause-done g c = λ told found keeps.
    let own : StoreCommit = c.in_ok-count.ensures.by.commit.0 in
    let commit : IsCommitOf c.prepared.new.self c.offer_last.new.prepared own = c.in_ok-count.ensures.by.commit.1 in
    let says = c.in_ok-count.ensures.says c.args.mapping.now c.args.next c.args.view.now c.in_ok-prepared.ensures.says own commit in
    let first = c.prepared.ensures.step (c.finished.ensures.told told) found keeps in
    let mid : KeepsStore c.prepared.new.self found (g.D.Disk.image c.prepared.new.disk) = record { last = first.knows; keeps = first.step.keeps } in
    let limit : c.prepared.new.self.limit ≡ c.args.store.now.limit = ap (λ (it : StoreState). it.limit) c.in_ok-prepared.ensures.closed in
    record {
      commit = own;
      says = says;
      step =
          commit_on c.args.mapping.now c.args.next c.args.view.now c.args.store.now c.prepared.new.self c.finished.new.self found (Some own) own (g.D.Disk.image c.args.disk.now) (g.D.Disk.image c.prepared.new.disk)
          (g.D.Disk.image c.finished.new.disk) (g.D.Disk.moment c.args.disk.now) (g.D.Disk.moment c.prepared.new.disk) (g.D.Disk.moment c.finished.new.disk) (g.D.Disk.image_since c.args.disk.now)
          (g.D.Disk.image_since c.prepared.new.disk) (g.D.Disk.image_since c.finished.new.disk) limit (ap (λ (it : StoreState). it.limit) c.in_ok-finished.ensures.committed ∙ limit)
          says keeps first (c.in_ok-finished.ensures.done told found own commit mid);
      all = λ image there. subst (λ (it : ℕ). Holds it own image) limit (c.in_ok-finished.ensures.holds told found own commit mid image there);
    }

pub returns-in_err-finished-clause-failed : goal.returns-in_err-finished-clause-failed
returns-in_err-finished-clause-failed g c =
    on_err c.from_residual-in_err-finished.result (λ told found keeps.
    let own : StoreCommit = c.in_ok-count.ensures.by.commit.0 in
    let commit : IsCommitOf c.prepared.new.self c.offer_last.new.prepared own = c.in_ok-count.ensures.by.commit.1 in
    let says = c.in_ok-count.ensures.says c.args.mapping.now c.args.next c.args.view.now c.in_ok-prepared.ensures.says own commit in
    let first = c.prepared.ensures.step (c.finished.ensures.told told) found keeps in
    let mid : KeepsStore c.prepared.new.self found (g.D.Disk.image c.prepared.new.disk) = record { last = first.knows; keeps = first.step.keeps } in
    let limit : c.prepared.new.self.limit ≡ c.args.store.now.limit = ap (λ (it : StoreState). it.limit) c.in_ok-prepared.ensures.closed in
    commit_on c.args.mapping.now c.args.next c.args.view.now c.args.store.now c.prepared.new.self c.finished.new.self found found own (g.D.Disk.image c.args.disk.now) (g.D.Disk.image c.prepared.new.disk)
    (g.D.Disk.image c.finished.new.disk) (g.D.Disk.moment c.args.disk.now) (g.D.Disk.moment c.prepared.new.disk) (g.D.Disk.moment c.finished.new.disk) (g.D.Disk.image_since c.args.disk.now)
    (g.D.Disk.image_since c.prepared.new.disk) (g.D.Disk.image_since c.finished.new.disk) limit (c.in_err-finished.ensures.left.limit ∙ limit) says keeps first
    (c.in_err-finished.ensures.failed told found own commit mid))

pub returns-in_err-prepared-clause-failed : goal.returns-in_err-prepared-clause-failed
returns-in_err-prepared-clause-failed g c =
    on_err c.from_residual.result (λ told found keeps.
    closed_alone c.args.mapping.now c.args.next c.args.view.now c.args.store.now.limit c.prepared.new.self found (g.D.Disk.image c.args.disk.now) (g.D.Disk.image c.prepared.new.disk)
    (g.D.Disk.moment c.args.disk.now) (g.D.Disk.moment c.prepared.new.disk) (g.D.Disk.image_since c.args.disk.now) (g.D.Disk.image_since c.prepared.new.disk)
    (c.prepared.ensures.step told found keeps))

pub returns-in_err-count-clause-failed : goal.returns-in_err-count-clause-failed
returns-in_err-count-clause-failed g c =
    on_err c.from_residual-in_err-count.result (λ told found keeps.
    closed_alone c.args.mapping.now c.args.next c.args.view.now c.args.store.now.limit c.prepared.new.self found (g.D.Disk.image c.args.disk.now) (g.D.Disk.image c.prepared.new.disk)
    (g.D.Disk.moment c.args.disk.now) (g.D.Disk.moment c.prepared.new.disk) (g.D.Disk.image_since c.args.disk.now) (g.D.Disk.image_since c.prepared.new.disk)
    (c.prepared.ensures.step told found keeps))
