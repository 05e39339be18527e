use Rattle.std.proofs.Common.{◌≡◌, ℕ, List, Some, ◌∙◌, ap, subst}
use Rattle.commit_store.specs.Known.{StoreState, KeepsStore}
use Rattle.commit_store.specs.Preparing.{IsCommitOf}
use Rattle.commit_store.specs.Saying.{StoreCommit}
use Rattle.commit_store.specs.Stepping.{Holds}
use Rattle.commit_store.proofs.Finishing.{commit_on}
use Rattle.commit_store.proofs.Results.{on_err}
use Rattle.commit_store.proofs.store.Store.commit.Goals as goal

pub returns-in_err-finished-clause-failed : goal.returns-in_err-finished-clause-failed
returns-in_err-finished-clause-failed g c =
    on_err c.from_residual-in_err-finished.result (λ told found keeps.
    let own : StoreCommit = c.in_ok-prepared.ensures.by.commit.0 in
    let commit : IsCommitOf c.prepared.new.self c.in_ok-prepared.prepared own = c.in_ok-prepared.ensures.by.commit.1 in
    let first = c.prepared.ensures.step (c.finished.ensures.told told) found keeps in
    let mid : KeepsStore c.prepared.new.self found (g.D.Disk.image c.prepared.new.disk) = record { last = first.knows; keeps = first.step.keeps } in
    let limit : c.prepared.new.self.limit ≡ c.args.self.now.limit = ap (λ (it : StoreState). it.limit) c.in_ok-prepared.ensures.closed in
    commit_on c.args.mapping.now c.args.next c.args.view.now c.args.self.now c.prepared.new.self c.finished.new.self found found own (g.D.Disk.image c.args.disk.now) (g.D.Disk.image c.prepared.new.disk)
    (g.D.Disk.image c.finished.new.disk) (g.D.Disk.moment c.args.disk.now) (g.D.Disk.moment c.prepared.new.disk) (g.D.Disk.moment c.finished.new.disk) (g.D.Disk.image_since c.args.disk.now)
    (g.D.Disk.image_since c.prepared.new.disk) (g.D.Disk.image_since c.finished.new.disk) limit (c.in_err-finished.ensures.left.limit ∙ limit) (c.in_ok-prepared.ensures.says own commit) keeps first
    (c.in_err-finished.ensures.failed told found own commit mid))

pub returns-clause-done : goal.returns-clause-done
returns-clause-done g c = λ told found keeps.
    let own : StoreCommit = c.in_ok-prepared.ensures.by.commit.0 in
    let commit : IsCommitOf c.prepared.new.self c.in_ok-prepared.prepared own = c.in_ok-prepared.ensures.by.commit.1 in
    let first = c.prepared.ensures.step (c.finished.ensures.told told) found keeps in
    let mid : KeepsStore c.prepared.new.self found (g.D.Disk.image c.prepared.new.disk) = record { last = first.knows; keeps = first.step.keeps } in
    let limit : c.prepared.new.self.limit ≡ c.args.self.now.limit = ap (λ (it : StoreState). it.limit) c.in_ok-prepared.ensures.closed in
    record {
      commit = own;
      says = c.in_ok-prepared.ensures.says own commit;
      step =
          commit_on c.args.mapping.now c.args.next c.args.view.now c.args.self.now c.prepared.new.self c.finished.new.self found (Some own) own (g.D.Disk.image c.args.disk.now) (g.D.Disk.image c.prepared.new.disk)
          (g.D.Disk.image c.finished.new.disk) (g.D.Disk.moment c.args.disk.now) (g.D.Disk.moment c.prepared.new.disk) (g.D.Disk.moment c.finished.new.disk) (g.D.Disk.image_since c.args.disk.now)
          (g.D.Disk.image_since c.prepared.new.disk) (g.D.Disk.image_since c.finished.new.disk) limit (ap (λ (it : StoreState). it.limit) c.in_ok-finished.ensures.committed ∙ limit)
          (c.in_ok-prepared.ensures.says own commit) keeps first (c.in_ok-finished.ensures.done told found own commit mid);
      all = λ image there. subst (λ (it : ℕ). Holds it own image) limit (c.in_ok-finished.ensures.holds told found own commit mid image there);
    }
