use Rattle.std.proofs.Common.{◌≡◌, ℕ, Bool, true, false, List, sym, ◌∙◌, ap, subst}
use Rattle.store_text.specs.declared.header.Side.{Side}
use Rattle.commit_images.specs.Keeping as keeping
use Rattle.commit_images.specs.Steps.{Step}
use Rattle.commit_store.specs.Known.{StoreState}
use Rattle.commit_store.specs.Preparing.{idle_side, with_closed}
use Rattle.commit_store.specs.Saying.{FoundAs, IsGood}
use Rattle.commit_store.specs.Stepping.{IsStep}
use Rattle.commit_store.proofs.Closing.{last_closed}
use Rattle.commit_store.proofs.Writing.{idle_is}
use Rattle.commit_store.proofs.store.Store.idle_closed.Goals as goal

pub returns-in-Ok-clause-step : goal.returns-in-Ok-clause-step
returns-in-Ok-clause-step g c = λ told found keeps.
    let now : StoreState = c.args.self.now in
    let shut : c.args.self.now.closed ≡ false = sym (ap (λ (it : StoreState). it.closed) c.self.view_is) ∙ c.if-self.false in
    let side : c.idle_slot-side.result ≡ keeping.idle found = c.idle_slot-side.ensures ∙ ap (λ (it : StoreState). idle_side it.side) c.self.view_is ∙ idle_is now found keeps.last in
    subst
    (λ (it : StoreState). IsStep it found found (FoundAs now.limit (g.D.Disk.image c.args.disk.now)) (g.D.Disk.image c.close_gate.new.disk) (g.D.Disk.moment c.args.disk.now)
    (g.D.Disk.moment c.close_gate.new.disk) (g.D.Disk.image_since c.args.disk.now) (g.D.Disk.image_since c.close_gate.new.disk))
    (sym (ap with_closed c.self.view_is))
    (record {
      knows = last_closed now found keeps.last;
      step = c.in-Ok.ensures.done told now.limit found side (subst (λ (it : Bool). keeping.KeepsCommit (IsGood now.limit) found it (g.D.Disk.image c.args.disk.now)) shut keeps.keeps);
    })

pub returns-in-Err-clause-step : goal.returns-in-Err-clause-step
returns-in-Err-clause-step g c = λ told found keeps.
    let now : StoreState = c.args.self.now in
    let shut : c.args.self.now.closed ≡ false = sym (ap (λ (it : StoreState). it.closed) c.self.view_is) ∙ c.if-self.false in
    let side : c.idle_slot-side.result ≡ keeping.idle found = c.idle_slot-side.ensures ∙ ap (λ (it : StoreState). idle_side it.side) c.self.view_is ∙ idle_is now found keeps.last in
    record {
      knows = keeps.last;
      step =
          subst
          (λ (it : Bool). Step (IsGood now.limit) found found it (FoundAs now.limit (g.D.Disk.image c.args.disk.now)) (g.D.Disk.image c.close_gate.new.disk) (g.D.Disk.moment c.args.disk.now)
          (g.D.Disk.moment c.close_gate.new.disk) (g.D.Disk.image_since c.args.disk.now) (g.D.Disk.image_since c.close_gate.new.disk))
          (sym shut)
          (c.in-Err.ensures.failed told now.limit found side (subst (λ (it : Bool). keeping.KeepsCommit (IsGood now.limit) found it (g.D.Disk.image c.args.disk.now)) shut keeps.keeps));
    }
