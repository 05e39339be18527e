use Rattle.std.proofs.Common.{◌≡◌, ℕ, ◌+◌, Bool, true, false, List, Some, map, sym, ◌∙◌, ap, subst}
use Rattle.store_text.specs.Header.{slot}
use Rattle.store_text.specs.declared.header.Side.{Side}
use Rattle.commit_images.specs.Commits.{slot_of}
use Rattle.commit_images.specs.Keeping as keeping
use Rattle.commit_images.specs.Keeping.{is_first}
use Rattle.commit_images.specs.Steps.{IsReady, ShowsEither, Step}
use Rattle.commit_store.specs.Known.{StoreState}
use Rattle.commit_store.specs.Preparing.{idle_side}
use Rattle.commit_store.specs.Saying.{IsGood}
use Rattle.commit_store.proofs.Finishing.{part_step, whole_step}
use Rattle.commit_store.proofs.Results.{on_err}
use Rattle.commit_store.proofs.store.Store.written.Goals as goal

pub returns-in_err-make_ready-clause-failed : goal.returns-in_err-make_ready-clause-failed
returns-in_err-make_ready-clause-failed g c =
    on_err c.from_residual.result (λ told found new writing.
    let limit : ℕ = c.args.self.now.limit in
    let side : c.idle_slot-side.result ≡ keeping.idle found = c.idle_slot-side.ensures ∙ ap (λ (it : StoreState). idle_side it.side) c.self.view_is ∙ writing.side in
    subst
    (λ (it : Bool). Step (IsGood limit) found found it (ShowsEither (IsGood limit) found new) (g.D.Disk.image c.make_ready.new.disk) (g.D.Disk.moment c.args.disk.now)
    (g.D.Disk.moment c.make_ready.new.disk) (g.D.Disk.image_since c.args.disk.now) (g.D.Disk.image_since c.make_ready.new.disk))
    (sym (ap (λ (it : StoreState). it.closed) c.self.view_is ∙ c.requires.closed))
    (part_step limit found new (g.D.Disk.image c.args.disk.now) (g.D.Disk.image c.make_ready.new.disk) (g.D.Disk.moment c.args.disk.now) (g.D.Disk.moment c.make_ready.new.disk)
    (g.D.Disk.image_since c.args.disk.now) (g.D.Disk.image_since c.make_ready.new.disk) writing.keeps
    (c.make_ready.ensures.step told limit found side writing.whole.free writing.keeps)))

pub returns-in_err-open_gate-clause-failed : goal.returns-in_err-open_gate-clause-failed
returns-in_err-open_gate-clause-failed g c =
    on_err c.from_residual-in_err-open_gate.result (λ told found new writing.
    let limit : ℕ = c.args.self.now.limit in
    let mid = c.open_gate.ensures.told told in
    let side : c.idle_slot-side.result ≡ keeping.idle found = c.idle_slot-side.ensures ∙ ap (λ (it : StoreState). idle_side it.side) c.self.view_is ∙ writing.side in
    let same : slot c.idle_slot-side.result (c.self.inside.tried + 1) c.args.place.at c.args.place.len ≡ slot_of new
    = ap (λ (it : Side). slot it (c.self.inside.tried + 1) c.args.place.at c.args.place.len) c.idle_slot-side.ensures
    ∙ ap (λ (it : StoreState). slot (idle_side it.side) (it.tried + 1) c.args.place.at c.args.place.len) c.self.view_is
    ∙ writing.slot_is in
    let ready = c.make_ready.ensures.step mid limit found side writing.whole.free writing.keeps in
    let all : IsReady new (g.D.Disk.image c.make_ready.new.disk) = c.in_ok-make_ready.ensures.ready mid limit found new side writing.whole same writing.keeps in
    whole_step limit found found new false (g.D.Disk.image c.args.disk.now) (g.D.Disk.image c.make_ready.new.disk) (g.D.Disk.image c.open_gate.new.disk) (g.D.Disk.moment c.args.disk.now)
    (g.D.Disk.moment c.make_ready.new.disk) (g.D.Disk.moment c.open_gate.new.disk) (g.D.Disk.image_since c.args.disk.now) (g.D.Disk.image_since c.make_ready.new.disk)
    (g.D.Disk.image_since c.open_gate.new.disk) writing.keeps ready
    (c.in_err-open_gate.ensures.failed told limit found new side writing.whole.next writing.whole.good all ready.keeps))

pub returns-clause-done : goal.returns-clause-done
returns-clause-done g c = λ told found new writing.
    let limit : ℕ = c.args.self.now.limit in
    let mid = c.open_gate.ensures.told told in
    let side : c.idle_slot-side.result ≡ keeping.idle found = c.idle_slot-side.ensures ∙ ap (λ (it : StoreState). idle_side it.side) c.self.view_is ∙ writing.side in
    let same : slot c.idle_slot-side.result (c.self.inside.tried + 1) c.args.place.at c.args.place.len ≡ slot_of new
    = ap (λ (it : Side). slot it (c.self.inside.tried + 1) c.args.place.at c.args.place.len) c.idle_slot-side.ensures
    ∙ ap (λ (it : StoreState). slot (idle_side it.side) (it.tried + 1) c.args.place.at c.args.place.len) c.self.view_is
    ∙ writing.slot_is in
    let ready = c.make_ready.ensures.step mid limit found side writing.whole.free writing.keeps in
    let all : IsReady new (g.D.Disk.image c.make_ready.new.disk) = c.in_ok-make_ready.ensures.ready mid limit found new side writing.whole same writing.keeps in
    whole_step limit found (Some new) new (is_first found) (g.D.Disk.image c.args.disk.now) (g.D.Disk.image c.make_ready.new.disk) (g.D.Disk.image c.open_gate.new.disk) (g.D.Disk.moment c.args.disk.now)
    (g.D.Disk.moment c.make_ready.new.disk) (g.D.Disk.moment c.open_gate.new.disk) (g.D.Disk.image_since c.args.disk.now) (g.D.Disk.image_since c.make_ready.new.disk)
    (g.D.Disk.image_since c.open_gate.new.disk) writing.keeps ready
    (c.in_ok-open_gate.ensures.done told limit found new side writing.whole.next writing.whole.good all ready.keeps)

pub returns-clause-holds : goal.returns-clause-holds
returns-clause-holds g c = λ told found new writing image is.
    let limit : ℕ = c.args.self.now.limit in
    let mid = c.open_gate.ensures.told told in
    let side : c.idle_slot-side.result ≡ keeping.idle found = c.idle_slot-side.ensures ∙ ap (λ (it : StoreState). idle_side it.side) c.self.view_is ∙ writing.side in
    let same : slot c.idle_slot-side.result (c.self.inside.tried + 1) c.args.place.at c.args.place.len ≡ slot_of new
    = ap (λ (it : Side). slot it (c.self.inside.tried + 1) c.args.place.at c.args.place.len) c.idle_slot-side.ensures
    ∙ ap (λ (it : StoreState). slot (idle_side it.side) (it.tried + 1) c.args.place.at c.args.place.len) c.self.view_is
    ∙ writing.slot_is in
    let ready = c.make_ready.ensures.step mid limit found side writing.whole.free writing.keeps in
    let all : IsReady new (g.D.Disk.image c.make_ready.new.disk) = c.in_ok-make_ready.ensures.ready mid limit found new side writing.whole same writing.keeps in
    c.in_ok-open_gate.ensures.shown told limit found new side writing.whole.next writing.whole.good all ready.keeps image is
