use Rattle.std.proofs.Common.{◌≡◌, ℕ, [], ◌∷◌, ◌∙◌, ap, subst}
use Rattle.disk.specs.Memory.{written}
use Rattle.disk.specs.Stops.{Torn, Follows, Allows}
use Rattle.store_text.specs.Header.{gate_at, open_byte}
use Rattle.commit_images.specs.Keeping.{idle}
use Rattle.commit_images.specs.Going.{some_image, all_written, IsStaged, all_new, step_opening, step_opening_synced, step_opened}
use Rattle.commit_images.proofs.Results.{on_err}
use Rattle.commit_images.proofs.steps.open_gate.Goals as goal

pub returns-in_err-write_at-clause-failed : goal.returns-in_err-write_at-clause-failed
returns-in_err-write_at-clause-failed g c =
    on_err c.from_residual.result (λ told limit active new side next good ready keeps.
    let here : c.gate_at-offset.result ≡ gate_at (idle active) = c.gate_at-offset.ensures.place ∙ ap gate_at side in
    let staged : IsStaged (g.S.Saying.IsGood limit) active new (g.D.Disk.image c.args.disk.now) = record { keeps = keeps; next = next; good = good; ready = ready } in
    step_opening (g.S.Saying.IsGood limit) active new (g.D.Disk.image c.args.disk.now) (g.D.Disk.image c.write_at.new.self) staged
    (subst (λ (it : ℕ). Follows (Torn it 1) (g.D.Disk.image c.args.disk.now) (g.D.Disk.image c.write_at.new.self)) here c.write_at.ensures.images)
    (subst (λ (it : ℕ). Allows (Torn it 1) (g.D.Disk.image c.args.disk.now) (g.D.Disk.image c.write_at.new.self)) here (c.write_at.ensures.allowed told))
    c.write_at.ensures.time)

pub returns-in_err-sync-clause-failed : goal.returns-in_err-sync-clause-failed
returns-in_err-sync-clause-failed g c =
    on_err c.from_residual-in_err-sync.result (λ told limit active new side next good ready keeps.
    let here : c.gate_at-offset.result ≡ gate_at (idle active) = c.gate_at-offset.ensures.place ∙ ap gate_at side in
    let staged : IsStaged (g.S.Saying.IsGood limit) active new (g.D.Disk.image c.args.disk.now) = record { keeps = keeps; next = next; good = good; ready = ready } in
    step_opening_synced (g.S.Saying.IsGood limit) active new (g.D.Disk.image c.args.disk.now) (g.D.Disk.image c.write_at.new.self) (g.D.Disk.image c.sync.new.self) staged
    (subst (λ (it : ℕ). Follows (Torn it 1) (g.D.Disk.image c.args.disk.now) (g.D.Disk.image c.write_at.new.self)) here c.write_at.ensures.images)
    (subst (λ (it : ℕ). Allows (Torn it 1) (g.D.Disk.image c.args.disk.now) (g.D.Disk.image c.write_at.new.self)) here (c.write_at.ensures.allowed (c.sync.ensures.told told)))
    c.write_at.ensures.time c.sync.ensures.images (c.in_err-sync.ensures.allowed told) c.sync.ensures.time)

pub returns-clause-done : goal.returns-clause-done
returns-clause-done g c = λ told limit active new side next good ready keeps.
    let here : c.gate_at-offset.result ≡ gate_at (idle active) = c.gate_at-offset.ensures.place ∙ ap gate_at side in
    let staged : IsStaged (g.S.Saying.IsGood limit) active new (g.D.Disk.image c.args.disk.now) = record { keeps = keeps; next = next; good = good; ready = ready } in
    let all = all_written c.gate_at-offset.result (open_byte ∷ []) (g.D.Disk.content c.args.disk.now) (g.D.Disk.content c.write_at.new.self)
    (g.D.Disk.content c.sync.new.self) (g.D.Disk.image c.sync.new.self) (c.write_at.ensures.told (c.sync.ensures.told told)) c.in_ok-write_at.ensures.content
    c.in_ok-sync.ensures.content c.in_ok-sync.ensures.only in
    step_opened (g.S.Saying.IsGood limit) active new (g.D.Disk.image c.args.disk.now) (g.D.Disk.image c.write_at.new.self) (g.D.Disk.image c.sync.new.self) all.0 staged
    (subst (λ (it : ℕ). Follows (Torn it 1) (g.D.Disk.image c.args.disk.now) (g.D.Disk.image c.write_at.new.self)) here c.write_at.ensures.images)
    c.write_at.ensures.time c.sync.ensures.images c.sync.ensures.time
    (λ image is. all.2 image is ∙ ap (λ (it : ℕ). written it (open_byte ∷ []) all.0) here)
    (some_image (g.D.Disk.content c.sync.new.self) (g.D.Disk.image c.sync.new.self) (g.met.D.Disk.gives_image c.sync.new.self) told)

pub returns-clause-shown : goal.returns-clause-shown
returns-clause-shown g c = λ told limit active new side next good ready keeps image is.
    let here : c.gate_at-offset.result ≡ gate_at (idle active) = c.gate_at-offset.ensures.place ∙ ap gate_at side in
    let staged : IsStaged (g.S.Saying.IsGood limit) active new (g.D.Disk.image c.args.disk.now) = record { keeps = keeps; next = next; good = good; ready = ready } in
    let all = all_written c.gate_at-offset.result (open_byte ∷ []) (g.D.Disk.content c.args.disk.now) (g.D.Disk.content c.write_at.new.self)
    (g.D.Disk.content c.sync.new.self) (g.D.Disk.image c.sync.new.self) (c.write_at.ensures.told (c.sync.ensures.told told)) c.in_ok-write_at.ensures.content
    c.in_ok-sync.ensures.content c.in_ok-sync.ensures.only in
    all_new (g.S.Saying.IsGood limit) active new (g.D.Disk.image c.args.disk.now) (g.D.Disk.image c.write_at.new.self) (g.D.Disk.image c.sync.new.self) all.0 staged
    (subst (λ (it : ℕ). Follows (Torn it 1) (g.D.Disk.image c.args.disk.now) (g.D.Disk.image c.write_at.new.self)) here c.write_at.ensures.images)
    c.sync.ensures.images
    (λ image is. all.2 image is ∙ ap (λ (it : ℕ). written it (open_byte ∷ []) all.0) here)
    image is
