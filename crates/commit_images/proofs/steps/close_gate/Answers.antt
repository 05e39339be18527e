use Rattle.std.proofs.Common.{◌≡◌, ℕ, [], ◌∷◌, ◌∙◌, ap, subst}
use Rattle.disk.specs.Memory.{written}
use Rattle.disk.specs.Stops.{Torn, Follows, Allows}
use Rattle.store_text.specs.Header.{gate_at}
use Rattle.commit_images.specs.Keeping.{idle}
use Rattle.commit_images.specs.Going.{some_image, all_written, step_gate, step_gate_synced, step_gate_shut}
use Rattle.commit_images.proofs.Results.{on_err}
use Rattle.commit_images.proofs.steps.close_gate.Goals as goal

pub returns-in_err-write_at-clause-failed : goal.returns-in_err-write_at-clause-failed
returns-in_err-write_at-clause-failed g c =
    on_err c.from_residual.result (λ told limit active side keeps.
    let here : c.gate_at-offset.result ≡ gate_at (idle active) = c.gate_at-offset.ensures.place ∙ ap gate_at side in
    step_gate (g.S.Saying.IsGood limit) active (g.D.Disk.image c.args.disk.now) (g.D.Disk.image c.write_at.new.self) keeps
    (subst (λ (it : ℕ). Follows (Torn it 1) (g.D.Disk.image c.args.disk.now) (g.D.Disk.image c.write_at.new.self)) here c.write_at.ensures.images)
    (subst (λ (it : ℕ). Allows (Torn it 1) (g.D.Disk.image c.args.disk.now) (g.D.Disk.image c.write_at.new.self)) here (c.write_at.ensures.allowed told))
    c.write_at.ensures.time)

pub returns-in_err-sync-clause-failed : goal.returns-in_err-sync-clause-failed
returns-in_err-sync-clause-failed g c =
    on_err c.from_residual-in_err-sync.result (λ told limit active side keeps.
    let here : c.gate_at-offset.result ≡ gate_at (idle active) = c.gate_at-offset.ensures.place ∙ ap gate_at side in
    step_gate_synced (g.S.Saying.IsGood limit) active (g.D.Disk.image c.args.disk.now) (g.D.Disk.image c.write_at.new.self) (g.D.Disk.image c.sync.new.self) keeps
    (subst (λ (it : ℕ). Follows (Torn it 1) (g.D.Disk.image c.args.disk.now) (g.D.Disk.image c.write_at.new.self)) here c.write_at.ensures.images)
    (subst (λ (it : ℕ). Allows (Torn it 1) (g.D.Disk.image c.args.disk.now) (g.D.Disk.image c.write_at.new.self)) here (c.write_at.ensures.allowed (c.sync.ensures.told told)))
    c.write_at.ensures.time c.sync.ensures.images (c.in_err-sync.ensures.allowed told) c.sync.ensures.time)

pub returns-clause-done : goal.returns-clause-done
returns-clause-done g c = λ told limit active side keeps.
    let here : c.gate_at-offset.result ≡ gate_at (idle active) = c.gate_at-offset.ensures.place ∙ ap gate_at side in
    let all = all_written c.gate_at-offset.result (0 ∷ []) (g.D.Disk.content c.args.disk.now) (g.D.Disk.content c.write_at.new.self)
    (g.D.Disk.content c.sync.new.self) (g.D.Disk.image c.sync.new.self) (c.write_at.ensures.told (c.sync.ensures.told told)) c.in_ok-write_at.ensures.content
    c.in_ok-sync.ensures.content c.in_ok-sync.ensures.only in
    step_gate_shut (g.S.Saying.IsGood limit) active (g.D.Disk.image c.args.disk.now) (g.D.Disk.image c.write_at.new.self) (g.D.Disk.image c.sync.new.self) all.0 keeps
    (subst (λ (it : ℕ). Follows (Torn it 1) (g.D.Disk.image c.args.disk.now) (g.D.Disk.image c.write_at.new.self)) here c.write_at.ensures.images)
    c.write_at.ensures.time c.sync.ensures.images c.sync.ensures.time
    (λ image is. all.2 image is ∙ ap (λ (it : ℕ). written it (0 ∷ []) all.0) here)
    (some_image (g.D.Disk.content c.sync.new.self) (g.D.Disk.image c.sync.new.self) (g.met.D.Disk.gives_image c.sync.new.self) told)
