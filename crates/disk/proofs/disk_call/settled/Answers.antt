use Rattle.std.proofs.Common.{◌≡◌, ◌+◌, Bool, cond, take, ap, sym, ◌∙◌, arith}
use Rattle.disk.specs.Choices.{is_sync, settled}
use Rattle.disk.proofs.Settled.{settled_more}
use Rattle.disk.proofs.disk_call.settled.Goals as goal
use Rattle.disk.proofs.disk_call.settled.Goals.{then-is_sync, else-is_sync}

pub calls-preserved : goal.calls-preserved
calls-preserved c =
    let call = c.index-calls-index.result in
    let before = settled (take c.calls.index c.args.calls.now) in
    let more : settled (take (c.calls.index + 1) c.args.calls.now) ≡ cond c.is_sync.result (c.calls.index + 1) before =
    settled_more c.args.calls.now c.calls.index call (omega arith)
    ∙ ap (λ (sync : Bool). cond sync (c.calls.index + 1) before) (ap is_sync (sym c.index-calls-index.is) ∙ sym c.is_sync.ensures) in
    elim c.if-is_sync.branch [
      | then-is_sync w ↦ record {
        count = w.count-is ∙ sym (more ∙ ap (λ (sync : Bool). cond sync (c.calls.index + 1) before) w.if-is_sync.true);
        within = omega arith;
      }
      | else-is_sync w ↦ record {
        count = w.count-is ∙ c.calls.invariant.count ∙ sym (more ∙ ap (λ (sync : Bool). cond sync (c.calls.index + 1) before) w.if-is_sync.false);
        within = omega arith;
      }
    ]
