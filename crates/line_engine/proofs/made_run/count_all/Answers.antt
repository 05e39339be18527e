use Rattle.std.proofs.Common.{◌≡◌, true, Ok, ap}
use Rattle.line_engine.proofs.made_run.count_all.Goals as goal

pub requests-preserved : goal.requests-preserved
requests-preserved g c =
    let more : Ok c.in_ok-count_next.field-0 ≡ Ok true = ap Ok c.if-branch.true in (
      λ limits start left begun within counted.
          c.in_ok-count_next.ensures.counted more limits start left begun within (c.requests.invariant.0 limits start left begun within counted),
      c.in_ok-count_next.ensures.known,
      c.in_ok-count_next.ensures.calls more,
    )
