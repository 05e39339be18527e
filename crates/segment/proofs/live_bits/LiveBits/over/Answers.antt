use Rattle.std.proofs.Common.{arith, ◌+◌, Bool, List, ap, subst, sym, refl}
use Rattle.segment.specs.Live.{LiveState}
use Rattle.segment.proofs.Deaths.{AreDead, dead-more, dead-all, live-next}
use Rattle.segment.proofs.live_bits.LiveBits.over.Goals as goal

pub kill-requires-clause-live : goal.kill-requires-clause-live
kill-requires-clause-live c =
    live-next c.dead.live.roots c.args.dead.now c.dead.root-index _ c.requires.ascending c.dead.invariant.1 c.dead-test.true refl
    (omega (arith, c.requires.roots c.dead.root-index 0 c.dead-test.true, c.dead.invariant.0.roots))

pub dead-preserved : goal.dead-preserved
dead-preserved c = (
  c.kill.ensures.over,
  subst (λ (roots : List Bool). AreDead roots c.args.dead.now (c.dead.root-index + 1)) (sym (ap (λ (live : LiveState). live.roots) c.kill.ensures.killed))
      (dead-more c.dead.live.roots c.args.dead.now c.dead.root-index _ c.dead.invariant.1 refl
      (omega (arith, c.requires.roots c.dead.root-index 0 c.dead-test.true, c.dead.invariant.0.roots))),
)

pub returns-clause-dead : goal.returns-clause-dead
returns-clause-dead c = λ root below.
    dead-all c.dead.live.roots c.args.dead.now c.dead.root-index c.dead.invariant.1 (omega (arith, c.dead-test.false, c.dead.auto.root-index-end)) root
    (omega (arith, below, c.dead.invariant.0.roots))
