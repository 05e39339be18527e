use Rattle.std.proofs.Common.{◌≡◌, ◌+◌, ◌-◌, ◌<◌, length, drop, ap, arith}
use Rattle.std.specs.List.{sum_by}
use Rattle.merge_policy.proofs.Counting.{behind_lives, behind_made, lives_next}
use Rattle.merge_policy.proofs.policy.evened.Goals as goal
use Rattle.merge_policy.specs.Runs.{live_counted}

pub put-requires-clause-few : goal.put-requires-clause-few
put-requires-clause-few c =
    let cs = c.args.counts.now in
    let from = c.segments.index in
    let one = behind_lives cs c.args.factor from c.segments.behind c.segments.invariant.1 in
    let within : from - 1 < length cs = omega (arith, c.segments.invariant.0) in
    let two = lives_next cs (from - 1) c.standing-next.result _ c.standing-next.ensures within in
    let e : from - 1 + 1 ≡ from = omega arith in
    let rest = ap (λ k. sum_by live_counted (drop k cs)) e in
    omega (arith, one, two, rest, c.requires.few)

pub put-requires-clause-made : goal.put-requires-clause-made
put-requires-clause-made c =
    omega (arith, behind_made c.args.counts.now c.args.factor c.segments.index c.segments.behind c.segments.invariant.1, c.segments.invariant.0, c.segments.invariant.2)

pub returns-clause-few : goal.returns-clause-few
returns-clause-few c =
    omega (arith, behind_made c.args.counts.now c.args.factor c.segments.index c.segments.behind c.segments.invariant.1, c.segments.invariant.2)
