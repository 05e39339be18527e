use Rattle.std.proofs.Common.{rules, ◌<ℤ◌, ◌≤ℤ◌, sym, arith}
use Rattle.std.specs.Int.{w64}
use Rattle.std.proofs.lemmas.Int.{ints, to_z-of_z}
use mir.Val.{SFits, of_z, to_z}
use Rattle.composite_aggs.proofs.Filling.{no_next, walk_begins, walk_goes_on, walk_too_long}
use Rattle.composite_aggs.proofs.between.starts_between.Goals as goal

pub starts-init : goal.starts-init
starts-init c =
    rw (to_z-of_z w64 c.args.least c.ranges.least, to_z-of_z w64 c.args.greatest c.ranges.greatest, c.new-walk.ensures.items)
    (walk_begins c.args.interval c.args.least (c.starts_ascend.ensures c.args.interval) c.requires.least, c.requires.least, grind (arith, ints), c.requires.order, omega arith)

pub starts-preserved : goal.starts-preserved
starts-preserved c =
    let n = c.in-Some.following in
    let fits : SFits w64 n = search rules in
    let high = to_z-of_z w64 c.args.greatest c.ranges.greatest in
    let next : (to_z w64 c.starts.at-bits) <ℤ n = c.in-Some.ensures.begins.1 in
    let lower : to_z w64 (of_z w64 c.args.least) ≤ℤ (to_z w64 c.starts.at-bits) = c.starts.invariant.2 in
    let up_to : n ≤ℤ c.args.greatest = c.in-Some.ensures.least c.args.greatest c.requires.greatest (grind (arith, ints)) in
    rw (to_z-of_z w64 n fits, high) (
      walk_goes_on c.args.interval (to_z w64 (of_z w64 c.args.least)) (to_z w64 c.starts.at-bits) n c.starts.walk.items c.push.new.self.items (c.starts_ascend.ensures c.args.interval) lower c.starts.invariant.0 c.in_ok-push.ensures.items c.in-Some.ensures.begins.0 next c.in-Some.ensures.least,
      c.in-Some.ensures.begins.0,
      grind (arith, ints),
      up_to,
      omega arith,
    )

pub returns-in-None-clause-walk : goal.returns-in-None-clause-walk
returns-in-None-clause-walk c =
    absurd (no_next c.args.interval (to_z w64 c.starts.at-bits) c.args.greatest c.requires.greatest (grind (arith, ints)) (sym c.in-None.ensures.value))

pub returns-clause-cause : goal.returns-clause-cause
returns-clause-cause c =
    let low = to_z-of_z w64 c.args.least c.ranges.least in
    let high = to_z-of_z w64 c.args.greatest c.ranges.greatest in
    walk_too_long c.args.interval c.args.least (to_z w64 c.starts.at-bits) c.args.greatest c.starts.walk.items (rw low at c.starts.invariant.0) (rw high at c.starts.invariant.3) (omega arith)
