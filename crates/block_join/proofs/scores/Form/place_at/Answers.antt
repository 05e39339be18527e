use Rattle.std.proofs.Common.{◌≡◌, take, arith}
use Rattle.block_join.specs.Kept.{marks}
use Rattle.block_join.proofs.Counting.{marks_few, parted}
use Rattle.block_join.proofs.scores.Form.place_at.Goals as goal

pub overflow_add-result : goal.overflow_add-result
overflow_add-result c =
    let placed : c.args.at ≡ marks (take c.args.from c.args.set.now) = rw c.in-Listed.is at c.requires.placed in
    omega (arith, placed, c.count_between.ensures, parted c.args.set.now c.args.from c.args.end c.requires.ordered, c.ranges.end.fits, marks_few c.args.end c.args.set.now)

pub returns-in-Listed : goal.returns-in-Listed
returns-in-Listed c =
    let placed : c.args.at ≡ marks (take c.args.from c.args.set.now) = rw c.in-Listed.is at c.requires.placed in
    rw c.in-Listed.is (omega (arith, placed, c.count_between.ensures, parted c.args.set.now c.args.from c.args.end c.requires.ordered))
