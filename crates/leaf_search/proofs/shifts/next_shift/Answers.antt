use Rattle.std.proofs.Common.{◌-◌, length, get_or, refl, arith}
use Rattle.leaf_search.proofs.Shifting.{moved_first, moved_more}
use Rattle.leaf_search.proofs.shifts.next_shift.Goals as goal

pub shifts-init : goal.shifts-init
shifts-init c = moved_first c.args.words.now c.args.shifts.now (length c.args.shifts.now - 1) (get_or c.args.shifts.now (length c.args.shifts.now - 1) 0) c.requires.shifts (omega (arith, c.requires.some)) refl

pub shifts-preserved : goal.shifts-preserved
shifts-preserved c =
    moved_more c.args.words.now c.args.shifts.now (length c.args.shifts.now - 1) c.shifts.shift (get_or c.args.shifts.now (length c.args.shifts.now - 1 - c.shifts.shift) 0)
    c.requires.shifts (omega (arith, c.requires.some)) c.shifts.invariant c.shifts-test.true c.if-words-last.false refl
