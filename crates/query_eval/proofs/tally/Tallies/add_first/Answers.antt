use Rattle.std.proofs.Common.{◌≡◌, suc, [], length, arith}
use Rattle.query_eval.proofs.Slots.{told_first}
use Rattle.query_eval.proofs.tally.Tallies.add_first.Goals as goal

pub returns-clause-tallies : goal.returns-clause-tallies
returns-clause-tallies c = λ pairs was.
    let tallies = c.args.self.now in
    let slot : c.in-Some.slot ≡ suc (length tallies.told.items) = omega (arith, c.in-Some.ensures.1, c.in-Ok.ensures, c.len.ensures) in
    rw (slot, c.in_ok-push.ensures.items)
    (told_first pairs tallies.slots.items tallies.told.items c.args.key c.args.score c.add.new.self was c.requires.key c.requires.first tallies.within (c.in_ok-add.ensures [] c.none-tally.ensures))
