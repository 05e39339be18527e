use Rattle.std.proofs.Common.{◌≡◌, ◌-◌, ◌<◌, suc, get_or, length, sym, subst, arith}
use Rattle.query_eval.specs.Sides.{IsTold, TallyOf, scores_of}
use Rattle.query_eval.proofs.Slots.{own_slot, told_again}
use Rattle.query_eval.proofs.tally.Tallies.add.Goals as goal

pub returns-clause-tallies : goal.returns-clause-tallies
returns-clause-tallies c = λ pairs was.
    let tallies = c.args.self.now in
    let slot = c.index-slot.result.now in
    let own : slot ≡ get_or tallies.slots.items c.args.key 0 = own_slot tallies.slots.items c.args.key slot c.requires.key c.index-slot.ensures in
    let at : get_or tallies.slots.items c.args.key 0 ≡ suc (slot - 1) = omega (arith, own, c.if-slot-eq0.false) in
    let within : slot - 1 < length tallies.told.items = omega (arith, at, tallies.within c.args.key) in
    let known : IsTold (scores_of c.args.key pairs) tallies.told.items (suc (slot - 1)) = subst (IsTold (scores_of c.args.key pairs) tallies.told.items) at (was.each c.args.key c.requires.key) in
    let before : TallyOf (scores_of c.args.key pairs) c.index_mut-tally.result.now =
    subst (TallyOf (scores_of c.args.key pairs)) (sym c.index_mut-tally.ensures.value) (known c.index_mut-tally.result.now) in
    told_again pairs tallies.slots.items tallies.told.items c.args.key c.args.score c.add.new.self was c.requires.key (slot - 1) at within (c.in_ok-add.ensures (scores_of c.args.key pairs) before)
