use Rattle.std.proofs.Common.{◌≡◌, arith, length, max}
use Rattle.std.proofs.lemmas.List.{take_all}
use Rattle.block_bits.proofs.Walked.{walk_long, walk_from}
use Rattle.block_bits.proofs.walk.Walk.next.Goals as goal

pub next_before-requires : goal.next_before-requires
next_before-requires c = omega (arith, walk_long _ _ _ c.args.self.now c.next_before.view_is)

pub returns-clause-value : goal.returns-clause-value
returns-clause-value c =
    let long = walk_long _ _ _ c.args.self.now c.next_before.view_is in
    rw (← take_all c.next_before.inside.len c.args.self.now.documents (omega (arith, long))) c.next_before-2.ensures.value

pub returns-clause-within : goal.returns-clause-within
returns-clause-within c =
    rw (← walk_long _ _ _ c.args.self.now c.next_before.view_is) c.next_before-2.ensures.within

pub returns-clause-ended : goal.returns-clause-ended
returns-clause-ended c =
    let long = walk_long _ _ _ c.args.self.now c.next_before.view_is in
    let from_is = walk_from _ _ _ c.args.self.now c.next_before.view_is in
    let all : max c.args.self.now.from c.next_before.inside.len ≡ length c.args.self.now.documents = omega (arith, long, from_is, c.next_before.invariant.within) in
    rw all at c.next_before-2.ensures.passed
