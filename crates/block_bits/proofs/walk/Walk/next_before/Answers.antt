use Rattle.std.proofs.Common.{arith, sym, ◌∙◌}
use Rattle.block_bits.proofs.Search.{walk_taken, walk_passed}
use Rattle.block_bits.proofs.Walked.{walk_long, walk_flags, walk_from, answer_is, answer_within, answer_reaches}
use Rattle.block_bits.proofs.walk.Walk.next_before.Goals as goal

pub next_document-place-requires-clause-within : goal.next_document-place-requires-clause-within
next_document-place-requires-clause-within c =
    omega (arith, c.requires, c.self.invariant.tight.long, walk_long _ _ _ c.args.self.now c.self.view_is)

pub invariant_of-self : goal.invariant_of-self
invariant_of-self c =
    let answer = c.next_document-place.ensures.answer c.self.inside.from c.self.invariant.searched in
    let first = rw c.in-Some.is at answer in
    record {
      tight = c.self.invariant.tight;
      within = omega (arith, first.first.1, c.requires, walk_long _ _ _ c.args.self.now c.self.view_is);
      searched = walk_taken c.self.inside.words.now c.self.inside.from c.next_document-place.result.0 c.next_document-place.result.1 c.in-Some.at first.searched first.first.0;
    }

pub invariant_of-self-in-None : goal.invariant_of-self-in-None
invariant_of-self-in-None c =
    let answer = c.next_document-place.ensures.answer c.self.inside.from c.self.invariant.searched in
    let none = rw c.in-None.is at answer in
    record {
      tight = c.self.invariant.tight;
      within = omega (arith, c.requires, walk_long _ _ _ c.args.self.now c.self.view_is);
      searched = walk_passed c.self.inside.words.now c.self.inside.from c.next_document-place.result.0 c.next_document-place.result.1 c.args.end
          none.searched none.none (omega (arith, c.if-self-end.false)) (answer_reaches _ _ _ _ _ none);
    }

pub returns-in-Some-clause-value : goal.returns-in-Some-clause-value
returns-in-Some-clause-value c =
    rw (← walk_from _ _ _ c.args.self.now c.self.view_is)
    (sym c.in-Some.is
    ∙ answer_is _ _ _ _ _ c.args.end c.args.self.now.documents _ (walk_flags _ _ _ c.args.self.now c.self.view_is) c.requires
    (c.next_document-place.ensures.answer c.self.inside.from c.self.invariant.searched))

pub returns-in-Some-clause-within : goal.returns-in-Some-clause-within
returns-in-Some-clause-within c =
    let within = answer_within _ _ _ _ _ _ (c.next_document-place.ensures.answer c.self.inside.from c.self.invariant.searched) in
    rw (← walk_from _ _ _ c.args.self.now c.self.view_is) (rw c.in-Some.is at within)

pub returns-in-None-clause-value : goal.returns-in-None-clause-value
returns-in-None-clause-value c =
    rw (← walk_from _ _ _ c.args.self.now c.self.view_is)
    (sym c.in-None.is
    ∙ answer_is _ _ _ _ _ c.args.end c.args.self.now.documents _ (walk_flags _ _ _ c.args.self.now c.self.view_is) c.requires
    (c.next_document-place.ensures.answer c.self.inside.from c.self.invariant.searched))
