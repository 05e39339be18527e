use Rattle.std.proofs.Common.{arith, refl}
use Rattle.std.proofs.lemmas.Bool.{false≢true}
use Rattle.store_opening.proofs.Owned.{entry_next, through_end, through_twice}
use Rattle.store_opening.proofs.blocks.have_own_ids.Goals as goal

pub returns-then-not-branch : goal.returns-then-not-branch
returns-then-not-branch c = (
  λ never. absurd (false≢true never),
  λ own.
      absurd (through_twice c.args.entries.now c.entries.entry-index c.entry-item.result c.entries.ids
      (entry_next c.args.entries.now c.entries.entry-index c.entry-item.result c.entry-item.result c.entries-test.true c.entry-item.is) c.entries.invariant
      (grind (arith, c.in_ok-put_ids.ensures.twice, c.if-not-branch.true)) own),
)

pub returns : goal.returns
returns c = (λ yes. through_end c.args.entries.now c.entries.entry-index c.entries.ids (omega (arith, c.entries-test.false)) c.entries.invariant, λ own. refl)
