use Rattle.std.proofs.Common.{ℕ, ◌≡◌, ◌<◌, ◌≤◌, ◌↔◌, Bool, true, [], IsTrue, arith, refl}
use Rattle.std.proofs.lemmas.Bool.{false≢true}
use Rattle.std.proofs.lemmas.Result.{IfOk-weaker}
use Rattle.flattener.specs.Fits.{live_count, most_live}
use Rattle.index_core.specs.Kept.{AreBlocks, HaveOwnIds, laid, most_made}
use Rattle.store_opening.specs.Blocks.{ascends, live_through, numbers_through}
use Rattle.store_opening.proofs.Owned.{blocks_are, of_blocks_ids, of_blocks_numbers, of_blocks_objects}
use Rattle.store_opening.proofs.blocks.are_blocks.Goals as goal

pub returns-then-not-numbers_ascend : goal.returns-then-not-numbers_ascend
returns-then-not-numbers_ascend c = λ made few. (
  λ never. absurd (false≢true never),
  λ are. absurd (grind (arith, c.numbers_ascend.ensures, c.if-not-numbers_ascend.true, of_blocks_numbers c.args.entries.now c.args.next made c.entries_are_known.ensures are)),
)

pub returns-then-not-are_few : goal.returns-then-not-are_few
returns-then-not-are_few c = λ made few. (
  λ never. absurd (false≢true never),
  λ are. absurd (grind (arith, c.are_few.ensures, c.if-not-are_few.true, of_blocks_objects c.args.entries.now c.args.next made c.entries_are_known.ensures are)),
)

pub returns : goal.returns
returns c =
    let ascend : ascends 0 (numbers_through c.args.entries.now) c.args.next ≡ true = grind (arith, c.numbers_ascend.ensures, c.if-not-numbers_ascend.false) in
    let few : live_count c.args.entries.now ≤ most_live = grind (arith, c.are_few.ensures, c.if-not-are_few.false) in
    IfOk-weaker c.have_own_ids.result (λ (own : Bool). IsTrue own ↔ HaveOwnIds (live_through c.args.entries.now))
    (λ (are : Bool). (made : ℕ) → made < most_made → IsTrue are ↔ AreBlocks (laid c.args.entries.now [] made) c.args.next)
    (λ own is made below. (
      λ yes. blocks_are c.args.entries.now c.args.next made c.entries_are_known.ensures below ascend few (is.0 yes),
      λ are. is.1 (of_blocks_ids c.args.entries.now c.args.next made are),
    ))
    c.have_own_ids.ensures
