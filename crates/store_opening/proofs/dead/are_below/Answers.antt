use Rattle.std.proofs.Common.{ℕ, ◌<◌, refl, arith}
use Rattle.store_opening.proofs.Each.{all_more, all_end}
use Rattle.store_opening.proofs.dead.are_below.Goals as goal

pub indexes-preserved : goal.indexes-preserved
indexes-preserved c =
    all_more (λ (index : ℕ). index < c.args.count) c.args.indexes.now c.indexes.index-index _ c.indexes-test.true c.indexes.invariant
    (c.if-not-is_below.ensures.0 refl)

pub returns : goal.returns
returns c = (
  λ yes. all_end (λ (index : ℕ). index < c.args.count) c.args.indexes.now c.indexes.index-index (omega (arith, c.indexes-test.false)) c.indexes.invariant,
  λ all. refl,
)
