use Rattle.std.proofs.Common.{refl, arith}
use Rattle.store_opening.specs.Read.{IsPlace}
use Rattle.store_opening.proofs.Each.{all_more, all_end}
use Rattle.store_opening.proofs.extents.are_places.Goals as goal

pub extents-preserved : goal.extents-preserved
extents-preserved c =
    all_more (IsPlace c.args.limit) c.args.extents.now c.extents.extent-index _ c.extents-test.true c.extents.invariant (c.if-not-is_place.ensures.0 refl)

pub returns : goal.returns
returns c = (
  λ yes. all_end (IsPlace c.args.limit) c.args.extents.now c.extents.extent-index (omega (arith, c.extents-test.false)) c.extents.invariant,
  λ all. refl,
)
