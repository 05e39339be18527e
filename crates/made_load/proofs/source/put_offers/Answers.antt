use Rattle.std.proofs.Common.{◌≡◌, ◌+◌, ◌-◌, arith}
use Rattle.made_load.specs.Sources.{offer}
use Rattle.made_load.proofs.Rows.{row_more, row_after}
use Rattle.made_load.proofs.source.put_offers.Goals as goal

pub offers-preserved : goal.offers-preserved
offers-preserved c =
    let e : c.offers.left ≡ (c.offers.left - 1) + 1 = omega (arith, c.offers-test.true) in (
      row_more offer c.offers.later c.offers.left (c.offers.left - 1) c.offers.draws.state _ c.offers.into.bytes _ _ _ e c.put_comma.ensures.bytes
          c.put_offer.ensures.bytes c.put_offer.ensures.state c.offers.invariant.0,
      row_after offer c.offers.later c.offers.left (c.offers.left - 1) c.offers.draws.state _ _ e c.put_offer.ensures.state c.offers.invariant.1,
      omega (arith, c.offers.invariant.2),
      omega (arith, c.offers-test.true, c.offers.invariant.3, c.put_comma.ensures.spare, c.put_offer.ensures.spare),
      omega (arith, c.offers.invariant.4, c.put_comma.ensures.room, c.put_offer.ensures.room),
    )
