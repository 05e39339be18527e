use Rattle.std.proofs.Common.{◌≡◌, ◌+◌, ◌-◌, arith}
use Rattle.made_load.specs.Sources.{stock_item}
use Rattle.made_load.proofs.Rows.{row_more, row_after}
use Rattle.made_load.proofs.source.put_stock.Goals as goal

pub items-preserved : goal.items-preserved
items-preserved c =
    let e : c.items.left ≡ (c.items.left - 1) + 1 = omega (arith, c.items-test.true) in (
      row_more stock_item c.items.later c.items.left (c.items.left - 1) c.items.draws.state _ c.items.into.bytes _ _ _ e c.put_comma.ensures.bytes
          c.put_stock_item.ensures.bytes c.put_stock_item.ensures.state c.items.invariant.0,
      row_after stock_item c.items.later c.items.left (c.items.left - 1) c.items.draws.state _ _ e c.put_stock_item.ensures.state c.items.invariant.1,
      omega (arith, c.items.invariant.2),
      omega (arith, c.items-test.true, c.items.invariant.3, c.put_comma.ensures.spare, c.put_stock_item.ensures.spare),
      omega (arith, c.items.invariant.4, c.put_comma.ensures.room, c.put_stock_item.ensures.room),
    )
