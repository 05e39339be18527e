use Rattle.std.proofs.Common.{◌≡◌, ◌+◌, ◌*◌, ◌≤◌, ◌++◌, false}
use Rattle.tree_json.specs.Output.{room_of}
use Rattle.made_load.specs.Draws.{next_state, drawn}
use Rattle.made_load.specs.Sources.{several, stock_item}
use Rattle.made_load.proofs.source.put_stock.Given as goal

-- what is written and what is left make the whole stock, and there is room for what is left
abbrev pub invariant-items : goal.invariant-items
invariant-items l =
    (l.into.bytes ++ (several stock_item l.later l.left l.draws.state).text
    ≡ l.fn.into.bytes ++ (several stock_item false (drawn 3 l.fn.draws.state) (next_state l.fn.draws.state)).text)
    × ((several stock_item l.later l.left l.draws.state).after ≡ (several stock_item false (drawn 3 l.fn.draws.state) (next_state l.fn.draws.state)).after)
    × (l.left ≤ 2)
    × (l.fn.into.spare + l.left * 38 ≤ l.into.spare + 76)
    × (room_of l.fn.into ≤ room_of l.into)

abbrev pub decreases-items : goal.decreases-items
decreases-items l = l.left
