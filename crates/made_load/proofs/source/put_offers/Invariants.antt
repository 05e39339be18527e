use Rattle.std.proofs.Common.{◌≡◌, ◌+◌, ◌*◌, ◌≤◌, ◌++◌, false}
use Rattle.tree_json.specs.Output.{room_of}
use Rattle.made_load.specs.Draws.{next_state, drawn}
use Rattle.made_load.specs.Sources.{several, offer}
use Rattle.made_load.proofs.source.put_offers.Given as goal

-- what is written and what is left make all offers, and there is room for what is left
abbrev pub invariant-offers : goal.invariant-offers
invariant-offers l =
    (l.into.bytes ++ (several offer l.later l.left l.draws.state).text
    ≡ l.fn.into.bytes ++ (several offer false (drawn 4 l.fn.draws.state) (next_state l.fn.draws.state)).text)
    × ((several offer l.later l.left l.draws.state).after ≡ (several offer false (drawn 4 l.fn.draws.state) (next_state l.fn.draws.state)).after)
    × (l.left ≤ 3)
    × (l.fn.into.spare + l.left * 135 ≤ l.into.spare + 405)
    × (room_of l.fn.into ≤ room_of l.into)

abbrev pub decreases-offers : goal.decreases-offers
decreases-offers l = l.left
