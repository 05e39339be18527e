use Rattle.std.proofs.Common.{◌≡◌, ◌+◌, ◌≤◌, ◌++◌, length}
use Rattle.json.specs.Print.{escape}
use Rattle.tree_json.proofs.quote.put_escaped.Given as goal

-- what is written and what is left make the whole, and there is room for what is left
abbrev pub invariant-runs : goal.invariant-runs
invariant-runs l =
    (l.into.bytes ++ escape l.rest ≡ l.fn.into.bytes ++ escape l.text)
    × (l.fn.into.spare + length (escape l.rest) ≤ l.into.spare + length (escape l.text))

abbrev pub decreases-runs : goal.decreases-runs
decreases-runs l = length l.rest
