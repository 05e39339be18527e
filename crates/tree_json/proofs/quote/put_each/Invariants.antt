use Rattle.std.proofs.Common.{◌≡◌, ◌+◌, ◌≤◌, ◌++◌, drop, length}
use Rattle.json.specs.Print.{escape}
use Rattle.tree_json.proofs.quote.put_each.Given as goal

-- what is written and what is left make the whole, and there is room for what is left
abbrev pub invariant-bytes : goal.invariant-bytes
invariant-bytes l =
    (l.into.bytes ++ escape (drop l.byte-index l.text) ≡ l.fn.into.bytes ++ escape l.text)
    × (l.fn.into.spare + length (escape (drop l.byte-index l.text)) ≤ l.into.spare + length (escape l.text))
