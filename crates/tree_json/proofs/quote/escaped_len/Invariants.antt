use Rattle.std.proofs.Common.{◌≡◌, ◌+◌, ◌-◌, ◌<◌, ◌^◌, min, length, drop}
use Rattle.json.specs.Print.{escape}
use Rattle.tree_json.proofs.quote.escaped_len.Given as goal

-- what is counted and what is left make the whole
abbrev pub invariant-bytes : goal.invariant-bytes
invariant-bytes l =
    (l.total < 2 ^ 64)
    × (min (l.total + length (escape (drop l.byte-index l.text))) (2 ^ 64 - 1) ≡ min (length (escape l.text)) (2 ^ 64 - 1))
