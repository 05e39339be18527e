use Rattle.std.proofs.Common.{◌≡◌, ◌++◌, take, drop}
use Rattle.json.specs.Print.{escape}
use Rattle.tree_json.proofs.quote.plain_len.Given as goal

-- the bytes before this one stand for themselves
abbrev pub invariant-bytes : goal.invariant-bytes
invariant-bytes l = (l.len ≡ l.byte-index) × (escape l.text ≡ take l.byte-index l.text ++ escape (drop l.byte-index l.text))
