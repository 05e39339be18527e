use Rattle.std.proofs.Common.{◌≡◌, ◌+◌, ◌≤◌, ◌++◌, length, drop, map, false}
use Rattle.reply_text.specs.HitTexts.{hit_text}
use Rattle.reply_text.specs.Object.{elements_text}
use Rattle.reply_text.proofs.hits.put_hits.Given as goal

-- what is written and what is left make the whole, and there is room for what is left
abbrev pub invariant-hits : goal.invariant-hits
invariant-hits l =
    (l.into.bytes ++ elements_text l.later (map hit_text (drop l.hit-index l.hits)) ≡ l.fn.into.bytes ++ elements_text false (map hit_text l.hits))
    × (l.fn.into.spare + length (elements_text l.later (map hit_text (drop l.hit-index l.hits)))
    ≤ l.into.spare + length (elements_text false (map hit_text l.hits)))
