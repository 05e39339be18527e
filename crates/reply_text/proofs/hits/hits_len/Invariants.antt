use Rattle.std.proofs.Common.{◌≡◌, ◌+◌, ◌-◌, ◌<◌, ◌^◌, min, length, drop, map, false}
use Rattle.reply_text.specs.HitTexts.{hit_text}
use Rattle.reply_text.specs.Object.{elements_text}
use Rattle.reply_text.proofs.hits.hits_len.Given as goal

-- what is counted and what is left make the whole
abbrev pub invariant-hits : goal.invariant-hits
invariant-hits l =
    (l.total < 2 ^ 64)
    × (min (l.total + length (elements_text l.later (map hit_text (drop l.hit-index l.hits)))) (2 ^ 64 - 1)
    ≡ min (length (elements_text false (map hit_text l.hits))) (2 ^ 64 - 1))
