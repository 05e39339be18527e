use Rattle.std.proofs.Common.{◌≡◌, ◌+◌, ◌-◌, ◌<◌, ◌^◌, ◌∷◌, [], ◌++◌, min, length, drop, map, decimal, false}
use Rattle.reply_text.specs.HitTexts.{key_text}
use Rattle.reply_text.specs.Object.{elements_text}
use Rattle.reply_text.proofs.hits.sort_len.Given as goal

-- what is counted and what is left make the whole
abbrev pub invariant-keys : goal.invariant-keys
invariant-keys l =
    (l.total < 2 ^ 64)
    × (min (l.total + length (elements_text l.later (map key_text (drop l.key-index l.keys) ++ decimal l.number ∷ []))) (2 ^ 64 - 1)
    ≡ min (length (elements_text false (map key_text l.keys ++ decimal l.number ∷ []))) (2 ^ 64 - 1))
