use Rattle.std.proofs.Common.{◌≡◌, ◌+◌, ◌≤◌, ◌∷◌, [], ◌++◌, length, drop, map, decimal, codes, false}
use Rattle.reply_text.specs.HitTexts.{key_text}
use Rattle.reply_text.specs.Object.{elements_text}
use Rattle.reply_text.proofs.hits.put_sort.Given as goal

-- what is written and what is left make the whole, and there is room for what is left and the bracket
abbrev pub invariant-keys : goal.invariant-keys
invariant-keys l =
    (l.into.bytes ++ elements_text l.later (map key_text (drop l.key-index l.keys) ++ decimal l.number ∷ [])
    ≡ (l.fn.into.bytes ++ codes "[") ++ elements_text false (map key_text l.keys ++ decimal l.number ∷ []))
    × (l.fn.into.spare + length (elements_text l.later (map key_text (drop l.key-index l.keys) ++ decimal l.number ∷ []))
    ≤ 1 + (l.into.spare + length (elements_text false (map key_text l.keys ++ decimal l.number ∷ []))))
