use Rattle.std.proofs.Common.{◌≡◌, ◌+◌, ◌-◌, ◌<◌, ◌^◌, min, length, drop, map, false}
use Rattle.reply_text.specs.Layout.{merge_text}
use Rattle.reply_text.specs.Object.{elements_text}
use Rattle.reply_text.proofs.rows.merges_len.Given as goal

-- what is counted and what is left make the whole
abbrev pub invariant-rows : goal.invariant-rows
invariant-rows l =
    (l.total < 2 ^ 64)
    × (min (l.total + length (elements_text l.later (map merge_text (drop l.row-index l.rows)))) (2 ^ 64 - 1)
    ≡ min (length (elements_text false (map merge_text l.rows))) (2 ^ 64 - 1))
