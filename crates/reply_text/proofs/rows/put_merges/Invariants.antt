use Rattle.std.proofs.Common.{◌≡◌, ◌+◌, ◌≤◌, ◌++◌, length, drop, map, false}
use Rattle.reply_text.specs.Layout.{merge_text}
use Rattle.reply_text.specs.Object.{elements_text}
use Rattle.reply_text.proofs.rows.put_merges.Given as goal

-- what is written and what is left make the whole, and there is room for what is left
abbrev pub invariant-rows : goal.invariant-rows
invariant-rows l =
    (l.into.bytes ++ elements_text l.later (map merge_text (drop l.row-index l.rows)) ≡ l.fn.into.bytes ++ elements_text false (map merge_text l.rows))
    × (l.fn.into.spare + length (elements_text l.later (map merge_text (drop l.row-index l.rows)))
    ≤ l.into.spare + length (elements_text false (map merge_text l.rows)))
