use Rattle.std.proofs.Common.{◌≡◌, ◌+◌, ◌≤◌, ◌++◌, drop, length, map}
use Rattle.std.specs.List.{flat_map}
use Rattle.term_table.specs.Part.{row_text}
use Rattle.segment_merge.specs.TermRefs.{group_lent, live_rows, numbered, rooms_of}
use Rattle.segment_merge.proofs.terms.put_rows.Given as goal

abbrev pub invariant-groups : goal.invariant-groups
invariant-groups l =
    (l.count + length (live_rows (map group_lent (drop l.group-index l.groups))) ≡ length (live_rows (map group_lent l.groups)))
    × (l.into.items ++ flat_map row_text (live_rows (map group_lent (drop l.group-index l.groups))) ≡ l.fn.into.items ++ flat_map row_text (live_rows (map group_lent l.groups)))
    × (numbered l.count (map group_lent (drop l.group-index l.groups)) l.news ≡ numbered 0 (map group_lent l.groups) l.fn.news)
    × (rooms_of l.news ≡ rooms_of l.fn.news)
    × (l.count ≤ l.group-index)
