use Rattle.std.proofs.Common.{◌≡◌, ◌≤◌, length, map, drop, take, [], false}
use Rattle.std.specs.List.{list_any}
use Rattle.std.specs.Option.{option_copied}
use Rattle.composite_aggs.specs.Rows.{has_too_many, keys_of}
use Rattle.composite_aggs.specs.Kept.{Ascends, added_rows, bucket_of}
use Rattle.composite_aggs.proofs.pages.page.Given as goal

abbrev pub invariant-loop-place : goal.invariant-loop-place
invariant-loop-place l =
    (added_rows (option_copied l.after) l.size l.place (map keys_of (drop l.place l.rows)) (map bucket_of l.kept.items)
    ≡ added_rows (option_copied l.after) l.size 0 (map keys_of l.rows) [])
    × (list_any has_too_many (take l.place l.rows) ≡ false)
    × Ascends (map bucket_of l.kept.items)
    × (length l.kept.items ≤ l.size)
