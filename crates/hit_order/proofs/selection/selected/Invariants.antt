use Rattle.std.proofs.Common.{filter}
use Rattle.std.specs.Prelude.{option_map}
use Rattle.std.specs.List.{range_with_len}
use Rattle.hit_order.specs.Indexed.{is_before, is_after, IsSelecting}
use Rattle.hit_order.proofs.selection.selected.Given as goal

abbrev pub invariant-rows : goal.invariant-rows
invariant-rows l =
    IsSelecting (is_before l.table) l.most (filter (is_after l.table (option_map (λ row. row.now) l.after)) (range_with_len 0 l.row)) l.kept.items l.worst
