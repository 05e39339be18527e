use Rattle.std.proofs.Common.{◌≡◌, ◌++◌, drop, filter}
use Rattle.std.specs.Prelude.{not}
use Rattle.hit_order.specs.Indexed.{is_before}
use Rattle.hit_order.proofs.selection.not_before.Given as goal

abbrev pub invariant-rows : goal.invariant-rows
invariant-rows l =
    l.rest.items ++ filter (λ row. not (is_before l.table row l.first)) (drop l.row-index l.rows) ≡ filter (λ row. not (is_before l.table row l.first)) l.rows
