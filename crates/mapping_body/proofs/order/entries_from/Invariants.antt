use Rattle.std.proofs.Common.{◌≡◌, ◌-◌, ◌≤◌, map, length}
use Rattle.std.specs.List.{All, range_with_len}
use Rattle.mapping_body.specs.Order.{name_at}
use Rattle.mapping_body.proofs.order.entries_from.Given as goal

abbrev pub invariant-numbers : goal.invariant-numbers
invariant-numbers g l =
    (map (λ e. e.number) l.entries.items ≡ range_with_len l.first (l.number - l.first))
    × All (λ e. e.name.now ≡ name_at (map g.T.Named.name l.items) e.number) l.entries.items
