use Rattle.std.proofs.Common.{◌≡◌, map}
use Rattle.std.specs.List.{range_with_len}
use Rattle.join_ordinals.specs.Ordinals.{own_relation}
use Rattle.join_ordinals.proofs.rows.relation_row.Given as goal

abbrev pub invariant-roots : goal.invariant-roots
invariant-roots l = l.row.items ≡ map (own_relation l.entry) (range_with_len 0 l.root)
