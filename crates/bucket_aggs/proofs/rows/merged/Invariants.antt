use Rattle.std.specs.Vec.Iter.{into_iter_items}
use Rattle.bucket_aggs.proofs.Weights.{Merging}
use Rattle.bucket_aggs.proofs.rows.merged.Given as goal

abbrev pub invariant-rows : goal.invariant-rows
invariant-rows l =
    goal.iterator-rows.can_next l.row-iterator
    × goal.iterator-rows.is_finite l.row-iterator
    × Merging l.fn.rows.items l.made.items (into_iter_items l.row-iterator)
