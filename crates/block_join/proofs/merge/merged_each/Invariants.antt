use Rattle.std.proofs.Common.{◌≡◌, ◌-◌, ◌≤◌, length}
use Rattle.block_join.specs.Merge.{put_together}
use Rattle.block_join.proofs.Merging.{Merging}
use Rattle.block_join.proofs.merge.merged_each.Given as goal

abbrev pub invariant-hits : goal.invariant-hits
invariant-hits l =
    (l.first.scores ≡ l.one) × (l.second.scores ≡ l.other) × (l.hits.len ≡ l.len) × (l.second.from ≡ l.first.from) × (length l.hits.done ≤ l.first.from)
    × Merging (put_together l.rule) l.one l.other l.hits.done l.first.from

abbrev pub decreases-hits : goal.decreases-hits
decreases-hits l = l.len - l.first.from
