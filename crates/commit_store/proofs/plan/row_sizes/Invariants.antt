use Rattle.std.proofs.Common.{◌≡◌, ◌+◌, ◌*◌, not, count_by, sum_by, drop}
use Rattle.commit_store.specs.Planned.{all_planned}
use Rattle.commit_store.proofs.plan.row_sizes.Given as goal

abbrev pub invariant-segments : goal.invariant-segments
invariant-segments l =
    l.size + sum_by (λ segment. 20 + 4 * count_by not segment.live) (all_planned (drop l.segment-index l.segments))
    ≡ sum_by (λ segment. 20 + 4 * count_by not segment.live) (all_planned l.segments)
