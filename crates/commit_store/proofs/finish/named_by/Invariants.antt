use Rattle.std.proofs.Common.{◌≡◌, ◌∷◌, ◌++◌, map, drop}
use Rattle.commit_store.specs.Planned.{all_planned}
use Rattle.commit_store.specs.Preparing.{PlannedSegment}
use Rattle.commit_store.proofs.finish.named_by.Given as goal

abbrev pub invariant-segments : goal.invariant-segments
invariant-segments l =
    l.named.items ++ map (λ (segment : PlannedSegment). segment.extent) (all_planned (drop l.segment-index l.segments))
    ≡ l.fn.record_extent ∷ map (λ (segment : PlannedSegment). segment.extent) (all_planned l.segments)
