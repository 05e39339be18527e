-- Segments of a commit that is prepared, as contracts see them.
use Rattle.std.specs.Prelude.{List, map}
use Rattle.commit_store.specs.Preparing.{PlannedSegment}
use Rattle.commit_store.specs.declared.prepared.Planned.{Planned}

abbrev pub planned_seen : Planned → PlannedSegment
planned_seen it = record { entry = it.entry; live = it.seen.live.roots; before = it.before; extent = it.extent }

abbrev pub all_planned : List Planned → List PlannedSegment
all_planned segments = map planned_seen segments
