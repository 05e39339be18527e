use Rattle.std.proofs.Common.{◌≡◌, ◌++◌, map, drop}
use Rattle.commit_store.specs.Planned.{all_planned}
use Rattle.commit_store.specs.Preparing.{known_of}
use Rattle.commit_store.proofs.finish.known_by.Given as goal

abbrev pub invariant-segments : goal.invariant-segments
invariant-segments l = l.known.items ++ map known_of (all_planned (drop l.segment-index l.segments)) ≡ map known_of (all_planned l.segments)
