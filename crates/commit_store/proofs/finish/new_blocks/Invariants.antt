use Rattle.std.proofs.Common.{◌≡◌, ◌++◌, map, filter, drop}
use Rattle.commit_images.specs.Writes.{piece_of as block_piece}
use Rattle.commit_store.specs.Planned.{all_planned}
use Rattle.commit_store.specs.Preparing.{moves, piece_of}
use Rattle.commit_store.proofs.finish.new_blocks.Given as goal

abbrev pub invariant-segments : goal.invariant-segments
invariant-segments l =
    map block_piece l.blocks.items ++ map piece_of (filter moves (all_planned (drop l.segment-index l.segments)))
    ≡ map piece_of (filter moves (all_planned l.segments))
