use Rattle.index_trees.proofs.Kept.{kept_is, room_is, sizes_are, still_is}
use Rattle.index_trees.proofs.law.commits_are_those_of_the_machine.Goals as goal

pub returns-clause-sizes : goal.returns-clause-sizes
returns-clause-sizes c = sizes_are (record { flats = c.fitting_segments_are_blocks.ensures.flats; same = c.fitting_segments_are_blocks.ensures.same })

pub returns-clause-room : goal.returns-clause-room
returns-clause-room c = room_is (record { flats = c.fitting_segments_are_blocks.ensures.flats; same = c.fitting_segments_are_blocks.ensures.same })

pub returns-clause-kept : goal.returns-clause-kept
returns-clause-kept c = kept_is

pub returns-clause-still : goal.returns-clause-still
returns-clause-still c = still_is
