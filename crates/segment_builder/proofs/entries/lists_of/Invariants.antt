use Rattle.std.proofs.Common.{◌≡◌, ◌+◌, drop, length, map}
use Rattle.flattener.specs.Seen.{block_seen}
use Rattle.segment_builder.specs.Entries.{EntriesState, flats_in, no_entries, with_blocks}
use Rattle.segment_builder.specs.Lists.{AreLists}
use Rattle.segment_builder.proofs.entries.lists_of.Given as goal

abbrev pub invariant-each : goal.invariant-each
invariant-each l =
    ((own : EntriesState) × AreLists own l.lists × (with_blocks own (map block_seen (drop l.block-index l.blocks)) ≡ with_blocks no_entries (map block_seen l.blocks)))
    × (length l.lists.scopes.items + length (flats_in (map block_seen (drop l.block-index l.blocks))) ≡ length (flats_in (map block_seen l.blocks)))
