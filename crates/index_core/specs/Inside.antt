-- These serve proofs alone: what an index keeps by its fields.
use Rattle.std.specs.Prelude.{◌≡◌, ℕ, List}
use Rattle.std.specs.Option.{option_map}
use Rattle.layout.specs.Merges.{factor_of}
use Rattle.merge_jobs.specs.Open.{merges_in}
use Rattle.segment_builder.specs.Blocks.{objects_of}
use Rattle.index_core.specs.Found.{number_under}
use Rattle.index_core.specs.Kept.{IndexState, IsIndex, block_number, live_block, live_kept}
use Rattle.index_core.specs.declared.index_core.IndexCore.TheInside.{Inside}

abbrev pub state_of : Inside → IndexState
state_of it = record { entries = it.blocks.entries; buffer = it.blocks.buffer; made = it.blocks.made; next = it.next; objects = it.most_objects; merges = merges_in it.blocks.jobs; started = it.blocks.started; factor = factor_of it.blocks.factor }

-- the numbers are those of the live blocks, and the live objects are counted
pub record IsKept (it : Inside) : Type 0 where
  pub index : IsIndex (state_of it)
  pub numbers : (id : List ℕ) → number_under it.numbers id ≡ option_map block_number (live_block id (state_of it))
  pub objects : it.live_objects ≡ objects_of (live_kept (state_of it))
