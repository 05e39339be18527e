use Rattle.std.proofs.Common.{◌≡◌, map, take}
use Rattle.layout.specs.Merges.{summary_of}
use Rattle.merge_jobs.specs.Job.{segments_kept}
use Rattle.segment_builder.specs.Blocks.{block_objects}
use Rattle.view_merge.specs.Given.{number_of_block, summary_shown}
use Rattle.view_merge.proofs.rows.segment_rows.Given as goal

abbrev pub invariant-entries : goal.invariant-entries
invariant-entries l = map summary_shown l.rows.items ≡ map (summary_of block_objects number_of_block) (segments_kept (take l.entry-index l.entries))
