use Rattle.std.proofs.Common.{◌≡◌, ◌≤◌, max, drop}
use Rattle.store_text.specs.Header.{header_size}
use Rattle.commit_store.specs.Preparing.{end_named}
use Rattle.commit_store.proofs.store.end_of.Given as goal

abbrev pub invariant-loop-extent : goal.invariant-loop-extent
invariant-loop-extent l = (max l.end (end_named (drop l.extent-index l.extents)) ≡ end_named l.extents) × (header_size ≤ l.end)
