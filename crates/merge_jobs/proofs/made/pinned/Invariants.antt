use Rattle.std.proofs.Common.{◌≡◌, take}
use Rattle.merge_jobs.proofs.made.pinned.Given as goal

abbrev pub invariant-entries : goal.invariant-entries
invariant-entries l = l.pinned.items ≡ take l.entry-index l.entries
