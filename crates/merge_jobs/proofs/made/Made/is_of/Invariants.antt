use Rattle.std.proofs.Common.{◌≡◌, take}
use Rattle.merge_jobs.proofs.made.Made.is_of.Given as goal

abbrev pub invariant-entries : goal.invariant-entries
invariant-entries l = take l.index l.self-inside.entries.items ≡ take l.index l.entries
