use Rattle.std.proofs.Common.{◌≤◌, length}
use Rattle.io_real.proofs.file_disk.filled.Given as goal

abbrev pub invariant-loop : goal.invariant-loop
invariant-loop l = l.count ≤ length l.into
