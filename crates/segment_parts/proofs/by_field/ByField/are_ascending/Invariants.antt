use Rattle.std.proofs.Common.{ℕ, ◌+◌, ◌<◌, get_or}
use Rattle.segment_parts.specs.Fields.{fields}
use Rattle.segment_parts.proofs.by_field.ByField.are_ascending.Given as goal

abbrev pub invariant-columns : goal.invariant-columns
invariant-columns g l = (k : ℕ) → k + 1 < l.at → get_or (fields l.columns) k 0 < get_or (fields l.columns) (k + 1) 0
