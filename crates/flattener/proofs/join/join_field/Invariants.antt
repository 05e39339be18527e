use Rattle.std.proofs.Common.{◌-◌, ◌≡◌}
use Rattle.flattener.proofs.Joins.{field_from}
use Rattle.flattener.proofs.join.join_field.Given as goal

abbrev pub invariant-fields : goal.invariant-fields
invariant-fields l = field_from l.mapping l.generation l.field ≡ field_from l.mapping l.generation 0

abbrev pub decreases-fields : goal.decreases-fields
decreases-fields l = l.count - l.field
