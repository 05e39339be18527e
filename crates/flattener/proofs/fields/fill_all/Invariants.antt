use Rattle.std.proofs.Common.{◌-◌}
use Rattle.tree_json.specs.View.{view}
use Rattle.flattener.specs.Adds.{IsBegun}
use Rattle.flattener.specs.Seen.{document_seen}
use Rattle.flattener.proofs.fields.fill_all.Given as goal

abbrev pub invariant-fields : goal.invariant-fields
invariant-fields l = IsBegun l.mapping l.generation l.scope (view l.content) l.field (document_seen l.into)

abbrev pub decreases-fields : goal.decreases-fields
decreases-fields l = l.count - l.field
