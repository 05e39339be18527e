use Rattle.std.proofs.Common.{◌≡◌, ◌≤◌, ◌-◌, length}
use Rattle.tree_json.specs.View.{view}
use Rattle.flattener.specs.Adds.{IsBegun}
use Rattle.flattener.specs.Seen.{document_seen}
use Rattle.flattener.proofs.fields.fill_marked.Given as goal

abbrev pub invariant-fields : goal.invariant-fields
invariant-fields l =
    (l.fields.documents ≡ l.named)
    × (l.fields.from ≤ length l.mapping.fields)
    × IsBegun l.mapping l.generation l.scope (view l.content) l.fields.from (document_seen l.into)

abbrev pub decreases-fields : goal.decreases-fields
decreases-fields l = length l.mapping.fields - l.fields.from
