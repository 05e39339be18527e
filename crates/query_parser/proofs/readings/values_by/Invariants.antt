use Rattle.std.proofs.Common.{◌≡◌, ◌++◌, drop}
use Rattle.tree_json.specs.Value.{elements_of}
use Rattle.tree_json.specs.View.{values}
use Rattle.query_parser.specs.Readings.{values_by}
use Rattle.query_parser.proofs.readings.values_by.Given as goal

abbrev pub invariant-elements : goal.invariant-elements
invariant-elements l = l.found.items ++ values_by l.kind (elements_of (values (drop l.element-index l.elements))) ≡ values_by l.kind (elements_of (values l.elements))
