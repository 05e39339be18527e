use Rattle.std.proofs.Common.{◌≡◌, ◌++◌, drop}
use Rattle.tree_json.specs.Value.{elements_of}
use Rattle.tree_json.specs.View.{values}
use Rattle.query_parser.specs.Readings.{texts_in}
use Rattle.query_parser.proofs.readings.texts_in.Given as goal

abbrev pub invariant-elements : goal.invariant-elements
invariant-elements l = l.found.items ++ texts_in (elements_of (values (drop l.element-index l.elements))) ≡ texts_in (elements_of (values l.elements))
