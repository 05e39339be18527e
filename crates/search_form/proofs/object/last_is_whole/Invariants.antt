use Rattle.std.proofs.Common.{◌≡◌, false, drop}
use Rattle.tree_json.specs.Value.{elements_of}
use Rattle.tree_json.specs.View.{values}
use Rattle.search_form.specs.Form.{last_is_whole}
use Rattle.search_form.proofs.object.last_is_whole.Given as goal

abbrev pub invariant-elements : goal.invariant-elements
invariant-elements l =
    last_is_whole l.last (elements_of (values (drop l.element-index l.elements))) ≡ last_is_whole false (elements_of (values l.elements))
