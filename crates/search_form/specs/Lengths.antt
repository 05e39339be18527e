-- How many elements a list has.
use Rattle.std.proofs.Common.{◌≡◌, List as Seq, [], ◌∷◌, length, refl, arith}
use Rattle.tree_json.specs.Value.{elements_of}
use Rattle.tree_json.specs.View.{values}
use Rattle.tree_json.specs.declared.value.Json.{Json}
use Rattle.search_form.specs.Form.{elements_length}

pub elements_length-values : (js : Seq Json) → elements_length (elements_of (values js)) ≡ length js
elements_length-values [] = refl
elements_length-values (j ∷ js) = omega (arith, elements_length-values js)

pub ruleset lengths = (elements_length-values)
