use Rattle.std.proofs.Common.{◌≡◌, ◌∙◌, ◌==◌, sym, ap, arith, length, List as Seq, [], ◌∷◌, false, true}
use Rattle.std.specs.List.{list_all}
use Rattle.std.proofs.lemmas.Bool.{false≢true}
use Rattle.tree_json.specs.Value.{list, elements_of}
use Rattle.tree_json.specs.View.{view, values}
use Rattle.tree_json.specs.declared.value.Json.{Json}
use Rattle.mapping_body.specs.Body.{are_children, is_child}
use Rattle.mapping_body.proofs.Members.{each_element_all}
use Rattle.mapping_body.proofs.form.are_children.Goals as goal

children_of : (js : Seq Json) → (length js == 0) ≡ false → list_all (λ j. is_child (view j)) js ≡ are_children (list (elements_of (values js)))
children_of [] some = absurd (false≢true (sym some))
children_of (j ∷ js) some = sym (each_element_all is_child (j ∷ js))

pub returns-then-not-is_empty : goal.returns-then-not-is_empty
returns-then-not-is_empty c =
    c.are_child_names.ensures ∙ children_of c.as_slice-elements.result.now (sym c.is_empty.ensures ∙ c.if-not-is_empty.true)
    ∙ ap (λ ds. are_children (list (elements_of ds))) c.as_slice-elements.ensures ∙ sym (ap (λ v. are_children (view v)) c.in-List.is)
