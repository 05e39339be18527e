-- Tests of each element and of each member, over the slices that a list and an object lend.
use Rattle.std.proofs.Common.{◌≡◌, List as Seq, [], ◌∷◌, ℕ, refl, ap, Bool, ◌&&◌}
use Rattle.std.specs.List.{list_all}
use Rattle.tree_json.specs.Value.{JsonValue, elements_of, members_of}
use Rattle.tree_json.specs.View.{view, values, entries}
use Rattle.tree_json.specs.declared.value.Json.{Json}
use Rattle.mapping_body.specs.Body.{each_element, each_member}

pub each_element_all : (test : JsonValue → Bool) (js : Seq Json) → each_element test (elements_of (values js)) ≡ list_all (λ j. test (view j)) js
each_element_all test [] = refl
each_element_all test (j ∷ js) = ap (λ (rest : Bool). test (view j) && rest) (each_element_all test js)

pub each_member_all : (test : Seq ℕ → JsonValue → Bool) (ms : Seq (Seq ℕ × Json)) → each_member test (members_of (entries ms)) ≡ list_all (λ m. test m.0 (view m.1)) ms
each_member_all test [] = refl
each_member_all test (m ∷ ms) = ap (λ (rest : Bool). test m.0 (view m.1) && rest) (each_member_all test ms)

pub ruleset each = (each_element_all, each_member_all)
