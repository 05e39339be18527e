-- An element or a member is smaller than its list or object, so that what goes down a value ends.
use Rattle.std.specs.Prelude.{ℕ, ◌≤◌, ◌≡◌, List as Seq, [], ◌∷◌, refl, map}
use Rattle.std.proofs.Common.{arith}
use denote.Param.Weighed.{most}
use Rattle.tree_json.specs.Value.{value_size, elements_of, elements_size, members_of, members_size}
use Rattle.tree_json.specs.View.{view, entries}
use Rattle.tree_json.specs.declared.value.Json.{Json}
use Rattle.tree_json.specs.declared.value.Json.TheVariants.{Null, Bool, Whole, Text, List, Object}
use Rattle.tree_json.specs.declared.value.JsonList.TheDeep.{deep-Json}
use Rattle.tree_json.specs.declared.value.JsonList.TheShapes.{weighed-JsonObject-members-at-2}
use Rattle.tree_json.specs.declared.value.JsonList.TheView as list_view
use Rattle.tree_json.specs.declared.value.JsonObject.TheView as object_view

deep_le_size : (j : Json) → deep-Json j ≤ value_size (view j)
deep_le_size Null = omega arith
deep_le_size (Bool b) = omega arith
deep_le_size (Whole z) = omega arith
deep_le_size (Text s) = omega arith
deep_le_size (List ds) = let e : list_view.size ds ≡ elements_size (elements_of ds) = refl in omega arith
deep_le_size (Object ms) = let e : object_view.size ms ≡ members_size (members_of ms) = refl in omega arith

pub elements_fall : (js : Seq Json) → most deep-Json js ≤ elements_size (elements_of (map view js))
elements_fall [] = omega arith
elements_fall (j ∷ js) = omega (arith, deep_le_size j, elements_fall js)

-- how deep the value of a member is
abbrev pub deep_member : Seq ℕ × Json → ℕ
deep_member m = (weighed-JsonObject-members-at-2).weight Json deep-Json m

pub members_fall : (ms : Seq (Seq ℕ × Json)) → most deep_member ms ≤ members_size (members_of (entries ms))
members_fall [] = omega arith
members_fall (m ∷ ms) = omega (arith, deep_le_size m.1, members_fall ms)
