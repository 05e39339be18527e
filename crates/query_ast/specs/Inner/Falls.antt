-- A definition of inner hits is larger than those that it owns.
use Rattle.std.specs.Prelude.{◌≤◌, ◌≡◌, List, [], ◌∷◌, refl, map}
use Rattle.std.proofs.Common.{arith}
use denote.Param.Weighed.{most}
use Rattle.query_ast.specs.Definition.{definition_size, definitions_of, definitions_size}
use Rattle.query_ast.specs.Inner.View.{inner_of}
use Rattle.query_ast.specs.declared.inner.InnerDef.{InnerDef}
use Rattle.query_ast.specs.declared.inner.InnerList.TheDeep.{deep-InnerDef}
use Rattle.query_ast.specs.declared.inner.InnerList.TheView as list_view

inner_falls : (def : InnerDef) → deep-InnerDef def ≤ definition_size (inner_of def)
inner_falls def = let e : list_view.size def.owned ≡ definitions_size (definitions_of def.owned) = refl in omega arith

pub inner_list_falls : (defs : List InnerDef) → most deep-InnerDef defs ≤ definitions_size (definitions_of (map inner_of defs))
inner_list_falls [] = omega arith
inner_list_falls (def ∷ defs) = omega (arith, inner_falls def, inner_list_falls defs)
