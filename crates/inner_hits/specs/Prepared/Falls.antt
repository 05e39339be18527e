-- What was evaluated for a definition is larger than what was for those that it owns.
use Rattle.std.specs.Prelude.{◌≤◌, ◌≡◌, List, [], ◌∷◌, refl, map}
use Rattle.std.proofs.Common.{arith}
use denote.Param.Weighed.{most}
use Rattle.query_ast.specs.Definition.{definition_size, definitions_of, definitions_size}
use Rattle.inner_hits.specs.Prepared.View.{prepared_of}
use Rattle.inner_hits.specs.declared.prepared.PreparedDef.{PreparedDef}
use Rattle.inner_hits.specs.declared.prepared.PreparedList.TheDeep.{deep-PreparedDef}
use Rattle.inner_hits.specs.declared.prepared.PreparedList.TheView as list_view

prepared_falls : (p : PreparedDef) → deep-PreparedDef p ≤ definition_size (prepared_of p)
prepared_falls p = let e : list_view.size p.owned ≡ definitions_size (definitions_of p.owned) = refl in omega arith

pub prepared_list_falls : (ps : List PreparedDef) → most deep-PreparedDef ps ≤ definitions_size (definitions_of (map prepared_of ps))
prepared_list_falls [] = omega arith
prepared_list_falls (p ∷ ps) = omega (arith, prepared_falls p, prepared_list_falls ps)
