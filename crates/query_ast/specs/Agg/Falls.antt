-- A definition of buckets is larger than those inside it.
use Rattle.std.specs.Prelude.{◌≤◌, ◌≡◌, List, [], ◌∷◌, refl, map}
use Rattle.std.proofs.Common.{arith}
use denote.Param.Weighed.{most}
use Rattle.query_ast.specs.Definition.{definition_size, definitions_of, definitions_size}
use Rattle.query_ast.specs.Agg.View.{agg_of}
use Rattle.query_ast.specs.declared.agg.AggDef.{AggDef}
use Rattle.query_ast.specs.declared.agg.AggList.TheDeep.{deep-AggDef}
use Rattle.query_ast.specs.declared.agg.AggList.TheView as list_view

agg_falls : (def : AggDef) → deep-AggDef def ≤ definition_size (agg_of def)
agg_falls def = let e : list_view.size def.inner ≡ definitions_size (definitions_of def.inner) = refl in omega arith

pub agg_list_falls : (defs : List AggDef) → most deep-AggDef defs ≤ definitions_size (definitions_of (map agg_of defs))
agg_list_falls [] = omega arith
agg_list_falls (def ∷ defs) = omega (arith, agg_falls def, agg_list_falls defs)
