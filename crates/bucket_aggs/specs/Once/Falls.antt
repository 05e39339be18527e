-- What was evaluated for a definition is larger than what was for those inside it.
use Rattle.std.specs.Prelude.{◌≤◌, ◌≡◌, List, [], ◌∷◌, refl, map}
use Rattle.std.proofs.Common.{arith}
use denote.Param.Weighed.{most}
use Rattle.query_ast.specs.Definition.{definition_size, definitions_of, definitions_size}
use Rattle.bucket_aggs.specs.Once.View.{evaluated_of}
use Rattle.bucket_aggs.specs.declared.once.Evaluated.{Evaluated}
use Rattle.bucket_aggs.specs.declared.once.EvaluatedList.TheDeep.{deep-Evaluated}
use Rattle.bucket_aggs.specs.declared.once.EvaluatedList.TheView as list_view

evaluated_falls : (e : Evaluated) → deep-Evaluated e ≤ definition_size (evaluated_of e)
evaluated_falls e = let same : list_view.size e.inner ≡ definitions_size (definitions_of e.inner) = refl in omega arith

pub evaluated_list_falls : (es : List Evaluated) → most deep-Evaluated es ≤ definitions_size (definitions_of (map evaluated_of es))
evaluated_list_falls [] = omega arith
evaluated_list_falls (e ∷ es) = omega (arith, evaluated_falls e, evaluated_list_falls es)
