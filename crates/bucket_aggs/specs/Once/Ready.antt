-- What was evaluated, as the code has it.
use Rattle.std.specs.Prelude.{ℕ, List, map}
use Rattle.join_ordinals.specs.Ordinals.{Ordinals}
use Rattle.mapping.specs.Mapping.{Mapping}
use Rattle.query_ast.specs.Agg.{Agg}
use Rattle.query_ast.specs.Definition.{Definition, Definitions, definitions_of}
use Rattle.segment.specs.Live.{EntryState}
use Rattle.bucket_aggs.specs.Once.{AreEvaluated, IsEvaluated}
use Rattle.bucket_aggs.specs.Once.View.{evaluated_of}
use Rattle.bucket_aggs.specs.declared.once.Evaluated.{Evaluated}

abbrev pub IsReady : Mapping → List EntryState → Ordinals → ℕ → Definition Agg → Evaluated → Type 0
IsReady m view ordinals n d made = IsEvaluated m view ordinals n d (evaluated_of made)

abbrev pub AreReady : Mapping → List EntryState → Ordinals → ℕ → Definitions Agg → List Evaluated → Type 0
AreReady m view ordinals n ds made = AreEvaluated m view ordinals n ds (definitions_of (map evaluated_of made))
