-- What is evaluated once for definitions of buckets, so that each bucket cuts it by its own objects.
pub mod View
pub mod Falls
pub mod Ready
use Rattle.std.specs.Prelude.{◌≡◌, ℕ, List, ◌++◌, Option, ⊤}
use Rattle.join_ordinals.specs.Ordinals.{Ordinals}
use Rattle.mapping.specs.Mapping.{Mapping}
use Rattle.query_ast.specs.Agg.{Agg}
use Rattle.query_ast.specs.Definition.{Definition, definition, Definitions, no_definitions, with_definition, definitions_of}
use Rattle.query_ast.specs.Resolved.{scope_of_form}
use Rattle.query_ast.specs.declared.agg.AggForm.{AggForm}
use Rattle.query_ast.specs.declared.agg.AggForm.TheVariants.{Filter, Nested, ReverseNested, Children, Parent, Terms, Min, Max, Sum, ValueCount}
use Rattle.query_eval.specs.Found.{IsFound}
use Rattle.query_eval.specs.Keyed.{AreChildRoots, AreParentRoots}
use Rattle.query_eval.specs.declared.keyed.KeyedRoot.{KeyedRoot}
use Rattle.segment.specs.Live.{EntryState}
use Rattle.bucket_aggs.specs.declared.once.Known.{Known}
use Rattle.bucket_aggs.specs.declared.once.Known.TheVariants.{Nothing, Hits, Roots}

-- the scores are those of a filter's query in a scope
abbrev pub IsFoundBy : Mapping → List EntryState → ℕ → AggForm → List (List (Option ℕ)) → Type 0
IsFoundBy m view n (Filter query) scores = IsFound m view n query scores
IsFoundBy m view n (Nested p) scores = ⊥
IsFoundBy m view n (ReverseNested p) scores = ⊥
IsFoundBy m view n (Children r) scores = ⊥
IsFoundBy m view n (Parent r) scores = ⊥
IsFoundBy m view n (Terms field size by_key descending) scores = ⊥
IsFoundBy m view n (Min field) scores = ⊥
IsFoundBy m view n (Max field) scores = ⊥
IsFoundBy m view n (Sum field) scores = ⊥
IsFoundBy m view n (ValueCount field) scores = ⊥

-- the roots are all that a form across the join leads to
abbrev pub AreRootsOf : Mapping → List EntryState → Ordinals → AggForm → List KeyedRoot → Type 0
AreRootsOf m view ordinals (Filter query) roots = ⊥
AreRootsOf m view ordinals (Nested p) roots = ⊥
AreRootsOf m view ordinals (ReverseNested p) roots = ⊥
AreRootsOf m view ordinals (Children r) roots = AreChildRoots m ordinals r view roots
AreRootsOf m view ordinals (Parent r) roots = AreParentRoots m ordinals r view roots
AreRootsOf m view ordinals (Terms field size by_key descending) roots = ⊥
AreRootsOf m view ordinals (Min field) roots = ⊥
AreRootsOf m view ordinals (Max field) roots = ⊥
AreRootsOf m view ordinals (Sum field) roots = ⊥
AreRootsOf m view ordinals (ValueCount field) roots = ⊥

-- what is known for a form in a scope
abbrev pub IsKnown : Mapping → List EntryState → Ordinals → ℕ → AggForm → Known → Type 0
IsKnown m view ordinals n form Nothing = ⊤
IsKnown m view ordinals n form (Hits scores) = IsFoundBy m view n form scores
IsKnown m view ordinals n form (Roots roots) = AreRootsOf m view ordinals form roots

-- so it is for a definition and for those inside it, each in its own scope
abbrev mutual
  pub IsEvaluated : Mapping → List EntryState → Ordinals → ℕ → Definition Agg → Definition Known → Type 0
  IsEvaluated m view ordinals n (definition agg inner) (definition known made) =
      IsKnown m view ordinals n agg.form known × AreEvaluated m view ordinals (scope_of_form n agg.form) inner made

  pub AreEvaluated : Mapping → List EntryState → Ordinals → ℕ → Definitions Agg → Definitions Known → Type 0
  AreEvaluated m view ordinals n no_definitions no_definitions = ⊤
  AreEvaluated m view ordinals n no_definitions (with_definition e es) = ⊥
  AreEvaluated m view ordinals n (with_definition d ds) no_definitions = ⊥
  AreEvaluated m view ordinals n (with_definition d ds) (with_definition e es) = IsEvaluated m view ordinals n d e × AreEvaluated m view ordinals n ds es

-- and what is evaluated for several stands behind what was evaluated before
pub record AddsEvaluated (m : Mapping) (view : List EntryState) (ordinals : Ordinals) (n : ℕ) (ds : Definitions Agg) (old new : List (Definition Known)) : Type 0 where
  pub added : List (Definition Known)
  pub is : new ≡ old ++ added
  pub evaluated : AreEvaluated m view ordinals n ds (definitions_of added)
