-- What is evaluated for several definitions, one behind the other.
use Rattle.std.proofs.Common.{◌≡◌, ℕ, List as Seq, [], ◌∷◌, ◌++◌, sym, ap, ◌∙◌, append_assoc}
use Rattle.std.proofs.lemmas.List.{append-nil}
use Rattle.join_ordinals.specs.Ordinals.{Ordinals}
use Rattle.mapping.specs.Mapping.{Mapping}
use Rattle.query_ast.specs.Agg.{Agg}
use Rattle.query_ast.specs.Definition.{Definition, Definitions, no_definitions, with_definition, definitions_of}
use Rattle.segment.specs.Live.{EntryState}
use Rattle.bucket_aggs.specs.declared.once.Known.{Known}
use Rattle.bucket_aggs.specs.Once.{AddsEvaluated, AreEvaluated, IsEvaluated}

module _ (m : Mapping) (view : Seq EntryState) (ordinals : Ordinals) (n : ℕ) where
  pub evaluates_none : (old : Seq (Definition Known)) → AddsEvaluated m view ordinals n no_definitions old old
  evaluates_none old = record { added = []; is = sym (append-nil old); evaluated = tt }

  pub evaluates_more : (d : Definition Agg) (ds : Definitions Agg) (old new : Seq (Definition Known)) (e : Definition Known) → IsEvaluated m view ordinals n d e → AddsEvaluated m view ordinals n ds (old ++ e ∷ []) new → AddsEvaluated m view ordinals n (with_definition d ds) old new
  evaluates_more d ds old new e first rest = record {
    added = e ∷ rest.added;
    is = rest.is ∙ append_assoc old (e ∷ []) rest.added;
    evaluated = (first, rest.evaluated);
  }

  pub evaluates_all : (ds : Definitions Agg) (old new : Seq (Definition Known)) → AddsEvaluated m view ordinals n ds old new → old ≡ [] → AreEvaluated m view ordinals n ds (definitions_of new)
  evaluates_all ds old new it none = rw (it.is ∙ ap (λ l. l ++ it.added) none) it.evaluated

pub ruleset evaluating = (evaluates_none, evaluates_more, evaluates_all)
