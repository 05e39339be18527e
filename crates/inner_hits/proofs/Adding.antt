-- What is prepared for several definitions, one behind the other.
use Rattle.std.proofs.Common.{◌≡◌, List as Seq, [], ◌∷◌, ◌++◌, sym, ap, ◌∙◌, append_assoc}
use Rattle.std.proofs.lemmas.List.{append-nil}
use Rattle.join_ordinals.specs.Ordinals.{Ordinals}
use Rattle.mapping.specs.Mapping.{Mapping}
use Rattle.query_ast.specs.Definition.{Definition, Definitions, no_definitions, with_definition, definitions_of}
use Rattle.query_ast.specs.Inner.{Inner}
use Rattle.segment.specs.Live.{EntryState}
use Rattle.inner_hits.specs.Answers.{Answer}
use Rattle.inner_hits.specs.Prepared.{AddsPrepared, ArePrepared, IsPrepared}

module _ (m : Mapping) (view : Seq EntryState) (ordinals : Ordinals) where
  pub prepares_none : (old : Seq (Definition Answer)) → AddsPrepared m view ordinals no_definitions old old
  prepares_none old = record { added = []; is = sym (append-nil old); prepared = tt }

  pub prepares_more : (d : Definition Inner) (ds : Definitions Inner) (old new : Seq (Definition Answer)) (p : Definition Answer) → IsPrepared m view ordinals d p → AddsPrepared m view ordinals ds (old ++ p ∷ []) new → AddsPrepared m view ordinals (with_definition d ds) old new
  prepares_more d ds old new p first rest = record {
    added = p ∷ rest.added;
    is = rest.is ∙ append_assoc old (p ∷ []) rest.added;
    prepared = (first, rest.prepared);
  }

  pub prepares_all : (ds : Definitions Inner) (old new : Seq (Definition Answer)) → AddsPrepared m view ordinals ds old new → old ≡ [] → ArePrepared m view ordinals ds (definitions_of new)
  prepares_all ds old new it none = rw (it.is ∙ ap (λ l. l ++ it.added) none) it.prepared

pub ruleset preparing = (prepares_none, prepares_more, prepares_all)
