-- What is evaluated once for a search, so that each hit finds its inner hits in it.
pub mod View
pub mod Falls
use Rattle.std.specs.Prelude.{◌≡◌, ℕ, Bool, true, false, List, ◌++◌, Option, ⊤}
use Rattle.join_ordinals.specs.Ordinals.{Ordinals}
use Rattle.mapping.specs.Mapping.{Mapping}
use Rattle.query_ast.specs.Clause.{Clause}
use Rattle.query_ast.specs.Definition.{Definition, definition, Definitions, no_definitions, with_definition, definitions_of}
use Rattle.query_ast.specs.Inner.{Inner}
use Rattle.query_ast.specs.declared.inner.InnerOver.{InnerOver}
use Rattle.query_ast.specs.declared.inner.InnerOver.TheVariants.{Below, Children as ChildTrees, Parents as ParentTrees, Ignored}
use Rattle.query_ast.specs.declared.sort.Sort.{Sort}
use Rattle.query_eval.specs.Found.{IsFound}
use Rattle.query_eval.specs.declared.side.Side.TheVariants.{Parents, Children}
use Rattle.segment.specs.Live.{EntryState}
use Rattle.inner_hits.specs.Answers.{Answer}
use Rattle.nested_sort.specs.Filters.{AreFound, filters_of}
use Rattle.inner_hits.specs.Kinship.{AreKin}

-- in the scope of its objects: what the query of a definition finds, and the filters of its sort
abbrev pub IsAnswered : Mapping → List EntryState → ℕ → Clause → List Sort → List (List (Option ℕ)) → List (List (List (Option ℕ))) → Type 0
IsAnswered m view n query sorts scores filters = IsFound m view n query scores × AreFound m view (filters_of sorts) filters

-- what a definition is over decides what is evaluated for it, in the scope of its objects; where it joins trees the hits stand by
-- their keys
abbrev pub IsEvaluated : Mapping → List EntryState → Ordinals → InnerOver → Inner → Answer → Type 0
IsEvaluated m view ordinals (Below p) def answer = IsAnswered m view p def.query def.sort answer.scores answer.filters
IsEvaluated m view ordinals (ChildTrees r) def answer =
    IsAnswered m view 0 def.query def.sort answer.scores answer.filters × AreKin m ordinals (Children r) view answer.scores answer.kin
IsEvaluated m view ordinals (ParentTrees r) def answer =
    IsAnswered m view 0 def.query def.sort answer.scores answer.filters × AreKin m ordinals (Parents r) view answer.scores answer.kin
IsEvaluated m view ordinals Ignored def answer = ⊤

abbrev pub is_ignored : InnerOver → Bool
is_ignored (Below p) = false
is_ignored (ChildTrees r) = false
is_ignored (ParentTrees r) = false
is_ignored Ignored = true

-- A definition is evaluated, and those that it owns are; of an ignored one nothing is.
abbrev mutual
  pub IsPrepared : Mapping → List EntryState → Ordinals → Definition Inner → Definition Answer → Type 0
  IsPrepared m view ordinals (definition def owned) (definition answer inner) =
      IsEvaluated m view ordinals def.over def answer × (is_ignored def.over ≡ false → ArePrepared m view ordinals owned inner)

  pub ArePrepared : Mapping → List EntryState → Ordinals → Definitions Inner → Definitions Answer → Type 0
  ArePrepared m view ordinals no_definitions no_definitions = ⊤
  ArePrepared m view ordinals no_definitions (with_definition a answers) = ⊥
  ArePrepared m view ordinals (with_definition d ds) no_definitions = ⊥
  ArePrepared m view ordinals (with_definition d ds) (with_definition a answers) = IsPrepared m view ordinals d a × ArePrepared m view ordinals ds answers

-- and what is prepared for several stands behind what was prepared before
pub record AddsPrepared (m : Mapping) (view : List EntryState) (ordinals : Ordinals) (ds : Definitions Inner) (old new : List (Definition Answer)) : Type 0 where
  pub added : List (Definition Answer)
  pub is : new ≡ old ++ added
  pub prepared : ArePrepared m view ordinals ds (definitions_of added)
