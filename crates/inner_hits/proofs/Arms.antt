-- A definition by what it is over: what was resolved, and what was evaluated.
use Rattle.std.proofs.Common.{◌≡◌, ℕ, ◌<◌, ◌||◌, Bool, true, false, List as Seq, length, Option, refl, sym, ap, ◌∙◌}
use Rattle.std.proofs.lemmas.Bool.{true≢false}
use Rattle.std.specs.List.{list_any}
use Rattle.flattener.specs.StandsFor.{Marked}
use Rattle.join_ordinals.specs.Ordinals.{Ordinals}
use Rattle.mapping.specs.Mapping.{IsAbove, Mapping}
use Rattle.nested_sort.specs.Filters.{AreFound, filters_of}
use Rattle.query_eval.specs.Found.{AreLong}
use Rattle.query_ast.specs.Definition.{Definition, Definitions, definitions_of, with_definition}
use Rattle.query_ast.specs.Inner.{Inner}
use Rattle.query_ast.specs.Inner.View.{inner_of}
use Rattle.query_ast.specs.Joins.{inner_joins, joins, over_joins, some_inner_joins, sort_joins}
use Rattle.query_ast.specs.Resolved.{AreInnerDefinitions, AreSorts, IsBelow, IsChildRelation, IsInnerDefinition, IsParentRelation, IsResolved}
use Rattle.query_ast.specs.declared.inner.InnerDef.{InnerDef}
use Rattle.query_ast.specs.declared.inner.InnerOver.TheVariants.{Below, Children as ChildTrees, Parents as ParentTrees, Ignored}
use Rattle.query_eval.specs.declared.side.Side.TheVariants.{Parents, Children}
use Rattle.segment.specs.Live.{EntryState}
use Rattle.tree_json.specs.Value.{JsonValue}
use Rattle.tree_objects.specs.Tree.{Tree}
use Rattle.inner_hits.specs.Hits.{IsOwner, is_below, some_below}
use Rattle.inner_hits.specs.Kinship.{AreKin}
use Rattle.inner_hits.specs.Answers.{Answer}
use Rattle.inner_hits.specs.Prepared.{ArePrepared, IsAnswered, IsEvaluated, IsPrepared, is_ignored}
use Rattle.inner_hits.specs.Prepared.View.{prepared_of}
use Rattle.inner_hits.specs.declared.prepared.PreparedDef.{PreparedDef}

-- ---- what was evaluated

abbrev asked : InnerDef → Inner
asked def = record { name = def.name; over = def.over; query = def.query; from = def.from; size = def.size; sort = def.sort; source = def.source }

abbrev answered : PreparedDef → Answer
answered p = record { scores = p.hits; filters = p.filters.items; kin = p.kin.items }

module _ (m : Mapping) (view : Seq EntryState) (ordinals : Ordinals) (def : InnerDef) (p : PreparedDef) where
  evaluated_children : (r : ℕ) → def.over ≡ ChildTrees r → IsEvaluated m view ordinals def.over (asked def) (answered p) → IsAnswered m view 0 def.query def.sort p.hits p.filters.items × AreKin m ordinals (Children r) view p.hits p.kin.items
  evaluated_children r is evaluated = rw is at evaluated

  evaluated_parents : (r : ℕ) → def.over ≡ ParentTrees r → IsEvaluated m view ordinals def.over (asked def) (answered p) → IsAnswered m view 0 def.query def.sort p.hits p.filters.items × AreKin m ordinals (Parents r) view p.hits p.kin.items
  evaluated_parents r is evaluated = rw is at evaluated

  pub below_answered : (path : ℕ) → def.over ≡ Below path → IsPrepared m view ordinals (inner_of def) (prepared_of p) → IsAnswered m view path def.query def.sort p.hits p.filters.items
  below_answered path is prepared = rw is at (prepared.0)

  pub below_owned : (path : ℕ) → def.over ≡ Below path → IsPrepared m view ordinals (inner_of def) (prepared_of p) → ArePrepared m view ordinals (definitions_of def.owned) (definitions_of p.owned)
  below_owned path is prepared = prepared.1 (ap is_ignored is)

  pub children_answered : (r : ℕ) → def.over ≡ ChildTrees r → IsPrepared m view ordinals (inner_of def) (prepared_of p) → IsAnswered m view 0 def.query def.sort p.hits p.filters.items
  children_answered r is prepared = (evaluated_children r is prepared.0).0

  pub children_kin : (r : ℕ) → def.over ≡ ChildTrees r → IsPrepared m view ordinals (inner_of def) (prepared_of p) → AreKin m ordinals (Children r) view p.hits p.kin.items
  children_kin r is prepared = (evaluated_children r is prepared.0).1

  pub children_owned : (r : ℕ) → def.over ≡ ChildTrees r → IsPrepared m view ordinals (inner_of def) (prepared_of p) → ArePrepared m view ordinals (definitions_of def.owned) (definitions_of p.owned)
  children_owned r is prepared = prepared.1 (ap is_ignored is)

  pub parents_answered : (r : ℕ) → def.over ≡ ParentTrees r → IsPrepared m view ordinals (inner_of def) (prepared_of p) → IsAnswered m view 0 def.query def.sort p.hits p.filters.items
  parents_answered r is prepared = (evaluated_parents r is prepared.0).0

  pub parents_kin : (r : ℕ) → def.over ≡ ParentTrees r → IsPrepared m view ordinals (inner_of def) (prepared_of p) → AreKin m ordinals (Parents r) view p.hits p.kin.items
  parents_kin r is prepared = (evaluated_parents r is prepared.0).1

  pub parents_owned : (r : ℕ) → def.over ≡ ParentTrees r → IsPrepared m view ordinals (inner_of def) (prepared_of p) → ArePrepared m view ordinals (definitions_of def.owned) (definitions_of p.owned)
  parents_owned r is prepared = prepared.1 (ap is_ignored is)

  pub below_long : (path : ℕ) → def.over ≡ Below path → IsPrepared m view ordinals (inner_of def) (prepared_of p) → AreLong view p.hits
  below_long path is prepared = (below_answered path is prepared).0.long

  pub below_filters : (path : ℕ) → def.over ≡ Below path → IsPrepared m view ordinals (inner_of def) (prepared_of p) → AreFound m view (filters_of def.sort) p.filters.items
  below_filters path is prepared = (below_answered path is prepared).1

  pub children_there : (r : ℕ) → def.over ≡ ChildTrees r → IsPrepared m view ordinals (inner_of def) (prepared_of p) → (scores : Seq (Seq (Option ℕ))) × AreKin m ordinals (Children r) view scores p.kin.items × AreLong view scores
  children_there r is prepared = (p.hits, children_kin r is prepared, (children_answered r is prepared).0.long)

  pub children_filters : (r : ℕ) → def.over ≡ ChildTrees r → IsPrepared m view ordinals (inner_of def) (prepared_of p) → AreFound m view (filters_of def.sort) p.filters.items
  children_filters r is prepared = (children_answered r is prepared).1

  pub parents_there : (r : ℕ) → def.over ≡ ParentTrees r → IsPrepared m view ordinals (inner_of def) (prepared_of p) → (scores : Seq (Seq (Option ℕ))) × AreKin m ordinals (Parents r) view scores p.kin.items × AreLong view scores
  parents_there r is prepared = (p.hits, parents_kin r is prepared, (parents_answered r is prepared).0.long)

  pub parents_filters : (r : ℕ) → def.over ≡ ParentTrees r → IsPrepared m view ordinals (inner_of def) (prepared_of p) → AreFound m view (filters_of def.sort) p.filters.items
  parents_filters r is prepared = (parents_answered r is prepared).1

  -- and that it was
  pub prepared_below : (path : ℕ) → def.over ≡ Below path → IsAnswered m view path def.query def.sort p.hits p.filters.items → ArePrepared m view ordinals (definitions_of def.owned) (definitions_of p.owned) → IsPrepared m view ordinals (inner_of def) (prepared_of p)
  prepared_below path is answered owned = (rw is answered, λ some. owned)

  pub prepared_children : (r : ℕ) → def.over ≡ ChildTrees r → IsAnswered m view 0 def.query def.sort p.hits p.filters.items → AreKin m ordinals (Children r) view p.hits p.kin.items → ArePrepared m view ordinals (definitions_of def.owned) (definitions_of p.owned) → IsPrepared m view ordinals (inner_of def) (prepared_of p)
  prepared_children r is answered kin owned = (rw is ((answered, kin)), λ some. owned)

  pub prepared_parents : (r : ℕ) → def.over ≡ ParentTrees r → IsAnswered m view 0 def.query def.sort p.hits p.filters.items → AreKin m ordinals (Parents r) view p.hits p.kin.items → ArePrepared m view ordinals (definitions_of def.owned) (definitions_of p.owned) → IsPrepared m view ordinals (inner_of def) (prepared_of p)
  prepared_parents r is answered kin owned = (rw is ((answered, kin)), λ some. owned)

  pub prepared_ignored : def.over ≡ Ignored → IsPrepared m view ordinals (inner_of def) (prepared_of p)
  prepared_ignored is = (rw is tt, λ some. absurd (true≢false (sym (ap is_ignored is) ∙ some)))

-- ---- what was resolved

module _ (m : Mapping) (s : ℕ) (def : InnerDef) where
  pub below_resolved : (path : ℕ) → def.over ≡ Below path → IsInnerDefinition m s (inner_of def) → IsBelow m s path × IsResolved m path def.query × AreSorts m path def.sort
  below_resolved path is resolved = (rw is at resolved).0

  pub below_above : (path : ℕ) → def.over ≡ Below path → IsInnerDefinition m s (inner_of def) → IsAbove m s path
  below_above path is resolved = (below_resolved path is resolved).0.0

  pub below_range : (path : ℕ) → def.over ≡ Below path → IsInnerDefinition m s (inner_of def) → path < length m.scopes
  below_range path is resolved = (below_resolved path is resolved).0.1

  pub below_sorts : (path : ℕ) → def.over ≡ Below path → IsInnerDefinition m s (inner_of def) → AreSorts m path def.sort
  below_sorts path is resolved = (below_resolved path is resolved).2

  pub below_inner : (path : ℕ) → def.over ≡ Below path → IsInnerDefinition m s (inner_of def) → AreInnerDefinitions m path (definitions_of def.owned)
  below_inner path is resolved = (rw is at resolved).2

  pub children_resolved : (r : ℕ) → def.over ≡ ChildTrees r → IsInnerDefinition m s (inner_of def) → IsChildRelation m r × IsResolved m 0 def.query × AreSorts m 0 def.sort
  children_resolved r is resolved = (rw is at resolved).0

  pub children_relation : (r : ℕ) → def.over ≡ ChildTrees r → IsInnerDefinition m s (inner_of def) → IsChildRelation m r
  children_relation r is resolved = (children_resolved r is resolved).0

  pub children_sorts : (r : ℕ) → def.over ≡ ChildTrees r → IsInnerDefinition m s (inner_of def) → AreSorts m 0 def.sort
  children_sorts r is resolved = (children_resolved r is resolved).2

  pub children_inner : (r : ℕ) → def.over ≡ ChildTrees r → IsInnerDefinition m s (inner_of def) → AreInnerDefinitions m 0 (definitions_of def.owned)
  children_inner r is resolved = (rw is at resolved).2

  pub parents_resolved : (r : ℕ) → def.over ≡ ParentTrees r → IsInnerDefinition m s (inner_of def) → IsParentRelation m r × IsResolved m 0 def.query × AreSorts m 0 def.sort
  parents_resolved r is resolved = (rw is at resolved).0

  pub parents_relation : (r : ℕ) → def.over ≡ ParentTrees r → IsInnerDefinition m s (inner_of def) → IsParentRelation m r
  parents_relation r is resolved = (parents_resolved r is resolved).0

  pub parents_sorts : (r : ℕ) → def.over ≡ ParentTrees r → IsInnerDefinition m s (inner_of def) → AreSorts m 0 def.sort
  parents_sorts r is resolved = (parents_resolved r is resolved).2

  pub parents_inner : (r : ℕ) → def.over ≡ ParentTrees r → IsInnerDefinition m s (inner_of def) → AreInnerDefinitions m 0 (definitions_of def.owned)
  parents_inner r is resolved = (rw is at resolved).2

-- ---- what joins trees

or_right : (a b : Bool) → b ≡ true → (a || b) ≡ true
or_right true b is = refl
or_right false b is = is

or_left : (a b : Bool) → a ≡ true → (a || b) ≡ true
or_left a b is = rw is refl

pub over_needs : (def : InnerDef) → over_joins def.over ≡ true → inner_joins (inner_of def) ≡ true
over_needs def is = or_left (over_joins def.over) (joins def.query || (list_any sort_joins def.sort || some_inner_joins (definitions_of def.owned))) is

pub query_needs : (def : InnerDef) → joins def.query ≡ true → inner_joins (inner_of def) ≡ true
query_needs def is = or_right (over_joins def.over) (joins def.query || (list_any sort_joins def.sort || some_inner_joins (definitions_of def.owned))) (or_left (joins def.query) (list_any sort_joins def.sort || some_inner_joins (definitions_of def.owned)) is)

pub sort_needs : (def : InnerDef) → list_any sort_joins def.sort ≡ true → inner_joins (inner_of def) ≡ true
sort_needs def is =
    or_right (over_joins def.over) (joins def.query || (list_any sort_joins def.sort || some_inner_joins (definitions_of def.owned)))
    (or_right (joins def.query) (list_any sort_joins def.sort || some_inner_joins (definitions_of def.owned)) (or_left (list_any sort_joins def.sort) (some_inner_joins (definitions_of def.owned)) is))

pub owned_needs : (def : InnerDef) → some_inner_joins (definitions_of def.owned) ≡ true → inner_joins (inner_of def) ≡ true
owned_needs def is =
    or_right (over_joins def.over) (joins def.query || (list_any sort_joins def.sort || some_inner_joins (definitions_of def.owned)))
    (or_right (joins def.query) (list_any sort_joins def.sort || some_inner_joins (definitions_of def.owned)) (or_right (list_any sort_joins def.sort) (some_inner_joins (definitions_of def.owned)) is))

pub children_need : (def : InnerDef) (r : ℕ) → def.over ≡ ChildTrees r → inner_joins (inner_of def) ≡ true
children_need def r is = over_needs def (ap over_joins is)

pub parents_need : (def : InnerDef) (r : ℕ) → def.over ≡ ParentTrees r → inner_joins (inner_of def) ≡ true
parents_need def r is = over_needs def (ap over_joins is)

-- ---- what needs the source

module _ (m : Mapping) (view : Seq EntryState) (trees : Seq (Seq (Marked Tree))) (n place doc : ℕ) (source : JsonValue) (d : Definition Inner) (ds : Definitions Inner) where
  pub owner_first : IsOwner m view trees n place doc (some_below (with_definition d ds)) source → IsOwner m view trees n place doc (is_below d) source
  owner_first owner = record { stands = owner.stands; kept = owner.kept; hit = owner.hit; holds = λ need. owner.holds (or_left (is_below d) (some_below ds) need) }

  pub owner_rest : IsOwner m view trees n place doc (some_below (with_definition d ds)) source → IsOwner m view trees n place doc (some_below ds) source
  owner_rest owner = record { stands = owner.stands; kept = owner.kept; hit = owner.hit; holds = λ need. owner.holds (or_right (is_below d) (some_below ds) need) }

pub ruleset owners = (owner_first, owner_rest)

pub ruleset needs = (query_needs, sort_needs, owned_needs, children_need, parents_need)

pub ruleset evaluated = (below_long, below_filters, below_owned, children_there, children_filters, children_owned, parents_there, parents_filters, parents_owned)

pub ruleset evaluating = (prepared_below, prepared_children, prepared_parents, prepared_ignored)

pub ruleset resolved = (below_resolved, below_above, below_range, below_sorts, below_inner, children_resolved, children_relation, children_sorts, children_inner, parents_resolved, parents_relation, parents_sorts, parents_inner)
