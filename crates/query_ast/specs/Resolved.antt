-- That a search was resolved under a mapping and in a scope: its fields, scopes and relations are the mapping's, each path
-- leads where its clause may lead, and each value is one of its field's kind. The parser gives this and evaluators take
-- it. Of a clause that names something unknown nothing is asked, for it hits nothing.
use Rattle.std.specs.Prelude.{ℕ, ◌+◌, ◌<◌, ◌≤◌, ◌≡◌, ⊤, Bool, false, IsTrue, List, [], ◌∷◌, length, Option, Some, None, IsSome}
use Rattle.std.specs.List.{AllByRecursion}
use Rattle.std.specs.Str.{IsUtf8}
use Rattle.tree_objects.specs.declared.field_value.FieldValue.{FieldValue}
use Rattle.tree_objects.specs.declared.field_value.FieldValue.TheVariants.{Number, Written}
use Rattle.mapping_body.specs.declared.kind.Kind.{Kind}
use Rattle.mapping.specs.Mapping.{Mapping, IsAbove, kind_at, relation_at}
use Rattle.query_ast.specs.Agg.{Agg}
use Rattle.query_ast.specs.Clause.{Test, is_among, is_between, exists, begins_with, has_words, has_phrase, Leaf, match_all, match_none, ids, on_field, parent_id, Clause, leaf, bool, constant_score, dis_max, nested, to_child, has_child, has_parent, Clauses, no_clauses, clause}
use Rattle.query_ast.specs.Definition.{Definition, definition, Definitions, no_definitions, with_definition, definitions_of}
use Rattle.query_ast.specs.Inner.{Inner}
use Rattle.query_ast.specs.declared.agg.AggForm.{AggForm}
use Rattle.query_ast.specs.declared.agg.AggForm.TheVariants.{Filter, Nested, ReverseNested, Children as ChildBuckets, Parent, Terms, Min as MinOf, Max as MaxOf, Sum as SumOf, ValueCount}
use Rattle.query_ast.specs.declared.inner.InnerOver.{InnerOver}
use Rattle.query_ast.specs.declared.inner.InnerOver.TheVariants.{Below, Children, Parents, Ignored}
use Rattle.query_ast.specs.Uses.{Uses, uses_at, is_written, IsValueOf, IsEndOf}
use Rattle.query_ast.specs.declared.search.SearchBody.{SearchBody}
use Rattle.query_ast.specs.declared.sort.Chain.{Chain}
use Rattle.query_ast.specs.declared.sort.Key.{Key}
use Rattle.query_ast.specs.declared.sort.Key.TheVariants.{Null, Number as NumberKey, Written as WrittenKey}
use Rattle.query_ast.specs.declared.sort.KeyRow.{KeyRow}
use Rattle.query_ast.specs.declared.sort.Missing.{Missing}
use Rattle.query_ast.specs.declared.sort.Missing.TheVariants.{Last, First, Given}
use Rattle.query_ast.specs.declared.sort.Sort.{Sort}
use Rattle.query_ast.specs.declared.sort.SortKey.{SortKey}
use Rattle.query_ast.specs.declared.sort.SortKey.TheVariants.{Score, Field}
use Rattle.query_ast.specs.declared.sort.SortMode.{SortMode}
use Rattle.query_ast.specs.declared.sort.SortMode.TheVariants.{Min, Max, Sum, Avg, Median}

-- ---- queries

abbrev pub IsBoost : ℕ → Type 0
IsBoost boost = (1 ≤ boost) × (boost ≤ 10_000)

-- words are asked of a text, whose bytes are UTF-8
abbrev pub IsText : FieldValue → Type 0
IsText (Number z) = ⊤
IsText (Written s) = IsUtf8 s

abbrev pub IsTestOf : Mapping → ℕ → Test → Type 0
IsTestOf m f (is_among given) = IsTrue (uses_at m f).valued × AllByRecursion (IsValueOf (kind_at m f)) given
IsTestOf m f (is_between low high) = IsTrue (uses_at m f).ranged × IsEndOf (kind_at m f) low × IsEndOf (kind_at m f) high
IsTestOf m f exists = ⊤
IsTestOf m f (begins_with start) = IsTrue (uses_at m f).begun
IsTestOf m f (has_words value all) = IsTrue (uses_at m f).valued × IsValueOf (kind_at m f) value × IsText value
IsTestOf m f (has_phrase value) = IsTrue (uses_at m f).valued × IsValueOf (kind_at m f) value × IsText value

abbrev pub IsChildRelation : Mapping → ℕ → Type 0
IsChildRelation m r = (r < length m.relations) × IsSome (relation_at m r).parent

-- some relation has it as its parent
pub record IsParentRelation (m : Mapping) (p : ℕ) : Type 0 where
  pub child : ℕ
  pub in_range : child < length m.relations
  pub is_parent : (relation_at m child).parent ≡ Some p

abbrev pub IsLeaf : Mapping → Leaf → Type 0
IsLeaf m match_all = ⊤
IsLeaf m match_none = ⊤
IsLeaf m (ids listed) = ⊤
IsLeaf m (on_field None test) = ⊤
IsLeaf m (on_field (Some f) test) = (f < length m.fields) × IsTestOf m f test
IsLeaf m (parent_id None id) = ⊤
IsLeaf m (parent_id (Some r) id) = IsChildRelation m r

-- scope p lies strictly below scope s
abbrev pub IsBelow : Mapping → ℕ → ℕ → Type 0
IsBelow m s p = IsAbove m s p × (p < length m.scopes)

abbrev pub IsUpTo : ℕ → Option ℕ → Type 0
IsUpTo least None = ⊤
IsUpTo least (Some most) = least ≤ most

-- in scope s; the query of a join is judged at roots
abbrev mutual
  pub IsResolved : Mapping → ℕ → Clause → Type 0
  IsResolved m s (leaf l boost) = IsLeaf m l × IsBoost boost
  IsResolved m s (bool must filter should must_not least) =
      AreResolved m s must × AreResolved m s filter × AreResolved m s should × AreResolved m s must_not
  IsResolved m s (constant_score c boost) = IsResolved m s c × IsBoost boost
  IsResolved m s (dis_max cs) = AreResolved m s cs
  IsResolved m s (nested None c mode) = ⊤
  IsResolved m s (nested (Some p) c mode) = IsBelow m s p × IsResolved m p c
  IsResolved m s (to_child None c) = ⊤
  IsResolved m s (to_child (Some p) c) = IsAbove m p s × IsResolved m p c
  IsResolved m s (has_child None c mode least most) = ⊤
  IsResolved m s (has_child (Some r) c mode least most) =
      IsChildRelation m r × (1 ≤ least) × IsUpTo least most × IsResolved m 0 c
  IsResolved m s (has_parent None c score boost) = ⊤
  IsResolved m s (has_parent (Some p) c score boost) = IsParentRelation m p × IsBoost boost × IsResolved m 0 c

  pub AreResolved : Mapping → ℕ → Clauses → Type 0
  AreResolved m s no_clauses = ⊤
  AreResolved m s (clause c cs) = IsResolved m s c × AreResolved m s cs

-- ---- sorts

abbrev pub IsFilter : Mapping → ℕ → Option Clause → Type 0
IsFilter m s None = ⊤
IsFilter m s (Some c) = IsResolved m s c

abbrev pub IsChain : Mapping → ℕ → List Chain → Type 0
IsChain m s [] = ⊤
IsChain m s (step ∷ chain) = IsBelow m s step.scope × IsFilter m step.scope step.filter × IsChain m step.scope chain

-- texts have no sum and no mean
abbrev pub IsModeOf : Kind → SortMode → Type 0
IsModeOf kind Min = ⊤
IsModeOf kind Max = ⊤
IsModeOf kind Sum = is_written kind ≡ false
IsModeOf kind Avg = is_written kind ≡ false
IsModeOf kind Median = is_written kind ≡ false

abbrev pub IsMissingOf : Kind → Missing → Type 0
IsMissingOf kind Last = ⊤
IsMissingOf kind First = ⊤
IsMissingOf kind (Given v) = IsValueOf kind v

abbrev pub IsSortKey : Mapping → ℕ → Missing → SortKey → Type 0
IsSortKey m s missing Score = missing ≡ Last
IsSortKey m s missing (Field f mode chain) =
    (f < length m.fields) × IsTrue (uses_at m f).sorted × IsModeOf (kind_at m f) mode × IsMissingOf (kind_at m f) missing × IsChain m s chain

abbrev pub AreSorts : Mapping → ℕ → List Sort → Type 0
AreSorts m s sorts = AllByRecursion (λ (sort : Sort). IsSortKey m s sort.missing sort.key) sorts

-- ---- `search_after`: a key for each clause, null only where the clause can have none

abbrev pub IsKeyOf : Mapping → SortKey → Missing → Key → Type 0
IsKeyOf m Score missing Null = IsTrue false
IsKeyOf m Score missing (NumberKey z) = ⊤
IsKeyOf m Score missing (WrittenKey s) = IsTrue false
IsKeyOf m (Field f mode chain) Last Null = ⊤
IsKeyOf m (Field f mode chain) First Null = ⊤
IsKeyOf m (Field f mode chain) (Given v) Null = IsTrue false
IsKeyOf m (Field f mode chain) missing (NumberKey z) = IsValueOf (kind_at m f) (Number z)
IsKeyOf m (Field f mode chain) missing (WrittenKey s) = IsValueOf (kind_at m f) (Written s)

abbrev pub AreKeys : Mapping → List Sort → List Key → Type 0
AreKeys m [] [] = ⊤
AreKeys m [] (key ∷ keys) = IsTrue false
AreKeys m (sort ∷ sorts) [] = IsTrue false
AreKeys m (sort ∷ sorts) (key ∷ keys) = IsKeyOf m sort.key sort.missing key × AreKeys m sorts keys

abbrev pub IsAfter : Mapping → List Sort → Option KeyRow → Type 0
IsAfter m sorts None = ⊤
IsAfter m sorts (Some row) = AreKeys m sorts row.keys

-- ---- inner hits and buckets, and a search

-- the scope of the objects that a definition of inner hits gives, from one of scope s
abbrev pub scope_over : ℕ → InnerOver → ℕ
scope_over s (Below p) = p
scope_over s (Children r) = 0
scope_over s (Parents r) = 0
scope_over s Ignored = s

abbrev pub IsInner : Mapping → ℕ → InnerOver → Inner → Type 0
IsInner m s (Below p) def = IsBelow m s p × IsResolved m p def.query × AreSorts m p def.sort
IsInner m s (Children r) def = IsChildRelation m r × IsResolved m 0 def.query × AreSorts m 0 def.sort
IsInner m s (Parents r) def = IsParentRelation m r × IsResolved m 0 def.query × AreSorts m 0 def.sort
IsInner m s Ignored def = def.sort ≡ []

abbrev mutual
  pub IsInnerDefinition : Mapping → ℕ → Definition Inner → Type 0
  IsInnerDefinition m s (definition def owned) =
      IsInner m s def.over def × (def.from + def.size ≤ 100) × AreInnerDefinitions m (scope_over s def.over) owned

  pub AreInnerDefinitions : Mapping → ℕ → Definitions Inner → Type 0
  AreInnerDefinitions m s no_definitions = ⊤
  AreInnerDefinitions m s (with_definition d ds) = IsInnerDefinition m s d × AreInnerDefinitions m s ds

-- an unmapped field may be asked anything
abbrev pub IsUse : (Uses → Bool) → Mapping → Option ℕ → Type 0
IsUse use_of m None = ⊤
IsUse use_of m (Some f) = (f < length m.fields) × IsTrue (use_of (uses_at m f))

-- the scope of the objects that a form of buckets hands on, from objects of scope s
abbrev pub scope_of_form : ℕ → AggForm → ℕ
scope_of_form s (Filter query) = s
scope_of_form s (Nested p) = p
scope_of_form s (ReverseNested p) = p
scope_of_form s (ChildBuckets r) = 0
scope_of_form s (Parent r) = 0
scope_of_form s (Terms field size by_key descending) = s
scope_of_form s (MinOf field) = s
scope_of_form s (MaxOf field) = s
scope_of_form s (SumOf field) = s
scope_of_form s (ValueCount field) = s

-- metrics hold no buckets
abbrev pub IsForm : Mapping → ℕ → AggForm → Definitions Agg → Type 0
IsForm m s (Filter query) inner = IsResolved m s query
IsForm m s (Nested p) inner = IsBelow m s p
IsForm m s (ReverseNested p) inner = IsAbove m p s
IsForm m s (ChildBuckets r) inner = (s ≡ 0) × IsChildRelation m r
IsForm m s (Parent r) inner = (s ≡ 0) × IsChildRelation m r
IsForm m s (Terms field size by_key descending) inner = IsUse (λ u. u.sorted) m field × (1 ≤ size) × (size ≤ 10_000)
IsForm m s (MinOf field) inner = IsUse (λ u. u.summed) m field × (inner ≡ no_definitions)
IsForm m s (MaxOf field) inner = IsUse (λ u. u.summed) m field × (inner ≡ no_definitions)
IsForm m s (SumOf field) inner = IsUse (λ u. u.summed) m field × (inner ≡ no_definitions)
IsForm m s (ValueCount field) inner = IsUse (λ u. u.sorted) m field × (inner ≡ no_definitions)

abbrev mutual
  pub IsAggDefinition : Mapping → ℕ → Definition Agg → Type 0
  IsAggDefinition m s (definition agg inner) = IsForm m s agg.form inner × AreAggDefinitions m (scope_of_form s agg.form) inner

  pub AreAggDefinitions : Mapping → ℕ → Definitions Agg → Type 0
  AreAggDefinitions m s no_definitions = ⊤
  AreAggDefinitions m s (with_definition d ds) = IsAggDefinition m s d × AreAggDefinitions m s ds

-- the most clauses of a sort
abbrev pub most_sorts : ℕ
most_sorts = 16

-- a search, which is judged at roots
pub record IsSearch (m : Mapping) (body : SearchBody) : Type 0 where
  pub query : IsResolved m 0 body.query
  pub sorts : AreSorts m 0 body.sort
  pub some_sort : 1 ≤ length body.sort
  pub few_sorts : length body.sort ≤ most_sorts
  pub after : IsAfter m body.sort body.after
  pub window : body.from + body.size ≤ 10_000
  pub buckets : AreAggDefinitions m 0 (definitions_of body.aggs)
  pub inner : AreInnerDefinitions m 0 (definitions_of body.inner)
