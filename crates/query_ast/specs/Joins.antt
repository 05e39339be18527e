-- Which searches look at trees that are joined to one another. Of any other, what a clause hits doesn't depend on the
-- other live trees.
use Rattle.std.specs.Prelude.{Bool, true, false, ◌||◌, Option, Some, None}
use Rattle.std.specs.List.{list_any}
use Rattle.query_ast.specs.Agg.{Agg}
use Rattle.query_ast.specs.Clause.{Clause, leaf, bool, constant_score, dis_max, nested, to_child, has_child, has_parent, Clauses, no_clauses, clause}
use Rattle.query_ast.specs.Definition.{Definition, definition, Definitions, no_definitions, with_definition, definitions_of}
use Rattle.query_ast.specs.Inner.{Inner}
use Rattle.query_ast.specs.declared.agg.AggForm.{AggForm}
use Rattle.query_ast.specs.declared.agg.AggForm.TheVariants.{Filter, Nested, ReverseNested, Children as ChildBuckets, Parent, Terms, Min, Max, Sum, ValueCount}
use Rattle.query_ast.specs.declared.inner.InnerOver.{InnerOver}
use Rattle.query_ast.specs.declared.inner.InnerOver.TheVariants.{Below, Children, Parents, Ignored}
use Rattle.query_ast.specs.declared.search.SearchBody.{SearchBody}
use Rattle.query_ast.specs.declared.sort.Chain.{Chain}
use Rattle.query_ast.specs.declared.sort.Sort.{Sort}
use Rattle.query_ast.specs.declared.sort.SortKey.{SortKey}
use Rattle.query_ast.specs.declared.sort.SortKey.TheVariants.{Score, Field}

-- a clause that is passed over looks at nothing
abbrev mutual
  pub joins : Clause → Bool
  joins (leaf l boost) = false
  joins (bool must filter should must_not least) = some_join must || (some_join filter || (some_join should || some_join must_not))
  joins (constant_score c boost) = joins c
  joins (dis_max cs) = some_join cs
  joins (nested scope c mode) = joins c
  joins (to_child scope c) = joins c
  joins (has_child None c mode least most) = false
  joins (has_child (Some r) c mode least most) = true
  joins (has_parent None c score boost) = false
  joins (has_parent (Some r) c score boost) = true

  pub some_join : Clauses → Bool
  some_join no_clauses = false
  some_join (clause c cs) = joins c || some_join cs

abbrev pub filter_joins : Option Clause → Bool
filter_joins None = false
filter_joins (Some c) = joins c

abbrev pub step_joins : Chain → Bool
step_joins step = filter_joins step.filter

abbrev pub key_joins : SortKey → Bool
key_joins Score = false
key_joins (Field f mode chain) = list_any step_joins chain

abbrev pub sort_joins : Sort → Bool
sort_joins sort = key_joins sort.key

abbrev pub over_joins : InnerOver → Bool
over_joins (Below p) = false
over_joins (Children r) = true
over_joins (Parents r) = true
over_joins Ignored = false

abbrev mutual
  pub inner_joins : Definition Inner → Bool
  inner_joins (definition def owned) =
      over_joins def.over || (joins def.query || (list_any sort_joins def.sort || some_inner_joins owned))

  pub some_inner_joins : Definitions Inner → Bool
  some_inner_joins no_definitions = false
  some_inner_joins (with_definition d ds) = inner_joins d || some_inner_joins ds

abbrev pub form_joins : AggForm → Bool
form_joins (Filter query) = joins query
form_joins (Nested p) = false
form_joins (ReverseNested p) = false
form_joins (ChildBuckets r) = true
form_joins (Parent r) = true
form_joins (Terms field size by_key descending) = false
form_joins (Min field) = false
form_joins (Max field) = false
form_joins (Sum field) = false
form_joins (ValueCount field) = false

abbrev mutual
  pub agg_joins : Definition Agg → Bool
  agg_joins (definition agg inner) = form_joins agg.form || some_agg_joins inner

  pub some_agg_joins : Definitions Agg → Bool
  some_agg_joins no_definitions = false
  some_agg_joins (with_definition d ds) = agg_joins d || some_agg_joins ds

abbrev pub search_joins : SearchBody → Bool
search_joins body =
    joins body.query
    || (list_any sort_joins body.sort || (some_inner_joins (definitions_of body.inner) || some_agg_joins (definitions_of body.aggs)))
