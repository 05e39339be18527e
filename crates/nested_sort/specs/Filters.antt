-- The filters of sort clauses, with what they find in a view.
use Rattle.std.specs.Prelude.{ℕ, List, [], ◌∷◌, Option, Some, None, ⊤}
use Rattle.std.specs.List.{flat_map}
use Rattle.mapping.specs.Mapping.{Mapping}
use Rattle.query_ast.specs.Clause.{Clause}
use Rattle.query_ast.specs.declared.sort.Chain.{Chain}
use Rattle.query_ast.specs.declared.sort.Sort.{Sort}
use Rattle.query_ast.specs.declared.sort.SortKey.{SortKey}
use Rattle.query_ast.specs.declared.sort.SortKey.TheVariants.{Score, Field}
use Rattle.query_eval.specs.Found.{IsFound}
use Rattle.segment.specs.Live.{EntryState}

-- a filter with the scope of its path
abbrev pub filter_at : ℕ → Option Clause → List (ℕ × Clause)
filter_at scope None = []
filter_at scope (Some filter) = (scope, filter) ∷ []

abbrev pub filter_of : Chain → List (ℕ × Clause)
filter_of step = filter_at step.scope step.filter

abbrev pub filters_of_key : SortKey → List (ℕ × Clause)
filters_of_key Score = []
filters_of_key (Field f mode chain) = flat_map filter_of chain

-- those of all clauses in order, and of each clause from the outermost in
abbrev pub filters_of : List Sort → List (ℕ × Clause)
filters_of sorts = flat_map (λ (sort : Sort). filters_of_key sort.key) sorts

-- the scores of each filter over a view
abbrev pub AreFound : Mapping → List EntryState → List (ℕ × Clause) → List (List (List (Option ℕ))) → Type 0
AreFound m view [] [] = ⊤
AreFound m view [] (scores ∷ more) = ⊥
AreFound m view (filter ∷ filters) [] = ⊥
AreFound m view (filter ∷ filters) (scores ∷ more) = IsFound m view filter.0 filter.1 scores × AreFound m view filters more
