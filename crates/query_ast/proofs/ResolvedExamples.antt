-- What is asked of a search that was read can be met: a search with all its parts, under the sample mapping.
use Rattle.std.specs.Prelude.{pos, true, false, [], ◌∷◌, codes, Some, None}
use Rattle.std.proofs.Common.{arith}
use Rattle.score_math.specs.declared.score.ScoreMode.TheVariants.{Sum as Total}
use Rattle.query_ast.specs.Clause.{Clause, leaf, to_child, has_child, has_parent, on_field, is_between}
use Rattle.query_ast.specs.Definition.{definition, no_definitions, with_definition}
use Rattle.query_ast.specs.Resolved.{IsResolved, IsSearch}
use Rattle.query_ast.specs.Search.{by_score, everything}
use Rattle.query_ast.specs.declared.agg.AggForm.TheVariants.{Nested, Terms}
use Rattle.query_ast.specs.declared.inner.InnerOver.TheVariants.{Below}
use Rattle.query_ast.specs.declared.query.RangeEnd.TheVariants.{Free, Past}
use Rattle.query_ast.specs.declared.search.SearchBody.{SearchBody}
use Rattle.query_ast.specs.declared.sort.Missing.TheVariants.{Last}
use Rattle.query_ast.specs.declared.sort.Sort.{Sort}
use Rattle.query_ast.specs.declared.sort.SortKey.TheVariants.{Field}
use Rattle.query_ast.specs.declared.sort.SortMode.TheVariants.{Median}
use Rattle.query_ast.proofs.Samples.{mapping, color, price, all, word, number, term, both, within}

abbrev red : Clause
red = term color (word (codes "red"))

abbrev cheap : Clause
cheap = leaf (on_field (Some price) (is_between Free (Past (number (pos 9))))) 1

abbrev red_offer : Clause
red_offer = within 1 (both (both red cheap) (to_child (Some 0) (has_child (Some 0) (has_parent (Some 1) all true 1) Total 1 (Some 9))))

is_resolved : IsResolved mapping 0 red_offer
is_resolved = search arith

-- by the median price of the red offers, after a row without one
abbrev by_price : Sort
by_price = record { key = Field price Median (record { scope = 1; filter = Some red } ∷ []); descending = true; missing = Last }

abbrev body : SearchBody
body = record (everything 1 10 false) {
  query = red_offer;
  sort = by_price ∷ by_score ∷ [];
  after = None;
  aggs = definition (record { name = codes "o"; form = Nested 1 }) (with_definition (definition (record { name = codes "c"; form = Terms (Some color) 10 false true }) no_definitions) no_definitions) ∷ [];
  inner = definition (record { name = codes "offers"; over = Below 1; query = red; from = 0; size = 3; sort = by_score ∷ []; source = true }) no_definitions ∷ [];
}

is_search : IsSearch mapping body
is_search = search (arith, is_resolved)
