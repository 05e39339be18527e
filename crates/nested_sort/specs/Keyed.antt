-- The rows of what was found in a view: one for each document with a score, by entry and document, with the keys that its
-- object has among the live trees of the view.
use Rattle.std.specs.Prelude.{ℕ, suc, pos, List, [], ◌∷◌, ◌++◌, map, Option, Some, None, option_map}
use Rattle.flattener.specs.StandsFor.{Marked}
use Rattle.mapping.specs.Mapping.{Mapping}
use Rattle.query_ast.specs.SortKey.{sort_key}
use Rattle.query_ast.specs.declared.sort.KeyRow.{KeyRow}
use Rattle.query_ast.specs.declared.sort.Sort.{Sort}
use Rattle.query_eval.specs.Found.{live_trees}
use Rattle.tree_joins.specs.Seen.{at_scope, seen}
use Rattle.tree_objects.specs.Object.{Object, tree_of}
use Rattle.tree_objects.specs.Tree.{Tree}

-- an object with the score that it is given
abbrev pub scored : (Object → Option ℕ) → Object → Option (Object × ℕ)
scored given o = option_map (λ score. (o, score)) (given o)

abbrev pub keyed_row : Mapping → List Tree → List Sort → ℕ → ℕ → Object × ℕ → KeyRow
keyed_row m live sorts place doc hit = record {
  keys = map (sort_key m live hit.1 hit.0) sorts;
  place = place;
  doc = doc;
  number = pos (tree_of hit.0).number;
}

-- the rows of an entry, whose documents are numbered from `doc`
abbrev pub rows_from : Mapping → List Tree → List Sort → ℕ → ℕ → List (Option (Object × ℕ)) → List KeyRow
rows_from m live sorts place doc [] = []
rows_from m live sorts place doc (None ∷ hits) = rows_from m live sorts place (suc doc) hits
rows_from m live sorts place doc (Some hit ∷ hits) = keyed_row m live sorts place doc hit ∷ rows_from m live sorts place (suc doc) hits

-- the rows of the objects of a scope in entries, which are numbered from `place`
abbrev pub rows_in : Mapping → ℕ → List Tree → List Sort → (Object → Option ℕ) → ℕ → List (List (Marked Tree)) → List KeyRow
rows_in m n live sorts given place [] = []
rows_in m n live sorts given place (trees ∷ more) =
    rows_from m live sorts place 0 (seen m (at_scope n (scored given)) trees) ++ rows_in m n live sorts given (suc place) more

unfoldable pub keyed_rows : Mapping → ℕ → List Sort → (List Tree → Object → Option ℕ) → List (List (Marked Tree)) → List KeyRow
keyed_rows m n sorts given trees = rows_in m n (live_trees trees) sorts (given (live_trees trees)) 0 trees
