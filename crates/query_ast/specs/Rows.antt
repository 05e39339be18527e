-- Objects as rows: those that a query hits, each with its score and its keys.
use Rattle.std.specs.Prelude.{ℕ, ℤ, pos, List, map, filter_map, Option, option_map}
use Rattle.mapping.specs.Mapping.{Mapping}
use Rattle.tree_objects.specs.Object.{Object, tree_of}
use Rattle.tree_objects.specs.Tree.{Tree}
use Rattle.query_ast.specs.Clause.{Clause}
use Rattle.query_ast.specs.Hit.{hit}
use Rattle.query_ast.specs.Page.{page_of, direction_of}
use Rattle.query_ast.specs.SortKey.{sort_key}
use Rattle.query_ast.specs.declared.sort.Key.{Key}
use Rattle.query_ast.specs.declared.sort.KeyRow.{KeyRow}
use Rattle.query_ast.specs.declared.sort.Sort.{Sort}

pub record Row : Type 0 where
  pub object : Object
  pub score : ℕ
  pub keys : List Key

abbrev pub keys_of : Row → List Key
keys_of row = row.keys

-- the sequence number of its tree
abbrev pub number_of : Row → ℤ
number_of row = pos (tree_of row.object).number

abbrev pub row_of : Mapping → List Tree → List Sort → Object → ℕ → Row
row_of m live sorts o score = record { object = o; score = score; keys = map (sort_key m live score o) sorts }

abbrev pub row_if : Mapping → List Tree → Clause → List Sort → Object → Option Row
row_if m live query sorts o = option_map (row_of m live sorts o) (hit m live query o)

-- the rows of the objects that the query hits
unfoldable pub rows_of : Mapping → List Tree → Clause → List Sort → List Object → List Row
rows_of m live query sorts objects = filter_map (row_if m live query sorts) objects

abbrev pub paged : List Sort → Option KeyRow → ℕ → ℕ → List Row → List Row
paged sorts after from size rows = page_of keys_of number_of (map direction_of sorts) after from size rows
