-- What a search finds among the live trees: its page of hits, and its buckets (Elasticsearch reference, search API).
use Rattle.std.specs.Prelude.{ℕ, pos, Bool, true, List, [], ◌∷◌, map, length, None}
use Rattle.mapping.specs.Mapping.{Mapping}
use Rattle.tree_objects.specs.Object.{root, tree_of}
use Rattle.tree_objects.specs.Tree.{Tree}
use Rattle.query_ast.specs.Buckets.{bucket_replies}
use Rattle.query_ast.specs.Clause.{leaf, match_all}
use Rattle.query_ast.specs.Definition.{definitions_of}
use Rattle.query_ast.specs.Hit.{those_hit}
use Rattle.query_ast.specs.InnerHits.{inner_pages, source_of}
use Rattle.query_ast.specs.Joined.{roots}
use Rattle.query_ast.specs.Replies.{ReplyPart}
use Rattle.query_ast.specs.Rows.{Row, rows_of, paged}
use Rattle.query_ast.specs.declared.hit.Hit.{Hit}
use Rattle.query_ast.specs.declared.hit.HitPage.{HitPage}
use Rattle.query_ast.specs.declared.search.SearchBody.{SearchBody}
use Rattle.query_ast.specs.declared.sort.Key.TheVariants.{Number}
use Rattle.query_ast.specs.declared.sort.Missing.TheVariants.{Last}
use Rattle.query_ast.specs.declared.sort.Sort.{Sort}
use Rattle.query_ast.specs.declared.sort.SortKey.TheVariants.{Score}

-- a row as a hit of the search, with the pages of the definitions that the search hit owns
abbrev pub hit_of : Mapping → List Tree → SearchBody → Row → Hit
hit_of m live body row = record {
  id = (tree_of row.object).id;
  number = (tree_of row.object).number;
  score = row.score;
  keys = row.keys;
  source = source_of body.source row.object;
  inner = inner_pages m live (definitions_of body.inner) row.object;
}

-- the roots that the query hits, in the order of the trees
abbrev pub found_rows : Mapping → List Tree → SearchBody → List Row
found_rows m live body = rows_of m live body.query body.sort (roots live)

-- the page of the hits, and the number of all of them
unfoldable pub hit_page : Mapping → List Tree → SearchBody → HitPage
hit_page m live body = record {
  hits = map (hit_of m live body) (paged body.sort body.after body.from body.size (found_rows m live body));
  total = length (found_rows m live body);
}

-- the answers of the buckets over all hits, whatever the page
unfoldable pub found_buckets : Mapping → List Tree → SearchBody → List ReplyPart
found_buckets m live body = bucket_replies m live (definitions_of body.aggs) (those_hit m live body.query (roots live))

-- ---- the search for everything: each tree with the same score, so that hits stand by sequence number

abbrev pub by_score : Sort
by_score = record { key = Score; descending = true; missing = Last }

-- with this boost, of so many hits, with or without their sources
abbrev pub everything : ℕ → ℕ → Bool → SearchBody
everything boost size source = record {
  query = leaf match_all boost;
  sort = by_score ∷ [];
  after = None;
  from = 0;
  size = size;
  aggs = [];
  inner = [];
  pit = None;
  source = source;
}

-- a tree as a hit of that search
abbrev pub whole_hit : ℕ → Bool → Tree → Hit
whole_hit boost source tree = record {
  id = tree.id;
  number = tree.number;
  score = boost;
  keys = Number (pos boost) ∷ [];
  source = source_of source (root tree);
  inner = [];
}
