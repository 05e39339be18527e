-- Inner hits (Elasticsearch reference, retrieve inner hits): a definition is answered for every hit of its owner, whatever
-- clause it stands in, with a page of the objects or of the joined trees that hit its query.
use Rattle.std.specs.Prelude.{ℕ, ◌++◌, Bool, List, [], ◌∷◌, map, length, Option, Some, None, if◌then◌else◌}
use Rattle.std.specs.List.{join_with_byte}
use Rattle.tree_json.specs.Text.{compact}
use Rattle.mapping.specs.Mapping.{Mapping, scope_at}
use Rattle.mapping_body.specs.Names.{dot}
use Rattle.tree_objects.specs.Object.{Object, root, inside, content, tree_of, below}
use Rattle.tree_objects.specs.Tree.{Tree}
use Rattle.query_ast.specs.Definition.{Definition, definition, Definitions, no_definitions, with_definition}
use Rattle.query_ast.specs.Inner.{Inner}
use Rattle.query_ast.specs.Joined.{roots, child_trees, parent_trees}
use Rattle.query_ast.specs.Pages.{InnerHead, PagePart, HitPart, pages_of, hits_of}
use Rattle.query_ast.specs.Rows.{Row, rows_of, paged}
use Rattle.query_ast.specs.declared.hit.Level.{Level}
use Rattle.query_ast.specs.declared.inner.InnerOver.{InnerOver}
use Rattle.query_ast.specs.declared.inner.InnerOver.TheVariants.{Below, Children, Parents, Ignored}

-- what a definition looks at from an object of its owner, in document order or by sequence number; how many children a
-- join asks for doesn't matter
abbrev pub objects_over : Mapping → List Tree → InnerOver → Object → List Object
objects_over m live (Below p) o = below m o p
objects_over m live (Children r) o = roots (child_trees m live r o)
objects_over m live (Parents r) o = roots (parent_trees m live r o)
objects_over m live Ignored o = []

-- the place of an object: each field relative to the object around, with the offset there; a root has none
abbrev pub levels_of : Mapping → Object → List Level
levels_of m (root tree) = []
levels_of m (inside outer n offset value) =
    levels_of m outer ++ record { field = join_with_byte dot (scope_at m n).names; offset = offset } ∷ []

-- the text of an object's content, where it is asked for
abbrev pub source_of : Bool → Object → Option (List ℕ)
source_of asked o = if asked then Some (compact (content o)) else None

abbrev pub head_of : Mapping → Bool → Row → InnerHead
head_of m source row = record {
  id = (tree_of row.object).id;
  levels = levels_of m row.object;
  score = row.score;
  source = source_of source row.object;
}

-- a row as a hit, with the pages of what its definition owns
abbrev pub hit_by : Mapping → Bool → (Object → List PagePart) → Row → HitPart
hit_by m source pages row = record { head = head_of m source row; inner = pages_of (pages row.object) }

-- the page of a definition among rows, and the number of all of them
abbrev pub page_by : Mapping → Inner → (Object → List PagePart) → List Row → PagePart
page_by m def pages rows = record {
  name = def.name;
  hits = hits_of (map (hit_by m def.source pages) (paged def.sort None def.from def.size rows));
  total = length rows;
}

abbrev mutual
  pub inner_page : Mapping → List Tree → Definition Inner → Object → PagePart
  inner_page m live (definition def owned) o =
      page_by m def (inner_pages m live owned) (rows_of m live def.query def.sort (objects_over m live def.over o))

  -- one page for each definition, in their order
  pub inner_pages : Mapping → List Tree → Definitions Inner → Object → List PagePart
  inner_pages m live no_definitions o = []
  inner_pages m live (with_definition d ds) o = inner_page m live d o ∷ inner_pages m live ds o
