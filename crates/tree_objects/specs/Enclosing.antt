-- How the objects of a tree lie inside one another.
use Rattle.std.specs.Prelude.{ℕ, ◌≡◌, ◌==◌, Bool, List, ◌++◌}
use Rattle.std.specs.List.{Contains}
use Rattle.mapping.specs.Mapping.{Mapping}
use Rattle.tree_objects.specs.Object.{Object, scope, place, below, block_objects}
use Rattle.tree_objects.specs.Tree.{Tree}

abbrev pub stands_at : ℕ → Object → Bool
stands_at n o = scope o == n

-- The one object at a scope that an object of a tree lies in: it is an object of that tree, the other is one of those
-- below it, its place is how the place of the other begins, and no other object at that scope has it below.
pub record IsEnclosing (m : Mapping) (tree : Tree) (n : ℕ) (o enclosing : Object) : Type 0 where
  pub of_tree : Contains (block_objects m tree) enclosing
  pub there : scope enclosing ≡ n
  pub inside : Contains (below m enclosing (scope o)) o
  pub prefix : (rest : List (ℕ × ℕ)) × (place o ≡ place enclosing ++ rest)
  pub alone : (other : Object) → scope other ≡ n → Contains (below m other (scope o)) o → other ≡ enclosing
