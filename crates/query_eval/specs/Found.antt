-- What a query finds in a view: the document of each live object of a scope has the score that the query gives that object.
use Rattle.std.specs.Prelude.{◌≡◌, ℕ, Bool, List, [], ◌∷◌, length, map, filter, Option, ⊤}
use Rattle.std.specs.List.{flat_map}
use Rattle.flattener.specs.StandsFor.{Marked, ViewStandsFor}
use Rattle.mapping.specs.Mapping.{Mapping}
use Rattle.query_ast.specs.Clause.{Clause}
use Rattle.query_ast.specs.Hit.{hit}
use Rattle.segment.specs.Live.{EntryState}
use Rattle.tree_joins.specs.Seen.{at_scope, seen}
use Rattle.tree_objects.specs.Object.{Object}
use Rattle.tree_objects.specs.Tree.{Tree}

abbrev pub is_live : Marked Tree → Bool
is_live t = t.live

abbrev pub tree_in : Marked Tree → Tree
tree_in t = t.item

-- the live trees that an entry stands for, and those of a view, in order
abbrev pub live_in : List (Marked Tree) → List Tree
live_in trees = map tree_in (filter is_live trees)

abbrev pub live_trees : List (List (Marked Tree)) → List Tree
live_trees entries = flat_map live_in entries

-- a list for each entry, with a score or none for each of its documents
abbrev pub AreLong : List EntryState → List (List (Option ℕ)) → Type 0
AreLong [] [] = ⊤
AreLong [] (scores ∷ more) = ⊥
AreLong (entry ∷ view) [] = ⊥
AreLong (entry ∷ view) (scores ∷ more) = (length scores ≡ entry.columns.documents) × AreLong view more

-- Whichever trees the view stands for: the document of each live object of a scope has what the object is given, in the
-- light of all live trees, and any other document has none.
pub record IsSeen (m : Mapping) (view : List EntryState) (n : ℕ) (given : List Tree → Object → Option ℕ) (scores : List (List (Option ℕ))) : Type 0 where
  pub long : AreLong view scores
  pub are : (trees : List (List (Marked Tree))) → ViewStandsFor m view trees → scores ≡ map (seen m (at_scope n (given (live_trees trees)))) trees

-- the score that a clause gives an object, among live trees
abbrev pub score_by : Mapping → Clause → List Tree → Object → Option ℕ
score_by m c live o = hit m live c o

-- the scores are those of a clause in a scope
abbrev pub IsFound : Mapping → List EntryState → ℕ → Clause → List (List (Option ℕ)) → Type 0
IsFound m view n c scores = IsSeen m view n (score_by m c) scores
