-- Trees: the documents of the index, each a JSON object with the objects nested in it.
use Rattle.std.specs.Prelude.{ℕ, ◌<◌, ◌≢◌, Bool, List, [], ◌∷◌, Option, Some, None, if◌then◌else◌}
use Rattle.std.specs.List.{AllByRecursion}
use Rattle.std.specs.Str.{bytes_eq}
use Rattle.tree_json.specs.Value.{JsonValue}

-- a tree as it was indexed: its `_id`, its sequence number, its source, which is a JSON object, and the number of the
-- mapping under which it was indexed, from 1
pub record Tree : Type 0 where
  pub id : List ℕ
  pub number : ℕ
  pub source : JsonValue
  pub generation : ℕ

-- the first tree is older than each of the others, and has another id
abbrev pub ComesFirst : Tree → List Tree → Type 0
ComesFirst tree trees = AllByRecursion (λ (later : Tree). (tree.number < later.number) × (tree.id ≢ later.id)) trees

-- the trees of an index at one moment: sequence numbers strictly ascend, and no id comes twice
abbrev pub IsLiveList : List Tree → Type 0
IsLiveList [] = Unit {0}
IsLiveList (tree ∷ trees) = ComesFirst tree trees × IsLiveList trees

abbrev pub has_id : List ℕ → Tree → Bool
has_id id tree = bytes_eq tree.id id

-- the sequence number of the tree with this id
abbrev pub number_of : List ℕ → List Tree → Option ℕ
number_of id [] = None
number_of id (tree ∷ trees) = if has_id id tree then Some tree.number else number_of id trees

-- the trees but for the one with this id
abbrev pub without : List ℕ → List Tree → List Tree
without id [] = []
without id (tree ∷ trees) = if has_id id tree then without id trees else tree ∷ without id trees
