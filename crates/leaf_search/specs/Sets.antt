-- Sets of documents: how they are made of what the flat documents and the roots show, and cut to live documents of a scope.
use Rattle.std.specs.Prelude.{◌≡◌, ℕ, ◌==◌, ◌<◌, Bool, false, ◌&&◌, ◌||◌, List, [], ◌∷◌, length, map, slice_index_or, if◌then◌else◌}
use Rattle.segment.specs.Flat.{FlatDocument, FlatRoot, flat_of, flats_of, roots_of}
use Rattle.segment.specs.Live.{LiveState}
use Rattle.segment_parts.specs.declared.columns.Columns.{Columns}

-- a set gains the documents that pass a test
pub record Gains (columns : Columns) (test : FlatDocument → Bool) (old new : List Bool) : Type 0 where
  pub long : length new ≡ length old
  pub marked : (doc : ℕ) → doc < length old → slice_index_or new doc false ≡ (slice_index_or old doc false || test (flat_of columns doc))

-- of the documents of a set, those that are live and of the scope
abbrev pub cut : ℕ → List Bool → List Bool → List FlatDocument → List Bool
cut n [] lives flats = []
cut n (mark ∷ marks) [] flats = []
cut n (mark ∷ marks) (live ∷ lives) [] = []
cut n (mark ∷ marks) (live ∷ lives) (d ∷ flats) = (live && (d.scope == n && mark)) ∷ cut n marks lives flats

-- for each document whether it is a root that passes; the roots come in the order of their documents
abbrev pub root_marks : (FlatRoot → Bool) → List FlatRoot → List FlatDocument → List Bool
root_marks test roots [] = []
root_marks test [] (d ∷ flats) = false ∷ root_marks test [] flats
root_marks test (root ∷ roots) (d ∷ flats) =
    if d.scope == 0 then test root ∷ root_marks test roots flats else false ∷ root_marks test (root ∷ roots) flats

-- the live documents of a scope that pass a test
pub record Made (columns : Columns) (live : LiveState) (n : ℕ) (test : FlatDocument → Bool) (set : List Bool) : Type 0 where
  pub long : length set ≡ columns.documents
  pub is : set ≡ cut n (map test (flats_of columns)) live.docs (flats_of columns)

-- the live roots that pass a test, where the scope is theirs
pub record MadeOfRoots (columns : Columns) (live : LiveState) (n : ℕ) (test : FlatRoot → Bool) (set : List Bool) : Type 0 where
  pub long : length set ≡ columns.documents
  pub is : set ≡ cut n (root_marks test (roots_of columns) (flats_of columns)) live.docs (flats_of columns)

-- a set of the documents that pass
pub record Marks (documents : ℕ) (keep : ℕ → Bool) (set : List Bool) : Type 0 where
  pub long : length set ≡ documents
  pub marked : (doc : ℕ) → doc < documents → slice_index_or set doc false ≡ keep doc

-- the live documents of a scope that pass, for any test of flat documents that says the same
abbrev pub MadeByLists : Columns → LiveState → ℕ → (ℕ → Bool) → List Bool → Type 0
MadeByLists columns live n keep set = (test : FlatDocument → Bool) → ((doc : ℕ) → test (flat_of columns doc) ≡ keep doc) → Made columns live n test set
