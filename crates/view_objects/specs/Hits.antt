-- Documents of a view with scores, and the objects that they stand for.
use Rattle.std.specs.Prelude.{◌≡◌, ℕ, ◌+◌, ◌<◌, Bool, false, List, [], ◌∷◌, ◌++◌, length, slice_get, map, filter, get_or, take, drop, Option, Some, None}
use Rattle.std.specs.List.{flat_map}
use Rattle.std.specs.Option.{option_map_or}
use Rattle.block_bits.specs.Blocks.{documents_of, has_scope}
use Rattle.block_bits.specs.Places.{next_place, previous_place}
use Rattle.flattener.specs.StandsFor.{Marked, by_document, live_mark}
use Rattle.mapping.specs.Mapping.{Mapping, outer}
use Rattle.tree_json.specs.Value.{null}
use Rattle.tree_objects.specs.Enclosing.{stands_at}
use Rattle.segment.specs.Live.{root_of}
use Rattle.tree_joins.specs.Seen.{scopes_of}
use Rattle.tree_objects.specs.Object.{Object, root, block_objects, children, scope, tree_of}
use Rattle.tree_objects.specs.Tree.{Tree}
pub use Rattle.view_objects.specs.declared.hit.Hit.{Hit}

-- ---- the trees that a view stands for

abbrev pub is_live : Marked Tree → Bool
is_live t = t.live

abbrev pub tree_in : Marked Tree → Tree
tree_in t = t.item

-- the live trees of an entry, and those of a view, in order
abbrev pub live_in : List (Marked Tree) → List Tree
live_in trees = map tree_in (filter is_live trees)

abbrev pub live_trees : List (List (Marked Tree)) → List Tree
live_trees entries = flat_map live_in entries

-- the objects of a scope in these trees, in the order of their documents
abbrev pub live_objects : Mapping → ℕ → List Tree → List Object
live_objects m n trees = flat_map (λ tree. filter (stands_at n) (block_objects m tree)) trees

-- ---- documents that have a score

abbrev pub hit_if : ℕ → ℕ → Option ℕ → List Hit
hit_if place doc None = []
hit_if place doc (Some score) = record { place = place; doc = doc; score = score } ∷ []

-- those of one entry, from a document on
abbrev pub hits_from : ℕ → ℕ → List (Option ℕ) → List Hit
hits_from place doc [] = []
hits_from place doc (score ∷ scores) = hit_if place doc score ++ hits_from place (doc + 1) scores

-- those of the entries from a place on
abbrev pub hits_of : ℕ → List (List (Option ℕ)) → List Hit
hits_of place [] = []
hits_of place (scores ∷ more) = hits_from place 0 scores ++ hits_of (place + 1) more

-- those of a view, in document order
abbrev pub hits_in : List (List (Option ℕ)) → List Hit
hits_in scores = hits_of 0 scores

-- ---- the object that a document stands for

abbrev pub any_object : Bool → Object → Object
any_object live o = o

-- the objects of an entry's documents, those of dead trees too
abbrev pub objects_in : Mapping → List (Marked Tree) → List Object
objects_in m trees = by_document m any_object trees

-- a document that isn't there stands for nothing
abbrev pub no_object : Object
no_object = root (record { id = []; number = 0; source = null; generation = 0 })

-- the object of a document of one entry
abbrev pub document_object : Mapping → List (Marked Tree) → ℕ → Object
document_object m trees doc = get_or (objects_in m trees) doc no_object

-- and of the entry at a place
abbrev pub object_at : Mapping → List (List (Marked Tree)) → ℕ → ℕ → Object
object_at m trees place doc = document_object m (get_or trees place []) doc

-- the object of a document with its score
abbrev pub hit_object : Mapping → List (List (Marked Tree)) → Hit → Object × ℕ
hit_object m trees hit = (object_at m trees hit.place hit.doc, hit.score)

-- ---- the documents inside another one

-- where the documents inside a document of a scope begin: behind the one of that scope before it
abbrev pub start_before : ℕ → ℕ → List ℕ → ℕ
start_before n doc scopes = option_map_or (λ previous. previous + 1) (previous_place (has_scope n) doc scopes) 0

-- the documents with scores from one on, up to another
abbrev pub hits_between : ℕ → ℕ → ℕ → List (Option ℕ) → List Hit
hits_between place start end scores = hits_from place start (drop start (take end scores))

-- how many documents of a scope there are from one on, up to another
abbrev pub count_between : ℕ → ℕ → ℕ → List ℕ → ℕ
count_between n start end scopes = length (filter (has_scope n) (drop start (take end scopes)))

-- The tree of a document is the one with as many roots before the document, the document is live where it is, and at the
-- scope of roots it stands for the root.
pub record IsInTree (m : Mapping) (trees : List (Marked Tree)) (doc : ℕ) : Type 0 where
  pub marked : Marked Tree
  pub at : slice_get trees (root_of (documents_of (scopes_of m trees) 0) doc) ≡ Some marked
  pub tree : tree_of (document_object m trees doc) ≡ marked.item
  pub live : get_or (by_document m live_mark trees) doc false ≡ marked.live
  pub at_root : scope (document_object m trees doc) ≡ 0 → document_object m trees doc ≡ root marked.item

-- ---- a document of a nested path among those of the scope around it

-- The next document of the scope around is that of the object that it is a child of, and its offset there is the number of
-- documents of its path that come before it inside that one.
pub record IsChildAt (m : Mapping) (trees : List (Marked Tree)) (doc n : ℕ) : Type 0 where
  pub parent : ℕ
  pub next : next_place (has_scope (outer m n)) (doc + 1) (scopes_of m trees) ≡ Some parent
  pub around : scope (document_object m trees parent) ≡ outer m n
  pub counted : count_between n (start_before (outer m n) parent (scopes_of m trees)) doc (scopes_of m trees) < length (children m (document_object m trees parent) n)
  pub child : get_or (children m (document_object m trees parent) n) (count_between n (start_before (outer m n) parent (scopes_of m trees)) doc (scopes_of m trees)) no_object ≡ document_object m trees doc
