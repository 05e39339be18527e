-- The documents of an entry as a list: whether each is live, and its object.
use Rattle.std.specs.Prelude.{◌≡◌, ℕ, zero, suc, ◌<◌, ◌==◌, Bool, true, false, cond, List, [], ◌∷◌, ◌++◌, length, map, get_or, Option, Some, None, refl}
use Rattle.std.proofs.Common.{arith, ap, sym, ◌∙◌}
use Rattle.std.proofs.Math.ListN.{get_or-map}
use Rattle.std.proofs.lemmas.Bool.{false≢true}
use Rattle.std.proofs.lemmas.List.{length-map, map-append}
use Rattle.std.proofs.lemmas.List.FromFn.{get_or-map-range_with_len, length-map-range_with_len}
use Rattle.flattener.specs.Flat.{flat_of as flat_of_object}
use Rattle.flattener.specs.StandsFor.{EntryStandsFor, Marked, by_document, flat_at}
use Rattle.mapping.specs.Mapping.{Mapping}
use Rattle.segment.specs.Flat.{FlatDocument, flat_of}
use Rattle.segment.specs.Live.{LiveState}
use Rattle.segment_parts.specs.declared.columns.Columns.{Columns}
use Rattle.tree_joins.specs.Seen.{at_scope, if_live, scope_mark, scopes_of, seen}
use Rattle.tree_objects.specs.Object.{Object, block_objects, scope}
use Rattle.tree_objects.specs.Tree.{Tree}
use Rattle.view_objects.specs.Hits.{any_object, document_object, no_object}

pub map_map : {A B C : Type 0} (g : B → C) (f : A → B) (xs : List A) → map g (map f xs) ≡ map (λ x. g (f x)) xs
map_map g f [] = refl
map_map g f (x ∷ xs) = ap (λ zs. g (f x) ∷ zs) (map_map g f xs)

abbrev pub Document : Type 0
Document = Bool × Object

abbrev pub document : Bool → Object → Document
document live o = (live, o)

abbrev pub no_document : Document
no_document = (false, no_object)

module _ (m : Mapping) where
  pub documents : List (Marked Tree) → List Document
  documents trees = by_document m document trees

  pub documents_are : {A : Type 0} (f : Bool → Object → A) (trees : List (Marked Tree)) → by_document m f trees ≡ map (λ (d : Document). f d.0 d.1) (documents trees)
  unfolding documents
  documents_are f [] = refl
  documents_are f (t ∷ trees) =
      ap (λ zs. map (f t.live) (block_objects m t.item) ++ zs) (documents_are f trees)
      ∙ ap (λ zs. zs ++ map (λ (d : Document). f d.0 d.1) (documents trees)) (sym (map_map (λ (d : Document). f d.0 d.1) (document t.live) (block_objects m t.item)))
      ∙ sym (map-append (λ (d : Document). f d.0 d.1) (map (document t.live) (block_objects m t.item)) (documents trees))

  -- ---- the same trees all live

  abbrev pub made_live : Marked Tree → Marked Tree
  made_live t = record { item = t.item; live = true }

  abbrev pub document_live : Document → Document
  document_live d = (true, d.1)

  pub live_documents : (trees : List (Marked Tree)) → documents (map made_live trees) ≡ map document_live (documents trees)
  unfolding documents
  live_documents [] = refl
  live_documents (t ∷ trees) =
      ap (λ zs. map (document true) (block_objects m t.item) ++ zs) (live_documents trees)
      ∙ ap (λ zs. zs ++ map document_live (documents trees)) (sym (map_map document_live (document t.live) (block_objects m t.item)))
      ∙ sym (map-append document_live (map (document t.live) (block_objects m t.item)) (documents trees))

  -- ---- one document

  pub object_is : (trees : List (Marked Tree)) (doc : ℕ) → document_object m trees doc ≡ (get_or (documents trees) doc no_document).1
  object_is trees doc = ap (λ os. get_or os doc no_object) (documents_are any_object trees) ∙ get_or-map (λ (d : Document). d.1) (documents trees) doc no_document

  seen_is : {A : Type 0} (f : Object → Option A) (trees : List (Marked Tree)) (doc : ℕ) → get_or (seen m f trees) doc None ≡ if_live f (get_or (documents trees) doc no_document).0 (get_or (documents trees) doc no_document).1
  seen_is f trees doc = ap (λ l. get_or l doc None) (documents_are (if_live f) trees) ∙ get_or-map (λ (d : Document). if_live f d.0 d.1) (documents trees) doc no_document

  -- the document of a live object of a scope
  pub record Stands (trees : List (Marked Tree)) (n doc : ℕ) : Type 0 where
    pub live : (get_or (documents trees) doc no_document).0 ≡ true
    pub at : (scope (get_or (documents trees) doc no_document).1 == n) ≡ true

  live_there : {A : Type 0} (here there : Bool) (score : Option A) (s : A) → cond here (cond there score None) None ≡ Some s → (here ≡ true) × (there ≡ true)
  live_there true true score s found = (refl, refl)
  live_there true false score s found = absurd (let no : ⊥ = cc in no)
  live_there false there score s found = absurd (let no : ⊥ = cc in no)

  pub stands_if : {A : Type 0} (trees : List (Marked Tree)) (n doc : ℕ) (given : Object → Option A) (s : A) → get_or (seen m (at_scope n given) trees) doc None ≡ Some s → Stands trees n doc
  stands_if trees n doc given s hit =
      let d = get_or (documents trees) doc no_document in
      let both = live_there d.0 (scope d.1 == n) (given d.1) s (sym (seen_is (at_scope n given) trees doc) ∙ hit) in
      record { live = both.0; at = both.1 }

  abbrev pub there : Object → Option ℕ
  there o = Some 0

  pub seen_if : (trees : List (Marked Tree)) (n doc : ℕ) → Stands trees n doc → get_or (seen m (at_scope n there) trees) doc None ≡ Some 0
  seen_if trees n doc s =
      let d = get_or (documents trees) doc no_document in
      seen_is (at_scope n there) trees doc ∙ by d.0 d.1 s.live s.at
    where
      by : (live : Bool) (o : Object) → live ≡ true → (scope o == n) ≡ true → if_live (at_scope n there) live o ≡ Some 0
      by live o held same = rw held (rw same refl)

  -- it is one of the documents
  pub stands_low : (trees : List (Marked Tree)) (n doc : ℕ) → Stands trees n doc → doc < length (documents trees)
  stands_low trees n doc s = by (documents trees) doc s.live
    where
      by : (ds : List Document) (k : ℕ) → (get_or ds k no_document).0 ≡ true → k < length ds
      by [] k is = absurd (false≢true is)
      by (d ∷ ds) zero is = omega arith
      by (d ∷ ds) (suc k) is = let more = by ds k is in omega arith

  -- ---- flat documents

  pub flats_are : (c : Columns) (bits : LiveState) (trees : List (Marked Tree)) → EntryStandsFor m c bits trees → (length (documents trees) ≡ c.documents)
  flats_are c bits trees stands =
      sym (length-map (documents trees) (λ (d : Document). flat_at m d.0 d.1))
      ∙ sym (ap length (documents_are (flat_at m) trees))
      ∙ sym (ap length stands.flats)
      ∙ length-map-range_with_len (flat_of c) 0 c.documents

  pub flat_is : (c : Columns) (bits : LiveState) (trees : List (Marked Tree)) (doc : ℕ) → EntryStandsFor m c bits trees → doc < c.documents → flat_of c doc ≡ flat_of_object m (document_object m trees doc)
  flat_is c bits trees doc stands low =
      sym (get_or-map-range_with_len (flat_of c) 0 c.documents doc doc (flat_of c doc) low (omega arith))
      ∙ ap (λ flats. get_or flats doc (flat_of c doc)) (stands.flats ∙ documents_are (flat_at m) trees)
      ∙ any_default (map (λ (d : Document). flat_of_object m d.1) (documents trees)) doc (flat_of c doc) (flat_of_object m no_object)
      (omega (arith, low, flats_are c bits trees stands, length-map (documents trees) (λ (d : Document). flat_of_object m d.1)))
      ∙ get_or-map (λ (d : Document). flat_of_object m d.1) (documents trees) doc no_document
      ∙ ap (flat_of_object m) (sym (object_is trees doc))
    where
      any_default : (xs : List FlatDocument) (k : ℕ) (d e : FlatDocument) → k < length xs → get_or xs k d ≡ get_or xs k e
      any_default [] k d e below = absurd (omega (arith, below))
      any_default (x ∷ xs) zero d e below = refl
      any_default (x ∷ xs) (suc k) d e below = any_default xs k d e (omega (arith, below))

  pub scopes_are : (trees : List (Marked Tree)) → scopes_of m trees ≡ map (λ (d : Document). scope d.1) (documents trees)
  scopes_are trees = documents_are scope_mark trees
