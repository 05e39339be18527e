-- What the documents of blocks carry, document after document.
use Rattle.std.specs.Prelude.{ℕ, ◌+◌, List, [], ◌∷◌, ◌++◌, map}
use Rattle.segment.specs.Flat.{FlatDocument}

-- entries, each with the number of its document
abbrev pub tagged : {K P : Type 0} → ℕ → List (K × P) → List (K × (ℕ × P))
tagged {K} {P} doc entries = map (λ (entry : K × P). (entry.0, (doc, entry.1))) entries

-- the entries of documents, where the first has the number `doc`
abbrev pub entries_from : {K P : Type 0} → (FlatDocument → List (K × P)) → ℕ → List FlatDocument → List (K × (ℕ × P))
entries_from get doc [] = []
entries_from get doc (flat ∷ flats) = tagged doc (get flat) ++ entries_from get (doc + 1) flats

-- the text fields of a document as entries that carry nothing else
abbrev pub fields_with : ℕ → List ℕ → List (ℕ × ℕ)
fields_with doc fields = map (λ field. (field, doc)) fields

abbrev pub texts_from : ℕ → List FlatDocument → List (ℕ × ℕ)
texts_from doc [] = []
texts_from doc (flat ∷ flats) = fields_with doc flat.texts ++ texts_from (doc + 1) flats
