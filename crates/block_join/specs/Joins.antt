-- Joins on the documents of blocks, in order. A document is its scope with what it tells: in a block the documents
-- inside a parent come before it, and after the parent before it.
use Rattle.std.specs.Prelude.{ℕ, ◌==◌, cond, List, [], ◌∷◌, ◌++◌, Option, None}

-- Up: each document of scope `to` answers to what was told since the document of that scope before it, itself left out,
-- `since` being told before the first. Any other document has `other`.
abbrev pub joined : {A B : Type 0} → (List A → B) → B → ℕ → List A → List (ℕ × List A) → List B
joined answer other to since [] = []
joined answer other to since (doc ∷ docs) =
    cond (doc.0 == to) (answer since) other ∷ joined answer other to (cond (doc.0 == to) [] (since ++ doc.1)) docs

-- what the first document of scope `from` tells
abbrev pub next_at : {A : Type 0} → ℕ → List (ℕ × Option A) → Option A
next_at from [] = None
next_at from (doc ∷ docs) = cond (doc.0 == from) doc.1 (next_at from docs)

-- Down: each document of scope `to` has what the next document of scope `from` tells. Any other document has none.
abbrev pub spread : {A : Type 0} → ℕ → ℕ → List (ℕ × Option A) → List (Option A)
spread from to [] = []
spread from to (doc ∷ docs) = cond (doc.0 == to) (next_at from docs) None ∷ spread from to docs
