-- The made input: a mapping, then so many changes with a search after each hundredth and a forced merge after each thousandth,
-- and last a commit. Lines are compact JSON.
use Rattle.std.specs.Prelude.{ℕ, ◌+◌, suc, zero, ◌%◌, nat_lt, ◌&&◌, List, [], ◌∷◌, ◌++◌, ◌==◌, if◌then◌else◌, codes, decimal, flat_map}
use Rattle.made_load.specs.Draws.{next_state, drawn}
use Rattle.made_load.specs.Sources.{source}

unfoldable pub mapping_line : List ℕ
mapping_line =
    codes "{\"mapping\":{\"properties\":{\"name\":{\"type\":\"text\"},\"offers\":{\"type\":\"nested\",\"properties\":{\"color\":{\"type\":\"keyword\"},\"price\":{\"type\":\"long\"},\"stock\":{\"type\":\"nested\",\"properties\":{\"n\":{\"type\":\"long\"},\"site\":{\"type\":\"keyword\"}}}}},\"rel\":{\"type\":\"join\",\"relations\":{\"question\":\"answer\"}}}}}"

-- red offers below 50
unfoldable pub search_line : List ℕ
search_line =
    codes "{\"search\":{\"_source\":false,\"query\":{\"nested\":{\"path\":\"offers\",\"query\":{\"bool\":{\"must\":[{\"term\":{\"offers.color\":\"red\"}},{\"range\":{\"offers.price\":{\"lt\":50}}}]}}}}}}"

unfoldable pub merge_line : List ℕ
merge_line = codes "{\"forcemerge\":{}}"

unfoldable pub commit_line : List ℕ
commit_line = codes "{\"commit\":{}}"

unfoldable pub delete_line : ℕ → List ℕ
delete_line document = codes "{\"delete\":{\"_id\":\"" ++ (decimal document ++ codes "\"}}")

unfoldable pub index_line : ℕ → List ℕ
index_line document = codes "{\"index\":{\"_id\":\"" ++ (decimal document ++ codes "\"}}")

-- the lines of one change, and the state behind its draws
pub record Change : Type 0 where
  pub lines : List (List ℕ)
  pub after : ℕ

-- the deletion of one of the documents before this one
abbrev pub deletion : ℕ → ℕ → Change
deletion document state = record { lines = delete_line (drawn document state) ∷ []; after = next_state state }

-- this document with its source
abbrev pub insertion : ℕ → ℕ → Change
insertion document state =
    record { lines = index_line document ∷ (source document state).text ∷ []; after = (source document state).after }

-- one in ten changes is a deletion, and never the first
unfoldable pub change : ℕ → ℕ → Change
change document state =
    if drawn 10 state == 0 && nat_lt 0 document then deletion document (next_state state) else insertion document (next_state state)

-- what comes behind a change: after each hundredth a search, after each thousandth then a forced merge too
unfoldable pub search_behind : ℕ → List (List ℕ)
search_behind document = if document % 100 == 99 then search_line ∷ [] else []

unfoldable pub merge_behind : ℕ → List (List ℕ)
merge_behind document = if document % 1000 == 999 then merge_line ∷ [] else []

unfoldable pub pauses : ℕ → List (List ℕ)
pauses document = search_behind document ++ merge_behind document

-- the lines of so many changes, from this document on
abbrev pub changes : ℕ → ℕ → ℕ → List (List ℕ)
changes document zero state = []
changes document (suc count) state =
    ((change document state).lines ++ pauses document) ++ changes (document + 1) count (change document state).after

-- the lines of the made input, each without its newline
abbrev pub made_lines : ℕ → ℕ → List (List ℕ)
made_lines number count = mapping_line ∷ (changes 0 count number ++ commit_line ∷ [])

-- lines as they are written: each with its newline
abbrev pub lines_text : List (List ℕ) → List ℕ
lines_text lines = flat_map (λ line. line ++ codes "\n") lines

-- the made input
abbrev pub made_text : ℕ → ℕ → List ℕ
made_text number count = lines_text (made_lines number count)
