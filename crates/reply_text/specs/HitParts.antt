-- The texts of hits piece by piece, as they are written. `HitLines` in `proofs/` leads from them to objects.
use Rattle.std.specs.Prelude.{ℕ, List, [], ◌∷◌, ◌++◌, false, Option, Some, None, codes, decimal}
use Rattle.tree_json.specs.Text.{quoted}
use Rattle.query_ast.specs.Pages.{InnerHead, hits_of, pages_of}
use Rattle.query_ast.specs.declared.hit.Hit.{Hit}
use Rattle.query_ast.specs.declared.hit.InnerPage.{InnerPage}
use Rattle.query_ast.specs.declared.hit.Level.{Level}
use Rattle.reply_text.specs.Object.{Entry, entry, object_text, elements_text}
use Rattle.reply_text.specs.HitTexts.{hits_text, inner_hit_texts, page_entries, sort_text}

abbrev pub source_part : Option (List ℕ) → List ℕ
source_part None = []
source_part (Some text) = codes ",\"_source\":" ++ text

abbrev pub inner_part : List Entry → List ℕ
inner_part [] = []
inner_part (page ∷ pages) = codes ",\"inner_hits\":" ++ object_text (page ∷ pages)

-- a level's field and offset
abbrev pub level_text : Level → List ℕ
level_text level = quoted level.field ++ (codes ",\"offset\":" ++ (decimal level.offset ++ codes "}"))

-- a place from this level in
abbrev pub place_text : Level → List Level → List ℕ
place_text level [] = codes "{\"field\":" ++ level_text level
place_text level (next ∷ levels) = codes "{\"_nested\":" ++ (place_text next levels ++ (codes ",\"field\":" ++ level_text level))

abbrev pub place_part : List Level → List ℕ
place_part [] = []
place_part (level ∷ levels) = codes ",\"_nested\":" ++ place_text level levels

-- a page of inner hits under its name
abbrev pub page_entry : InnerPage → Entry
page_entry page = entry page.name (object_text (entry (codes "hits") (hits_text (inner_hit_texts (hits_of page.hits)) page.total) ∷ []))

unfoldable pub page_line : InnerPage → List ℕ
page_line page =
    quoted page.name ++ (codes ":{\"hits\":{\"hits\":[" ++ (elements_text false (inner_hit_texts (hits_of page.hits))
    ++ (codes "],\"total\":" ++ (decimal page.total ++ codes "}}"))))

-- the front of a hit: its id, its place if it has one, and its score
abbrev pub head_part : List ℕ → List Level → ℕ → List ℕ
head_part id levels score = codes "{\"_id\":" ++ (quoted id ++ (place_part levels ++ (codes ",\"_score\":" ++ decimal score)))

unfoldable pub inner_hit_line : InnerHead → List Entry → List ℕ
inner_hit_line head pages = head_part head.id head.levels head.score ++ (source_part head.source ++ (inner_part pages ++ codes "}"))

unfoldable pub hit_line : Hit → List ℕ
hit_line hit =
    head_part hit.id [] hit.score ++ (source_part hit.source ++ (inner_part (page_entries (pages_of hit.inner))
    ++ (codes ",\"sort\":" ++ (sort_text hit.keys hit.number ++ codes "}"))))
