-- The pieces of hits as they are written make the objects that they are.
use Rattle.std.proofs.Common.{◌≡◌, ℕ, ◌<◌, ◌≤◌, List, [], ◌∷◌, ◌++◌, ◌-◌, length, get_or, take, drop, map, zero, suc, codes, decimal, Option, Some, None, arith, refl, sym, ap, ◌∙◌, append_assoc}
use Rattle.std.specs.Prelude.{Contains}
use Rattle.std.proofs.lemmas.List.Elements.{at_from_Contains}
use Rattle.std.proofs.lemmas.Grind.{common_steps}
use Rattle.json.specs.Print.{escape_byte}
use Rattle.tree_json.specs.Text.{quoted}
use Rattle.query_ast.specs.Pages.{InnerHead, PagePart, pages_of, hits_of, pages_size, hits_size}
use Rattle.query_ast.specs.Pages.View.{page_part, hit_part}
use Rattle.query_ast.specs.declared.hit.Hit.{Hit}
use Rattle.query_ast.specs.declared.hit.InnerPage.{InnerPage}
use Rattle.query_ast.specs.declared.hit.InnerHit.{InnerHit}
use Rattle.query_ast.specs.declared.hit.Level.{Level}
use Rattle.reply_text.specs.Object.{Entry, entry, entry_text, object_text}
use Rattle.reply_text.specs.HitTexts.{hits_text, page_entries, inner_hit_text, inner_hit_texts, hit_text, sort_text, place_entries, source_entries, inner_entries}
use Rattle.reply_text.specs.HitParts.{source_part, inner_part, level_text, place_text, place_part, page_entry, page_line, head_part, inner_hit_line, hit_line}
use Rattle.reply_text.proofs.Flat.{object_text-flat, hits_text-behind}
use Rattle.reply_text.proofs.Next.{above_none}

-- ---- places

pub place_part-level : (levels : List Level) (level : Level) → 1 ≤ length levels → level ≡ get_or levels 0 level
    → place_part levels ≡ codes ",\"_nested\":" ++ place_text level (take (length levels - 1) (drop 1 levels))
place_part-level [] level h e = absurd (omega arith)
place_part-level (first ∷ levels) level h e =
    let all : take (length (first ∷ levels) - 1) levels ≡ levels = grind (arith, common_steps) in
    rw (all, e) refl

abbrev place_fields : Level → List Level → List Entry
place_fields level levels = entry (codes "field") (quoted level.field) ∷ entry (codes "offset") (decimal level.offset) ∷ place_entries levels

pub place_text-object : (level : Level) (levels : List Level) → object_text (place_fields level levels) ≡ place_text level levels
unfolding quoted escape_byte
place_text-object level [] = object_text-flat (place_fields level [])
place_text-object level (next ∷ levels) =
    object_text-flat (place_fields level (next ∷ levels))
    ∙ ap (λ (text : List ℕ). codes "{\"_nested\":" ++ (text ++ (codes ",\"field\":" ++ level_text level))) (place_text-object next levels)

-- ---- pages

pub listed_pages : (pages : List InnerPage) → map page_entry pages ≡ page_entries (pages_of (map page_part pages))
listed_pages [] = refl
listed_pages (page ∷ pages) = ap (λ (more : List Entry). page_entry page ∷ more) (listed_pages pages)

pub page_behind : (hits : List (List ℕ)) (total : ℕ) → object_text (entry (codes "hits") (hits_text hits total) ∷ []) ≡ codes "{\"hits\":" ++ (hits_text hits total ++ codes "}")
unfolding quoted escape_byte
page_behind hits total = object_text-flat (entry (codes "hits") (hits_text hits total) ∷ [])

pub page_line-entry : (page : InnerPage) → page_line page ≡ entry_text (page_entry page)
unfolding page_line
page_line-entry page =
    let hits = inner_hit_texts (hits_of page.hits) in
    sym (ap (λ (text : List ℕ). quoted page.name ++ (codes ":" ++ text))
    (page_behind hits page.total ∙ ap (λ (text : List ℕ). codes "{\"hits\":" ++ text) (hits_text-behind hits page.total (codes "}"))))

-- the pages of a list, none or some
pub inner_part-none : (pages : List InnerPage) (parts : List PagePart) → map page_part pages ≡ parts → length pages ≡ 0 → inner_part (page_entries (pages_of parts)) ≡ []
inner_part-none [] parts e h = rw (sym e) refl
inner_part-none (page ∷ pages) parts e h = absurd (omega arith)

pub inner_part-some : (pages : List InnerPage) (parts : List PagePart) → map page_part pages ≡ parts → 0 < length pages
    → inner_part (page_entries (pages_of parts)) ≡ codes ",\"inner_hits\":" ++ object_text (map page_entry pages)
inner_part-some [] parts e h = absurd (omega arith)
inner_part-some (page ∷ pages) parts e h =
    rw (sym e) (ap (λ (more : List Entry). codes ",\"inner_hits\":" ++ object_text (page_entry page ∷ more)) (sym (listed_pages pages)))

-- ---- hits

inner_hit_fields : InnerHead → List Level → Option (List ℕ) → List Entry → List Entry
inner_hit_fields head levels source pages =
    entry (codes "_id") (quoted head.id) ∷ (place_entries levels ++ (entry (codes "_score") (decimal head.score) ∷ (source_entries source ++ inner_entries pages)))

-- what stands behind a place
behind_place : InnerHead → Option (List ℕ) → List Entry → List ℕ
behind_place head source pages = codes ",\"_score\":" ++ (decimal head.score ++ (source_part source ++ (inner_part pages ++ codes "}")))

inner_hit_parts : (head : InnerHead) (levels : List Level) (source : Option (List ℕ)) (pages : List Entry)
    → object_text (inner_hit_fields head levels source pages)
    ≡ codes "{\"_id\":" ++ (quoted head.id ++ (place_part levels ++ (codes ",\"_score\":" ++ (decimal head.score ++ (source_part source ++ (inner_part pages ++ codes "}"))))))
unfolding inner_hit_fields behind_place quoted escape_byte
inner_hit_parts head [] None [] = object_text-flat (inner_hit_fields head [] None [])
inner_hit_parts head [] None (page ∷ pages) = object_text-flat (inner_hit_fields head [] None (page ∷ pages))
inner_hit_parts head [] (Some text) [] = object_text-flat (inner_hit_fields head [] (Some text) [])
inner_hit_parts head [] (Some text) (page ∷ pages) = object_text-flat (inner_hit_fields head [] (Some text) (page ∷ pages))
inner_hit_parts head (level ∷ levels) None [] = object_text-flat (inner_hit_fields head (level ∷ levels) None [])
    ∙ ap (λ (place : List ℕ). codes "{\"_id\":" ++ (quoted head.id ++ (codes ",\"_nested\":" ++ (place ++ behind_place head None [])))) (place_text-object level levels)
inner_hit_parts head (level ∷ levels) None (page ∷ pages) = object_text-flat (inner_hit_fields head (level ∷ levels) None (page ∷ pages))
    ∙ ap (λ (place : List ℕ). codes "{\"_id\":" ++ (quoted head.id ++ (codes ",\"_nested\":" ++ (place ++ behind_place head None (page ∷ pages))))) (place_text-object level levels)
inner_hit_parts head (level ∷ levels) (Some text) [] = object_text-flat (inner_hit_fields head (level ∷ levels) (Some text) [])
    ∙ ap (λ (place : List ℕ). codes "{\"_id\":" ++ (quoted head.id ++ (codes ",\"_nested\":" ++ (place ++ behind_place head (Some text) [])))) (place_text-object level levels)
inner_hit_parts head (level ∷ levels) (Some text) (page ∷ pages) = object_text-flat (inner_hit_fields head (level ∷ levels) (Some text) (page ∷ pages))
    ∙ ap (λ (place : List ℕ). codes "{\"_id\":" ++ (quoted head.id ++ (codes ",\"_nested\":" ++ (place ++ behind_place head (Some text) (page ∷ pages))))) (place_text-object level levels)

-- the front of a hit, and what stands behind it
front_regrouped : (start id place middle score end : List ℕ) → (start ++ (id ++ (place ++ (middle ++ score)))) ++ end ≡ start ++ (id ++ (place ++ (middle ++ (score ++ end))))
front_regrouped start id place middle score end = simp append_assoc

front : (id : List ℕ) (levels : List Level) (score : ℕ) (end : List ℕ)
    → head_part id levels score ++ end ≡ codes "{\"_id\":" ++ (quoted id ++ (place_part levels ++ (codes ",\"_score\":" ++ (decimal score ++ end))))
front id levels score end = front_regrouped (codes "{\"_id\":") (quoted id) (place_part levels) (codes ",\"_score\":") (decimal score) end

pub inner_hit_line-text : (head : InnerHead) (pages : List Entry) → inner_hit_line head pages ≡ inner_hit_text head pages
unfolding inner_hit_line inner_hit_text inner_hit_fields
inner_hit_line-text head pages =
    front head.id head.levels head.score (source_part head.source ++ (inner_part pages ++ codes "}"))
    ∙ sym (inner_hit_parts head head.levels head.source pages)

hit_fields : List ℕ → ℕ → Option (List ℕ) → List Entry → List ℕ → List Entry
hit_fields id score source pages sort =
    entry (codes "_id") (quoted id) ∷ entry (codes "_score") (decimal score) ∷ (source_entries source ++ (inner_entries pages ++ entry (codes "sort") sort ∷ []))

hit_parts : (id : List ℕ) (score : ℕ) (source : Option (List ℕ)) (pages : List Entry) (sort : List ℕ)
    → object_text (hit_fields id score source pages sort)
    ≡ codes "{\"_id\":" ++ (quoted id ++ (codes ",\"_score\":" ++ (decimal score ++ (source_part source ++ (inner_part pages ++ (codes ",\"sort\":" ++ (sort ++ codes "}")))))))
unfolding hit_fields quoted escape_byte
hit_parts id score None [] sort = object_text-flat (hit_fields id score None [] sort)
hit_parts id score None (page ∷ pages) sort = object_text-flat (hit_fields id score None (page ∷ pages) sort)
hit_parts id score (Some text) [] sort = object_text-flat (hit_fields id score (Some text) [] sort)
hit_parts id score (Some text) (page ∷ pages) sort = object_text-flat (hit_fields id score (Some text) (page ∷ pages) sort)

pub hit_line-text : (hit : Hit) → hit_line hit ≡ hit_text hit
unfolding hit_line hit_text hit_fields
hit_line-text hit =
    let pages = page_entries (pages_of hit.inner) in
    let sort = sort_text hit.keys hit.number in
    front hit.id [] hit.score (source_part hit.source ++ (inner_part pages ++ (codes ",\"sort\":" ++ (sort ++ codes "}"))))
    ∙ sym (hit_parts hit.id hit.score hit.source pages sort)

pub ruleset lines = (common_steps, page_line-entry, inner_hit_line-text, inner_part-none, inner_part-some)

pub ruleset hits = (common_steps, hit_line-text)

-- ---- sizes

page_size_at : (pages : List InnerPage) (k : ℕ) (page : InnerPage) → k < length pages → get_or pages k page ≡ page
    → hits_size (hits_of page.hits) < pages_size (pages_of (map page_part pages))
page_size_at [] k page h e = absurd (omega arith)
page_size_at (first ∷ pages) zero page h e =
    let same : hits_size (hits_of first.hits) ≡ hits_size (hits_of page.hits) = ap (λ (p : InnerPage). hits_size (hits_of p.hits)) e in
    omega arith
page_size_at (first ∷ pages) (suc k) page h e =
    let more : k < length pages = omega arith in
    omega (arith, page_size_at pages k page more e)

pub contained_page : (pages : List InnerPage) (page : InnerPage) → Contains pages page
    → hits_size (hits_of page.hits) < pages_size (pages_of (map page_part pages))
contained_page pages page h = let at = at_from_Contains pages page h in page_size_at pages at.0 page at.1 (at.2 page)

pub hit_size_at : (hits : List InnerHit) (k : ℕ) (d : InnerHit) → k < length hits → pages_size (pages_of (get_or hits k d).inner) < hits_size (hits_of (map hit_part hits))
hit_size_at [] k d h = absurd (omega arith)
hit_size_at (first ∷ hits) zero d h = omega arith
hit_size_at (first ∷ hits) (suc k) d h = let more : k < length hits = omega arith in omega (arith, hit_size_at hits k d more)

pub ruleset pages = (common_steps, above_none, contained_page, page_line-entry)

pub ruleset sizes = (common_steps, hit_size_at, inner_hit_line-text)
