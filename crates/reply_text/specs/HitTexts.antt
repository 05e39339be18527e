-- The texts of hits and of pages of inner hits.
use Rattle.std.specs.Prelude.{ℕ, List, [], ◌∷◌, ◌++◌, Option, Some, None, codes, decimal, map}
use Rattle.std.specs.Fmt.{signed_decimal}
use Rattle.tree_json.specs.Text.{quoted}
use Rattle.query_ast.specs.Pages.{InnerHead, Pages, no_pages, with_page, Hits, no_hits, with_hit, pages_of}
use Rattle.query_ast.specs.declared.hit.Hit.{Hit}
use Rattle.query_ast.specs.declared.hit.Level.{Level}
use Rattle.query_ast.specs.declared.sort.Key.{Key}
use Rattle.query_ast.specs.declared.sort.Key.TheVariants.{Null, Number, Written}
use Rattle.reply_text.specs.Object.{Entry, entry, object_text, list_text}

-- ---- the parts of a hit

abbrev pub key_text : Key → List ℕ
key_text Null = codes "null"
key_text (Number z) = signed_decimal z
key_text (Written text) = quoted text

-- the keys, one for each clause of the sort, and then the sequence number
abbrev pub sort_text : List Key → ℕ → List ℕ
sort_text keys number = list_text (map key_text keys ++ decimal number ∷ [])

-- the source's compact text, where it was asked for
abbrev pub source_entries : Option (List ℕ) → List Entry
source_entries None = []
source_entries (Some text) = entry (codes "_source") text ∷ []

-- the pages of the definitions of inner hits, where there are any
abbrev pub inner_entries : List Entry → List Entry
inner_entries [] = []
inner_entries (page ∷ pages) = entry (codes "inner_hits") (object_text (page ∷ pages)) ∷ []

-- a place, from the outermost object in; there is none for a tree
abbrev pub place_entries : List Level → List Entry
place_entries [] = []
place_entries (level ∷ levels) =
    entry (codes "_nested") (object_text (
    entry (codes "field") (quoted level.field) ∷ entry (codes "offset") (decimal level.offset) ∷ place_entries levels))
    ∷ []

-- hits with the number of all
abbrev pub hits_text : List (List ℕ) → ℕ → List ℕ
hits_text hits total = object_text (entry (codes "hits") (list_text hits) ∷ entry (codes "total") (decimal total) ∷ [])

-- ---- inner hits

unfoldable pub inner_hit_text : InnerHead → List Entry → List ℕ
inner_hit_text head pages = object_text (
    entry (codes "_id") (quoted head.id)
    ∷ (place_entries head.levels
    ++ (entry (codes "_score") (decimal head.score)
    ∷ (source_entries head.source ++ inner_entries pages))))

abbrev mutual
  -- the pages of a hit, each under its name
  pub page_entries : Pages → List Entry
  page_entries no_pages = []
  page_entries (with_page name hits total pages) =
      entry name (object_text (entry (codes "hits") (hits_text (inner_hit_texts hits) total) ∷ [])) ∷ page_entries pages

  pub inner_hit_texts : Hits → List (List ℕ)
  inner_hit_texts no_hits = []
  inner_hit_texts (with_hit head pages hits) = inner_hit_text head (page_entries pages) ∷ inner_hit_texts hits

-- ---- the hits of a search

unfoldable pub hit_text : Hit → List ℕ
hit_text hit = object_text (
    entry (codes "_id") (quoted hit.id)
    ∷ entry (codes "_score") (decimal hit.score)
    ∷ (source_entries hit.source
    ++ (inner_entries (page_entries (pages_of hit.inner))
    ++ entry (codes "sort") (sort_text hit.keys hit.number) ∷ [])))
