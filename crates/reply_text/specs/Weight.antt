-- The fewest bytes that hits take in a reply: what always stands around a hit and around a page of inner hits, and the
-- source of a hit as it stands.
use Rattle.std.specs.Prelude.{◌≡◌, ℕ, ◌+◌, ⊤, false, List, [], ◌∷◌, length, Option, Some, None}
use Rattle.std.specs.List.{AllByRecursion, sum_by}
use Rattle.std.specs.Str.{bytes_eq}
use Rattle.query_ast.specs.Pages.{Pages, no_pages, with_page, Hits, no_hits, with_hit, pages_of}
use Rattle.query_ast.specs.declared.hit.Hit.{Hit}
use Rattle.query_ast.specs.declared.hit.HitPage.{HitPage}
use Rattle.reply_text.specs.declared.room.TheConstants.{HIT_BYTES, PAGE_BYTES}

-- a hit by itself, with this source
abbrev pub hit_weight : Option (List ℕ) → ℕ
hit_weight None = HIT_BYTES
hit_weight (Some text) = HIT_BYTES + length text

abbrev mutual
  pub pages_weight : Pages → ℕ
  pages_weight no_pages = 0
  pages_weight (with_page name hits total pages) = PAGE_BYTES + hits_weight hits + pages_weight pages

  pub hits_weight : Hits → ℕ
  hits_weight no_hits = 0
  hits_weight (with_hit head pages hits) = hit_weight head.source + pages_weight pages + hits_weight hits

-- a hit of a search with the pages inside it
abbrev pub whole_weight : Hit → ℕ
whole_weight hit = hit_weight hit.source + pages_weight (pages_of hit.inner)

abbrev pub page_weight : HitPage → ℕ
page_weight page = sum_by whole_weight page.hits

-- ---- no two pages of one hit have one name

abbrev pub page_names : Pages → List (List ℕ)
page_names no_pages = []
page_names (with_page name hits total pages) = name ∷ page_names pages

abbrev pub IsNew : List ℕ → List (List ℕ) → Type 0
IsNew name names = AllByRecursion (λ (other : List ℕ). bytes_eq name other ≡ false) names

abbrev mutual
  pub AreApart : Pages → Type 0
  AreApart no_pages = ⊤
  AreApart (with_page name hits total pages) = IsNew name (page_names pages) × AreApartInside hits × AreApart pages

  pub AreApartInside : Hits → Type 0
  AreApartInside no_hits = ⊤
  AreApartInside (with_hit head pages hits) = AreApart pages × AreApartInside hits

abbrev pub ArePagesApart : HitPage → Type 0
ArePagesApart page = AllByRecursion (λ (hit : Hit). AreApart (pages_of hit.inner)) page.hits
