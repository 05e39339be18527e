-- Pages of inner hits as mathematics. An inner hit has pages in turn, so pages and hits are types of their own; what
-- contracts see of a list is a real list of parts.
pub mod Code
pub mod View
pub mod Falls
use Rattle.std.specs.Prelude.{ℕ, ◌+◌, List, [], ◌∷◌, Option}
use Rattle.query_ast.specs.declared.hit.Level.{Level}

-- an inner hit, but for its pages: its tree's id, its place, its score and the text of its content
pub record InnerHead : Type 0 where
  pub id : List ℕ
  pub levels : List Level
  pub score : ℕ
  pub source : Option (List ℕ)

mutual
  pub data Pages : Type 0 where
    no_pages : Pages
    -- name, hits, total, and the other pages
    with_page : List ℕ → Hits → ℕ → Pages → Pages

  pub data Hits : Type 0 where
    no_hits : Hits
    -- a hit with its pages, and the other hits
    with_hit : InnerHead → Pages → Hits → Hits

pub record PagePart : Type 0 where
  pub name : List ℕ
  pub hits : Hits
  pub total : ℕ

pub record HitPart : Type 0 where
  pub head : InnerHead
  pub inner : Pages

abbrev pub pages_of : List PagePart → Pages
pages_of [] = no_pages
pages_of (p ∷ ps) = with_page p.name p.hits p.total (pages_of ps)

abbrev pub hits_of : List HitPart → Hits
hits_of [] = no_hits
hits_of (h ∷ hs) = with_hit h.head h.inner (hits_of hs)

-- how many pages and hits there are: a measure for recursions
abbrev mutual
  pub pages_size : Pages → ℕ
  pages_size no_pages = 0
  pages_size (with_page name hits total rest) = 1 + (hits_size hits + pages_size rest)

  pub hits_size : Hits → ℕ
  hits_size no_hits = 0
  hits_size (with_hit head pages rest) = 1 + (pages_size pages + hits_size rest)
