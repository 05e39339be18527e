-- The terms of parts by reference, put together by term: the rows that they are written as, and the new ordinals of terms.
use denote.Ref.{Bor}
use Rattle.std.specs.Prelude.{◌≡◌, ℕ, ◌+◌, ◌<◌, ◌^◌, nat_lt, cond, List, [], ◌∷◌, ◌++◌, length, map, slice_get, slice_set, slice_index_or, replicate, Some, Vec}
use Rattle.std.specs.List.{All, flat_map}
use Rattle.segment_parts.specs.Lists.{terms_of, postings_of}
use Rattle.term_table.specs.declared.rows.TermRow.{TermRow}
use Rattle.segment_merge.specs.Merged.{kept}
use Rattle.segment_merge.specs.Numbering.{PartState}
use Rattle.segment_merge.specs.declared.terms.TermAt.{TermAt}

-- where a term stands: the part, its place among the parts, and the term's ordinal there
pub record TermPlace : Type 0 where
  pub part : PartState
  pub place : ℕ
  pub ordinal : ℕ

-- the terms of a part from an ordinal on
abbrev pub terms_from : PartState → ℕ → ℕ → List (ℕ × List ℕ) → List ((ℕ × List ℕ) × TermPlace)
terms_from part place ordinal [] = []
terms_from part place ordinal (term ∷ terms) = (term, record { part = part; place = place; ordinal = ordinal }) ∷ terms_from part place (ordinal + 1) terms

-- the terms of parts, where the first part stands at a place
abbrev pub all_terms : ℕ → List PartState → List ((ℕ × List ℕ) × TermPlace)
all_terms place [] = []
all_terms place (part ∷ parts) = terms_from part place 0 (terms_of part.entry.columns) ++ all_terms (place + 1) parts

-- the postings of live documents of a term
abbrev pub live_postings : TermPlace → List (ℕ × List ℕ)
live_postings term = kept term.part.base term.part.entry.live.docs (slice_index_or (postings_of term.part.entry.columns) term.ordinal [])

-- the row of a term that stands at places, and the rows of those that have live documents
abbrev pub live_row : (ℕ × List ℕ) × List TermPlace → TermRow
live_row group = record { term = group.0; postings = flat_map live_postings group.1 }

abbrev pub live_rows : List ((ℕ × List ℕ) × List TermPlace) → List TermRow
live_rows [] = []
live_rows (group ∷ groups) = cond (nat_lt 0 (length (flat_map live_postings group.1))) (live_row group ∷ live_rows groups) (live_rows groups)

-- ---- new ordinals: for each part, of each of its terms

abbrev pub new_ordinal : List (List ℕ) → ℕ → ℕ → ℕ
new_ordinal news place ordinal = slice_index_or (slice_index_or news place []) ordinal 0

abbrev pub with_ordinal : List (List ℕ) → ℕ → ℕ → ℕ → List (List ℕ)
with_ordinal news place ordinal new = slice_set news place (slice_set (slice_index_or news place []) ordinal new)

-- a term that stands at places gets a new ordinal there
abbrev pub noted : ℕ → List TermPlace → List (List ℕ) → List (List ℕ)
noted new [] news = news
noted new (term ∷ terms) news = noted new terms (with_ordinal news term.place term.ordinal new)

-- terms that have live documents get new ordinals one after the other
abbrev pub numbered : ℕ → List ((ℕ × List ℕ) × List TermPlace) → List (List ℕ) → List (List ℕ)
numbered new [] news = news
numbered new (group ∷ groups) news =
    cond (nat_lt 0 (length (flat_map live_postings group.1))) (numbered (new + 1) groups (noted new group.1 news)) (numbered new groups news)

abbrev pub blank_ordinals : List PartState → List (List ℕ)
blank_ordinals parts = map (λ (part : PartState). replicate (length (terms_of part.entry.columns)) 0) parts

-- where a part's term has live documents, its new ordinal is that of the same term
pub record AreNew (parts : List PartState) (terms : List (ℕ × List ℕ)) (news : List (List ℕ)) : Type 0 where
  pub long : length news ≡ length parts
  pub each_long : (place : ℕ) (part : PartState) → slice_get parts place ≡ Some part → length (slice_index_or news place []) ≡ length (terms_of part.entry.columns)
  pub same : (place : ℕ) (part : PartState) (ordinal : ℕ) (term : ℕ × List ℕ) → slice_get parts place ≡ Some part → slice_get (terms_of part.entry.columns) ordinal ≡ Some term
      → 0 < length (kept part.base part.entry.live.docs (slice_index_or (postings_of part.entry.columns) ordinal []))
      → slice_get terms (new_ordinal news place ordinal) ≡ Some term

-- ---- which terms can be written

-- a term of the part, for whose new ordinal there is room
pub record IsPlaced (rooms : List ℕ) (term : TermPlace) : Type 0 where
  pub there : term.ordinal < length (postings_of term.part.entry.columns)
  pub room : term.ordinal < slice_index_or rooms term.place 0

pub record CanPut (rooms : List ℕ) (group : (ℕ × List ℕ) × List TermPlace) : Type 0 where
  pub short : length group.0.1 < 2 ^ 32
  pub few : length (flat_map live_postings group.1) < 2 ^ 32
  pub placed : All (IsPlaced rooms) group.1

-- how many terms each part has
abbrev pub rooms_of : List (List ℕ) → List ℕ
rooms_of news = map (λ (own : List ℕ). length own) news

-- ---- terms as they are lent

abbrev pub place_lent : TermAt → TermPlace
place_lent term = record { part = term.part.now; place = term.place; ordinal = term.ordinal }

abbrev pub key_lent : ℕ × Bor (List ℕ) → ℕ × List ℕ
key_lent key = (key.0, key.1.now)

abbrev pub ref_lent : (ℕ × Bor (List ℕ)) × TermAt → (ℕ × List ℕ) × TermPlace
ref_lent ref = (key_lent ref.0, place_lent ref.1)

abbrev pub group_lent : {A : Type 0} → (ℕ × Bor (List ℕ)) × Vec TermAt A → (ℕ × List ℕ) × List TermPlace
group_lent {A} group = (key_lent group.0, map place_lent group.1.items)
