-- Words and phrases by what a flat document shows.
use Rattle.std.specs.Prelude.{◌≡◌, ℕ, ◌+◌, ◌-◌, ◌==◌, Bool, true, false, ◌&&◌, nat_le, List, [], ◌∷◌, length, map, slice_get, slice_index_or, Some, ⊤}
use Rattle.std.specs.List.{list_any, list_all, Contains}
use Rattle.analysis.specs.declared.token_list.Token.{Token}
use Rattle.doc_values.specs.Values.{values_of}
use Rattle.postings.specs.Marks.{has_document}
use Rattle.query_ast.specs.Leaf.{is_any}
use Rattle.segment.specs.Flat.{FlatDocument}
use Rattle.segment.specs.Shows.{has_word_at}
use Rattle.leaf_search.specs.Keys.{has_bytes}

abbrev pub folded_words : List Token → List (List ℕ)
folded_words tokens = map (λ (token : Token). token.folded) tokens

-- some word asked for is shown
abbrev pub shows_some : ℕ → List (List ℕ) → FlatDocument → Bool
shows_some field asked d = list_any (has_bytes field d) asked

-- each is
abbrev pub shows_all : ℕ → List (List ℕ) → FlatDocument → Bool
shows_all field asked d = list_all (has_bytes field d) asked

-- some word asked for is shown, or there is one and all are
abbrev pub shows_words : Bool → ℕ → List (List ℕ) → FlatDocument → Bool
shows_words true field asked d = is_any asked && shows_all field asked d
shows_words false field asked d = shows_some field asked d

-- the words stand at this position and those behind it, one after the other
abbrev pub run_stands : ℕ → FlatDocument → List (List ℕ) → ℕ → Bool
run_stands field d [] at = true
run_stands field d (word ∷ words) at = has_word_at field word (λ p. p == at) d && run_stands field d words (at + 1)

-- the words, of which there is one, stand one after the other somewhere
abbrev pub shows_phrase : ℕ → List (List ℕ) → FlatDocument → Bool
shows_phrase field [] d = false
shows_phrase field (word ∷ words) d = has_word_at field word (λ p. run_stands field d words (p + 1)) d

-- ---- the same by postings

-- words by the lists of their postings: they stand in a document at this position and those behind it
abbrev pub run_posted : List (List (ℕ × List ℕ)) → ℕ → ℕ → Bool
run_posted [] doc at = true
run_posted (list ∷ lists) doc at = list_any (λ p. p == at) (values_of doc list) && run_posted lists doc (at + 1)

-- and stand somewhere
abbrev pub phrase_posted : List (List (ℕ × List ℕ)) → ℕ → Bool
phrase_posted [] doc = false
phrase_posted (list ∷ lists) doc = list_any (λ p. run_posted lists doc (p + 1)) (values_of doc list)

-- the words before a position end there, and others begin behind it
abbrev pub stands_around : List (List (ℕ × List ℕ)) → List (List (ℕ × List ℕ)) → ℕ → ℕ → Bool
stands_around before behind doc at =
    nat_le (length before) at && (run_posted before doc (at - length before) && run_posted behind doc (at + 1))

-- the document has all of the words
abbrev pub all_posted : List (List (ℕ × List ℕ)) → ℕ → Bool
all_posted lists doc = list_all (has_document doc) lists

-- it has all of them, one after the other or anywhere
abbrev pub posted : Bool → List (List (ℕ × List ℕ)) → ℕ → Bool
posted true lists doc = phrase_posted lists doc
posted false lists doc = all_posted lists doc

-- a field doesn't have one of some words
abbrev pub Misses : List (ℕ × List ℕ) → ℕ → List (List ℕ) → Type 0
Misses terms field words = (word : List ℕ) × Contains words word × (Contains terms (field, word) → ⊥)

-- each word of a field with its ordinal
abbrev pub AreOrdinals : List (ℕ × List ℕ) → ℕ → List (List ℕ) → List ℕ → Type 0
AreOrdinals terms field [] [] = ⊤
AreOrdinals terms field [] (ordinal ∷ ordinals) = ⊥
AreOrdinals terms field (word ∷ words) [] = ⊥
AreOrdinals terms field (word ∷ words) (ordinal ∷ ordinals) =
    (slice_get terms ordinal ≡ Some (field, word)) × AreOrdinals terms field words ordinals

-- the postings of terms with these ordinals
abbrev pub lists_at : List (List (ℕ × List ℕ)) → List ℕ → List (List (ℕ × List ℕ))
lists_at lists ordinals = map (λ ordinal. slice_index_or lists ordinal []) ordinals
