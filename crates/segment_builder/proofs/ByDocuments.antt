-- What is taken apart of blocks, as each document carries it, and the terms at a key by the kind of its field.
use Rattle.std.proofs.Common.{◌≡◌, ℕ, ℤ, ◌+◌, List, [], ◌∷◌, ◌++◌, map, refl, sym, ap, ◌∙◌}
use Rattle.std.specs.List.{AllByRecursion, flat_map}
use Rattle.flattener.specs.Block.{BlockState}
use Rattle.flattener.specs.Flat.{is_keyword, is_text}
use Rattle.mapping.specs.Mapping.{Mapping, kind_at}
use Rattle.segment.specs.Flat.{FlatDocument}
use Rattle.term_table.specs.Keys.{number_key}
use Rattle.term_table.specs.Terms.{term_cmp}
use Rattle.segment_builder.specs.ByKey.{bare_terms, keywords_bare, numbers_bare, terms_of_kind}
use Rattle.segment_builder.specs.Entries.{EntriesState, flats_in, no_entries, with_blocks}
use Rattle.segment_builder.specs.Groups.{of_key}
use Rattle.segment_builder.specs.Made.{all_terms}
use Rattle.segment_builder.specs.Parts.{entries_from, fields_with, tagged, texts_from}
use Rattle.segment_builder.specs.Terms.{keyword_terms, number_terms, once, terms_at}
use Rattle.segment_builder.proofs.Agreeing.{apart_of, kinds_of}
use Rattle.segment_builder.proofs.Grown.{by_doc}
use Rattle.segment_builder.proofs.Keys.{split}
use Rattle.segment_builder.proofs.Parted.{keyword_term_tags, keyword_terms_are, keywords_are, number_term_tags, number_terms_are, numbers_are, text_tags, texts_are, words_are}
use Rattle.segment_builder.proofs.Taking.{keywords_kind, none_of_kind, of_keyword, of_parts, of_word, words_kind}
use Rattle.segment_builder.proofs.Written.{IsWritten}

entries_are : {K P : Type 0} (get : FlatDocument → List (K × P)) (n : ℕ) (flats : List FlatDocument) → by_doc (λ doc flat. tagged doc (get flat)) n flats ≡ entries_from get n flats
entries_are get n [] = refl
entries_are get n (flat ∷ flats) = ap (λ rest. tagged n (get flat) ++ rest) (entries_are get (n + 1) flats)

fields_are : (n : ℕ) (flats : List FlatDocument) → by_doc text_tags n flats ≡ texts_from n flats
fields_are n [] = refl
fields_are n (flat ∷ flats) = ap (λ rest. fields_with n flat.texts ++ rest) (fields_are (n + 1) flats)

by_same : {E : Type 0} (one other : ℕ → FlatDocument → List E) → ((doc : ℕ) (flat : FlatDocument) → one doc flat ≡ other doc flat) → (n : ℕ) (flats : List FlatDocument) → by_doc one n flats ≡ by_doc other n flats
by_same one other same n [] = refl
by_same one other same n (flat ∷ flats) = rw (same n flat, by_same one other same (n + 1) flats) refl

entries_same : {K P : Type 0} (one other : FlatDocument → List (K × P)) → ((flat : FlatDocument) → one flat ≡ other flat) → (n : ℕ) (flats : List FlatDocument) → entries_from one n flats ≡ entries_from other n flats
entries_same one other same n [] = refl
entries_same one other same n (flat ∷ flats) = rw (same flat, entries_same one other same (n + 1) flats) refl

-- ---- terms without positions

tagged_append : {K P : Type 0} (doc : ℕ) (xs ys : List (K × P)) → tagged doc (xs ++ ys) ≡ tagged doc xs ++ tagged doc ys
tagged_append doc [] ys = refl
tagged_append doc (x ∷ xs) ys = ap (λ rest. (x.0, (doc, x.1)) ∷ rest) (tagged_append doc xs ys)

tagged_bare : (doc field : ℕ) (values : List (List ℕ)) → terms_at field doc values ≡ tagged doc (bare_terms field values)
tagged_bare doc field [] = refl
tagged_bare doc field (value ∷ values) = ap (λ rest. ((field, value), (doc, [])) ∷ rest) (tagged_bare doc field values)

keywords_tagged : (doc : ℕ) (keywords : List (ℕ × List (List ℕ))) → keyword_terms (tagged doc keywords) ≡ tagged doc (flat_map (λ (entry : ℕ × List (List ℕ)). bare_terms entry.0 (once entry.1)) keywords)
keywords_tagged doc [] = refl
keywords_tagged doc (own ∷ keywords) =
    rw (tagged_bare doc own.0 (once own.1), keywords_tagged doc keywords) (sym (tagged_append doc (bare_terms own.0 (once own.1)) (flat_map (λ (entry : ℕ × List (List ℕ)). bare_terms entry.0 (once entry.1)) keywords)))

numbers_tagged : (doc : ℕ) (numbers : List (ℕ × List ℤ)) → number_terms (tagged doc numbers) ≡ tagged doc (flat_map (λ (entry : ℕ × List ℤ). bare_terms entry.0 (once (map number_key entry.1))) numbers)
numbers_tagged doc [] = refl
numbers_tagged doc (own ∷ numbers) =
    rw (tagged_bare doc own.0 (once (map number_key own.1)), numbers_tagged doc numbers)
    (sym (tagged_append doc (bare_terms own.0 (once (map number_key own.1))) (flat_map (λ (entry : ℕ × List ℤ). bare_terms entry.0 (once (map number_key entry.1))) numbers)))

-- ---- the parts

module _ (blocks : List BlockState) where
  abbrev it : EntriesState
  it = with_blocks no_entries blocks

  abbrev flats : List FlatDocument
  flats = flats_in blocks

  pub numbers_by : it.numbers ≡ entries_from (λ flat. flat.numbers) 0 flats
  numbers_by = numbers_are it blocks refl ∙ entries_are (λ flat. flat.numbers) 0 flats

  pub keywords_by : it.keywords ≡ entries_from (λ flat. flat.keywords) 0 flats
  keywords_by = keywords_are it blocks refl ∙ entries_are (λ flat. flat.keywords) 0 flats

  pub texts_by : it.texts ≡ texts_from 0 flats
  texts_by = texts_are it blocks refl ∙ fields_are 0 flats

  words_by : it.words ≡ entries_from (λ flat. flat.words) 0 flats
  words_by = words_are it blocks refl ∙ entries_are (λ flat. flat.words) 0 flats

  keyword_terms_by : keyword_terms it.keywords ≡ entries_from keywords_bare 0 flats
  keyword_terms_by = keyword_terms_are it blocks refl ∙ by_same keyword_term_tags (λ doc flat. tagged doc (keywords_bare flat)) (λ doc flat. keywords_tagged doc flat.keywords) 0 flats ∙ entries_are keywords_bare 0 flats

  number_terms_by : number_terms it.numbers ≡ entries_from numbers_bare 0 flats
  number_terms_by = number_terms_are it blocks refl ∙ by_same number_term_tags (λ doc flat. tagged doc (numbers_bare flat)) (λ doc flat. numbers_tagged doc flat.numbers) 0 flats ∙ entries_are numbers_bare 0 flats

  module _ (m : Mapping) (all : AllByRecursion (IsWritten (kinds_of m)) (flats_in blocks)) (term : ℕ × List ℕ) where
    pub terms_by : of_key term_cmp term (all_terms it) ≡ of_key term_cmp term (entries_from (terms_of_kind (kind_at m term.0)) 0 flats)
    terms_by =
        let own : FlatDocument → List ((ℕ × List ℕ) × List ℕ) = terms_of_kind (kind_at m term.0) in
        split (is_text (kind_at m term.0))
        (λ word.
        of_word (kinds_of m) it blocks refl all (apart_of m) term word
        ∙ ap (of_key term_cmp term) (words_by ∙ sym (entries_same own (λ flat. flat.words) (λ flat. rw word refl) 0 flats)))
        (λ no_word.
        split (is_keyword (kind_at m term.0))
        (λ key.
        of_keyword (kinds_of m) it blocks refl all (apart_of m) term key
        ∙ ap (of_key term_cmp term) (keyword_terms_by ∙ sym (entries_same own keywords_bare (λ flat. rw (no_word, key) refl) 0 flats)))
        (λ no_key.
        let words : of_key term_cmp term it.words ≡ [] = none_of_kind (λ f. is_text (kind_at m f)) term it.words (words_kind (kinds_of m) it blocks refl all) no_word in
        let keywords : of_key term_cmp term (keyword_terms it.keywords) ≡ [] = none_of_kind (λ f. is_keyword (kind_at m f)) term (keyword_terms it.keywords) (keywords_kind (kinds_of m) it blocks refl all) no_key in
        of_parts (kinds_of m) it blocks refl all term
        ∙ rw (words, keywords) (ap (of_key term_cmp term) (number_terms_by ∙ sym (entries_same own numbers_bare (λ flat. rw (no_word, no_key) refl) 0 flats)))))
