-- The entries of all documents: what each part is, document by document, and what each entry is.
use Rattle.std.proofs.Common.{◌≡◌, ℕ, ℤ, suc, ◌+◌, List, [], ◌∷◌, ◌++◌, length, map, slice_get, Some, refl, sym, ap, ◌∙◌, arith, append_assoc}
use Rattle.std.specs.List.{AllByRecursion}
use Rattle.std.proofs.lemmas.List.{length-map}
use Rattle.segment.specs.Flat.{FlatDocument}
use Rattle.term_table.specs.Keys.{number_key}
use Rattle.segment_builder.specs.Entries.{EntriesState, flats_in, no_entries, with_blocks}
use Rattle.segment_builder.specs.Groups.{keys}
use Rattle.segment_builder.specs.Parts.{tagged, fields_with}
use Rattle.segment_builder.specs.Terms.{terms_at, once, keyword_terms, number_terms}
use Rattle.flattener.specs.Block.{BlockState}
use Rattle.segment_builder.proofs.Among.{each_both_sides}
use Rattle.segment_builder.proofs.Grown.{by_doc, blocks_add, scopes_of_blocks}

-- ---- what holds of what each document adds

module _ {E : Type 0} (tag : ℕ → FlatDocument → List E) (P : E → Type 0) where
  pub each_doc : (Q : FlatDocument → Type 0) → ((doc : ℕ) (flat : FlatDocument) → Q flat → AllByRecursion P (tag doc flat)) → (n : ℕ) (flats : List FlatDocument) → AllByRecursion Q flats → AllByRecursion P (by_doc tag n flats)
  each_doc Q goes n [] all = tt
  each_doc Q goes n (flat ∷ flats) all = each_both_sides P (tag n flat) (by_doc tag (n + 1) flats) (goes n flat all.0) (each_doc Q goes (n + 1) flats all.1)

  -- with the place of the document
  pub each_place : (Q : FlatDocument → Type 0) (n : ℕ) (flats : List FlatDocument) → AllByRecursion Q flats → ((d : ℕ) (flat : FlatDocument) → slice_get flats d ≡ Some flat → Q flat → AllByRecursion P (tag (n + d) flat)) → AllByRecursion P (by_doc tag n flats)
  each_place Q n [] all goes = tt
  each_place Q n (flat ∷ flats) all goes =
      let e : n + 0 ≡ n = omega arith in
      each_both_sides P (tag n flat) (by_doc tag (n + 1) flats) (rw e at (goes 0 flat refl all.0))
      (each_place Q (n + 1) flats all.1 (λ d other is q.
      let next : n + suc d ≡ n + 1 + d = omega arith in
      rw next at (goes (suc d) other is q)))

pub tagged_own : {K P : Type 0} (doc : ℕ) (entries : List (K × P)) → AllByRecursion (λ (entry : K × (ℕ × P)). entry.1.0 ≡ doc) (tagged doc entries)
tagged_own doc [] = tt
tagged_own doc (entry ∷ entries) = (refl, tagged_own doc entries)

pub tagged_keys : {K P : Type 0} (doc : ℕ) (entries : List (K × P)) → keys (tagged doc entries) ≡ keys entries
tagged_keys doc [] = refl
tagged_keys doc (entry ∷ entries) = ap (λ rest. entry.0 ∷ rest) (tagged_keys doc entries)

pub tagged_each : {K X : Type 0} (P : K → X → Type 0) (Q : K × (ℕ × X) → Type 0) (doc : ℕ) (entries : List (K × X)) → ((k : K) (x : X) → P k x → Q (k, (doc, x))) → AllByRecursion (λ (entry : K × X). P entry.0 entry.1) entries → AllByRecursion Q (tagged doc entries)
tagged_each P Q doc [] goes all = tt
tagged_each P Q doc (entry ∷ entries) goes all = (goes entry.0 entry.1 all.0, tagged_each P Q doc entries goes all.1)

-- ---- terms of keywords and of numbers, document by document

keyword_terms_append : (xs ys : List (ℕ × (ℕ × List (List ℕ)))) → keyword_terms (xs ++ ys) ≡ keyword_terms xs ++ keyword_terms ys
keyword_terms_append [] ys = refl
keyword_terms_append (x ∷ xs) ys = ap (λ rest. terms_at x.0 x.1.0 (once x.1.1) ++ rest) (keyword_terms_append xs ys) ∙ sym (append_assoc (terms_at x.0 x.1.0 (once x.1.1)) (keyword_terms xs) (keyword_terms ys))

number_terms_append : (xs ys : List (ℕ × (ℕ × List ℤ))) → number_terms (xs ++ ys) ≡ number_terms xs ++ number_terms ys
number_terms_append [] ys = refl
number_terms_append (x ∷ xs) ys = ap (λ rest. terms_at x.0 x.1.0 (once (map number_key x.1.1)) ++ rest) (number_terms_append xs ys) ∙ sym (append_assoc (terms_at x.0 x.1.0 (once (map number_key x.1.1))) (number_terms xs) (number_terms ys))

abbrev pub number_tags : ℕ → FlatDocument → List (ℕ × (ℕ × List ℤ))
number_tags doc flat = tagged doc flat.numbers

abbrev pub keyword_tags : ℕ → FlatDocument → List (ℕ × (ℕ × List (List ℕ)))
keyword_tags doc flat = tagged doc flat.keywords

abbrev pub word_tags : ℕ → FlatDocument → List ((ℕ × List ℕ) × (ℕ × List ℕ))
word_tags doc flat = tagged doc flat.words

abbrev pub text_tags : ℕ → FlatDocument → List (ℕ × ℕ)
text_tags doc flat = fields_with doc flat.texts

abbrev pub keyword_term_tags : ℕ → FlatDocument → List ((ℕ × List ℕ) × (ℕ × List ℕ))
keyword_term_tags doc flat = keyword_terms (keyword_tags doc flat)

abbrev pub number_term_tags : ℕ → FlatDocument → List ((ℕ × List ℕ) × (ℕ × List ℕ))
number_term_tags doc flat = number_terms (number_tags doc flat)

pub keyword_terms_by : (n : ℕ) (flats : List FlatDocument) → keyword_terms (by_doc keyword_tags n flats) ≡ by_doc keyword_term_tags n flats
keyword_terms_by n [] = refl
keyword_terms_by n (flat ∷ flats) = keyword_terms_append (keyword_tags n flat) (by_doc keyword_tags (n + 1) flats) ∙ ap (λ rest. keyword_term_tags n flat ++ rest) (keyword_terms_by (n + 1) flats)

pub number_terms_by : (n : ℕ) (flats : List FlatDocument) → number_terms (by_doc number_tags n flats) ≡ by_doc number_term_tags n flats
number_terms_by n [] = refl
number_terms_by n (flat ∷ flats) = number_terms_append (number_tags n flat) (by_doc number_tags (n + 1) flats) ∙ ap (λ rest. number_term_tags n flat ++ rest) (number_terms_by (n + 1) flats)

-- ---- the parts

module _ (it : EntriesState) (blocks : List BlockState) (is : it ≡ with_blocks no_entries blocks) where
  pub numbers_are : it.numbers ≡ by_doc number_tags 0 (flats_in blocks)
  numbers_are = ap (λ (e : EntriesState). e.numbers) is ∙ blocks_add number_tags (λ e. e.numbers) (λ e f. refl) blocks no_entries

  pub keywords_are : it.keywords ≡ by_doc keyword_tags 0 (flats_in blocks)
  keywords_are = ap (λ (e : EntriesState). e.keywords) is ∙ blocks_add keyword_tags (λ e. e.keywords) (λ e f. refl) blocks no_entries

  pub words_are : it.words ≡ by_doc word_tags 0 (flats_in blocks)
  words_are = ap (λ (e : EntriesState). e.words) is ∙ blocks_add word_tags (λ e. e.words) (λ e f. refl) blocks no_entries

  pub texts_are : it.texts ≡ by_doc text_tags 0 (flats_in blocks)
  texts_are = ap (λ (e : EntriesState). e.texts) is ∙ blocks_add text_tags (λ e. e.texts) (λ e f. refl) blocks no_entries

  pub scopes_are : it.scopes ≡ map (λ (flat : FlatDocument). flat.scope) (flats_in blocks)
  scopes_are = ap (λ (e : EntriesState). e.scopes) is ∙ scopes_of_blocks blocks no_entries

  pub count : length it.scopes ≡ length (flats_in blocks)
  count = ap length scopes_are ∙ length-map (flats_in blocks) (λ (flat : FlatDocument). flat.scope)

  pub keyword_terms_are : keyword_terms it.keywords ≡ by_doc keyword_term_tags 0 (flats_in blocks)
  keyword_terms_are = ap keyword_terms keywords_are ∙ keyword_terms_by 0 (flats_in blocks)

  pub number_terms_are : number_terms it.numbers ≡ by_doc number_term_tags 0 (flats_in blocks)
  number_terms_are = ap number_terms numbers_are ∙ number_terms_by 0 (flats_in blocks)
