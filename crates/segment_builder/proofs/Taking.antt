-- The entries of documents that can be written can be made columns of.
use Rattle.std.proofs.Common.{◌≡◌, ℕ, ℤ, ◌+◌, ◌<◌, ◌≤◌, ◌^◌, Bool, true, false, List, [], ◌∷◌, ◌++◌, length, map, slice_get, Some, Contains, refl, sym, ap, subst, ◌∙◌, arith, append-nil, FitsSigned, w64}
use Rattle.std.specs.Cmp.Lexicographic.{slice_cmp}
use Rattle.std.specs.List.{AllByRecursion}
use Rattle.std.specs.List.Sorted.{IsStrictlySortedBy}
use Rattle.std.specs.Ordering.{int_cmp, nat_cmp, eq_by_cmp}
use Rattle.std.proofs.lemmas.Cmp.{int_cmp_total, nat_list_cmp_total}
use Rattle.std.proofs.lemmas.List.Elements.{All-from_recursion, recursion_from_All}
use Rattle.std.proofs.lemmas.Option.{slice_get_within}
use Rattle.segment.specs.Flat.{FlatDocument}
use Rattle.term_table.specs.Keys.{number_key}
use Rattle.term_table.specs.Postings.{AreAscending}
use Rattle.term_table.specs.Terms.{term_cmp}
use Rattle.flattener.specs.Block.{BlockState}
use Rattle.segment_builder.specs.Entries.{EntriesState, flats_in, no_entries, with_blocks}
use Rattle.segment_builder.specs.Groups.{of_key, keys}
use Rattle.segment_builder.specs.Made.{all_terms}
use Rattle.segment_builder.specs.Parts.{fields_with}
use Rattle.segment_builder.specs.Rising.{AreRisingFrom}
use Rattle.segment_builder.specs.Taken.{IsTermEntry, AreTermEntries, IsValueEntry, AreValueEntries, AreTextEntries}
use Rattle.segment_builder.specs.Terms.{terms_at, once, keyword_terms, number_terms}
use Rattle.segment_builder.proofs.Among.{each_both_sides}
use Rattle.segment_builder.proofs.Grown.{by_doc, of_append}
use Rattle.segment_builder.proofs.InOrder.{each_then, each_both}
use Rattle.segment_builder.proofs.Keys.{split}
use Rattle.segment_builder.proofs.Onced.{KeysAreOrdered, keys_up, keyword_terms_up, number_terms_up, once_in, up_list, UpList}
use Rattle.segment_builder.proofs.Orders.{nat_order, term_order}
use Rattle.segment_builder.proofs.Parted.{each_doc, each_place, tagged_own, tagged_keys, tagged_each, number_tags, keyword_tags, word_tags, text_tags, keyword_term_tags, number_term_tags, numbers_are, keywords_are, words_are, texts_are, keyword_terms_are, number_terms_are}
use Rattle.segment_builder.proofs.Rising.{docs_rise, key_is}
use Rattle.segment_builder.proofs.Written.{bytes_order, Kinds, AreApart, AreNumbers, AreKeywords, IsWordOf, IsTextOf, IsWritten}

-- ---- what holds of each term

abbrev pub TermEntry : Type 0
TermEntry = (ℕ × List ℕ) × (ℕ × List ℕ)

pub terms_each : (Q : TermEntry → Type 0) (field doc : ℕ) (words : List (List ℕ)) → AllByRecursion (λ (bytes : List ℕ). Q ((field, bytes), (doc, []))) words → AllByRecursion Q (terms_at field doc words)
terms_each Q field doc [] all = tt
terms_each Q field doc (word ∷ words) all = (all.0, terms_each Q field doc words all.1)

pub keyword_terms_each : (Q : TermEntry → Type 0) (entries : List (ℕ × (ℕ × List (List ℕ)))) → AllByRecursion (λ (entry : ℕ × (ℕ × List (List ℕ))). AllByRecursion (λ (bytes : List ℕ). Q ((entry.0, bytes), (entry.1.0, []))) entry.1.1) entries → AllByRecursion Q (keyword_terms entries)
keyword_terms_each Q [] all = tt
keyword_terms_each Q (entry ∷ entries) all =
    each_both_sides Q (terms_at entry.0 entry.1.0 (once entry.1.1)) (keyword_terms entries)
    (terms_each Q entry.0 entry.1.0 (once entry.1.1) (once_in (λ (bytes : List ℕ). Q ((entry.0, bytes), (entry.1.0, []))) entry.1.1 all.0)) (keyword_terms_each Q entries all.1)

pub number_terms_each : (Q : TermEntry → Type 0) (entries : List (ℕ × (ℕ × List ℤ))) → AllByRecursion (λ (entry : ℕ × (ℕ × List ℤ)). AllByRecursion (λ (bytes : List ℕ). Q ((entry.0, bytes), (entry.1.0, []))) (map number_key entry.1.1)) entries → AllByRecursion Q (number_terms entries)
number_terms_each Q [] all = tt
number_terms_each Q (entry ∷ entries) all =
    each_both_sides Q (terms_at entry.0 entry.1.0 (once (map number_key entry.1.1))) (number_terms entries)
    (terms_each Q entry.0 entry.1.0 (once (map number_key entry.1.1)) (once_in (λ (bytes : List ℕ). Q ((entry.0, bytes), (entry.1.0, []))) (map number_key entry.1.1) all.0)) (number_terms_each Q entries all.1)

pub key_long : (number : ℤ) → length (number_key number) ≡ 8
unfolding number_key
key_long number = refl

keys_short : (numbers : List ℤ) → AllByRecursion (λ (bytes : List ℕ). length bytes ≤ 32766) (map number_key numbers)
keys_short [] = tt
keys_short (n ∷ ns) = (omega (arith, key_long n), keys_short ns)

-- a list whose elements all are something
always : {X : Type 0} (P : X → Type 0) → ((x : X) → P x) → (xs : List X) → AllByRecursion P xs
always P all [] = tt
always P all (x ∷ xs) = (all x, always P all xs)

-- entries of other fields
pub none_of_kind : (test : ℕ → Bool) (term : ℕ × List ℕ) (entries : List TermEntry) → AllByRecursion (λ (entry : TermEntry). test entry.0.0 ≡ true) entries → test term.0 ≡ false → of_key term_cmp term entries ≡ []
none_of_kind test term [] all other = refl
none_of_kind test term (entry ∷ entries) all other =
    split (eq_by_cmp term_cmp term entry.0)
    (λ is. absurd (
    let same : term ≡ entry.0 = key_is term_cmp term_order term entry.0 is in
    let never : true ≡ false = sym all.0 ∙ ap (λ (t : ℕ × List ℕ). test t.0) (sym same) ∙ other in cc (never)))
    (λ isnt. rw isnt (none_of_kind test term entries all.1 other))

none_positions : AreAscending []
none_positions = record { fewer = omega arith; ascending = λ i h. absurd (omega (arith, h)); fit = λ i d h. absurd (omega (arith, h)) }

module _ (k : Kinds) (it : EntriesState) (blocks : List BlockState) (is : it ≡ with_blocks no_entries blocks) (all : AllByRecursion (IsWritten k) (flats_in blocks)) where
  abbrev pub flats : List FlatDocument
  flats = flats_in blocks

  -- ---- what each entry is

  pub number_each : (R : ℕ × (ℕ × List ℤ) → Type 0) → ((doc field : ℕ) (values : List ℤ) → AreNumbers k field values → R (field, (doc, values))) → AllByRecursion R it.numbers
  number_each R goes =
      subst (AllByRecursion R) (sym (numbers_are it blocks is))
      (each_doc number_tags R (IsWritten k) (λ doc flat w. tagged_each (λ field values. AreNumbers k field values) R doc flat.numbers (λ field values own. goes doc field values own) w.numbers) 0 flats all)

  pub keyword_each : (R : ℕ × (ℕ × List (List ℕ)) → Type 0) → ((doc field : ℕ) (values : List (List ℕ)) → AreKeywords k field values → R (field, (doc, values))) → AllByRecursion R it.keywords
  keyword_each R goes =
      subst (AllByRecursion R) (sym (keywords_are it blocks is))
      (each_doc keyword_tags R (IsWritten k) (λ doc flat w. tagged_each (λ field values. AreKeywords k field values) R doc flat.keywords (λ field values own. goes doc field values own) w.keywords) 0 flats all)

  pub word_each : (R : TermEntry → Type 0) → ((d : ℕ) (flat : FlatDocument) (term : ℕ × List ℕ) (positions : List ℕ) → slice_get flats d ≡ Some flat → IsWordOf k flat.texts term positions → R (term, (d, positions))) → AllByRecursion R it.words
  word_each R goes =
      subst (AllByRecursion R) (sym (words_are it blocks is))
      (each_place word_tags R (IsWritten k) 0 flats all
      (λ d flat here w.
      let from_zero : 0 + d ≡ d = omega arith in
      rw from_zero (tagged_each (λ term positions. IsWordOf k flat.texts term positions) R d flat.words (λ term positions own. goes d flat term positions here own) w.words)))

  text_list : (R : ℕ × ℕ → Type 0) (doc : ℕ) (fields : List ℕ) → ((field : ℕ) → IsTextOf k field → R (field, doc)) → AllByRecursion (IsTextOf k) fields → AllByRecursion R (fields_with doc fields)
  text_list R doc [] goes own = tt
  text_list R doc (field ∷ fields) goes own = (goes field own.0, text_list R doc fields goes own.1)

  pub text_each : (R : ℕ × ℕ → Type 0) → ((d field : ℕ) → d < length flats → IsTextOf k field → R (field, d)) → AllByRecursion R it.texts
  text_each R goes =
      subst (AllByRecursion R) (sym (texts_are it blocks is))
      (each_place text_tags R (IsWritten k) 0 flats all
      (λ d flat here w.
      let from_zero : 0 + d ≡ d = omega arith in
      rw from_zero (text_list R d flat.texts (λ field own. goes d field (slice_get_within flats d flat here) own) w.texts)))

  -- ---- at each key the documents rise

  whole : {X : Type 0} (ps : List (ℕ × X)) → AreRisingFrom 0 (0 + length flats) ps → AreRisingFrom 0 (length flats) ps
  whole ps up = let e : 0 + length flats ≡ length flats = omega arith in rw e at up

  pub numbers_rise : (field : ℕ) → AreRisingFrom 0 (length flats) (of_key nat_cmp field it.numbers)
  numbers_rise field =
      subst (λ es. AreRisingFrom 0 (length flats) (of_key nat_cmp field es)) (sym (numbers_are it blocks is))
      (whole (of_key nat_cmp field (by_doc number_tags 0 flats)) (docs_rise nat_cmp nat_order number_tags (λ doc flat. tagged_own doc flat.numbers) field 0 flats
      (each_then (IsWritten k) (λ flat. (doc : ℕ) → IsStrictlySortedBy nat_cmp (keys (number_tags doc flat))) (λ flat w doc. subst (IsStrictlySortedBy nat_cmp) (sym (tagged_keys doc flat.numbers)) w.numbers_up) flats all)))

  pub keywords_rise : (field : ℕ) → AreRisingFrom 0 (length flats) (of_key nat_cmp field it.keywords)
  keywords_rise field =
      subst (λ es. AreRisingFrom 0 (length flats) (of_key nat_cmp field es)) (sym (keywords_are it blocks is))
      (whole (of_key nat_cmp field (by_doc keyword_tags 0 flats)) (docs_rise nat_cmp nat_order keyword_tags (λ doc flat. tagged_own doc flat.keywords) field 0 flats
      (each_then (IsWritten k) (λ flat. (doc : ℕ) → IsStrictlySortedBy nat_cmp (keys (keyword_tags doc flat))) (λ flat w doc. subst (IsStrictlySortedBy nat_cmp) (sym (tagged_keys doc flat.keywords)) w.keywords_up) flats all)))

  words_rise : (term : ℕ × List ℕ) → AreRisingFrom 0 (length flats) (of_key term_cmp term it.words)
  words_rise term =
      subst (λ es. AreRisingFrom 0 (length flats) (of_key term_cmp term es)) (sym (words_are it blocks is))
      (whole (of_key term_cmp term (by_doc word_tags 0 flats)) (docs_rise term_cmp term_order word_tags (λ doc flat. tagged_own doc flat.words) term 0 flats
      (each_then (IsWritten k) (λ flat. (doc : ℕ) → IsStrictlySortedBy term_cmp (keys (word_tags doc flat))) (λ flat w doc. subst (IsStrictlySortedBy term_cmp) (sym (tagged_keys doc flat.words)) w.words_up) flats all)))

  pub own_keywords : (doc : ℕ) (flat : FlatDocument) → AllByRecursion (λ (entry : TermEntry). entry.1.0 ≡ doc) (keyword_term_tags doc flat)
  own_keywords doc flat =
      keyword_terms_each (λ (entry : TermEntry). entry.1.0 ≡ doc) (keyword_tags doc flat)
      (each_then (λ (entry : ℕ × (ℕ × List (List ℕ))). entry.1.0 ≡ doc) (λ (entry : ℕ × (ℕ × List (List ℕ))). AllByRecursion (λ (bytes : List ℕ). entry.1.0 ≡ doc) entry.1.1) (λ entry same. always (λ (bytes : List ℕ). entry.1.0 ≡ doc) (λ bytes. same) entry.1.1) (keyword_tags doc flat) (tagged_own doc flat.keywords))

  pub own_numbers : (doc : ℕ) (flat : FlatDocument) → AllByRecursion (λ (entry : TermEntry). entry.1.0 ≡ doc) (number_term_tags doc flat)
  own_numbers doc flat =
      number_terms_each (λ (entry : TermEntry). entry.1.0 ≡ doc) (number_tags doc flat)
      (each_then (λ (entry : ℕ × (ℕ × List ℤ)). entry.1.0 ≡ doc) (λ (entry : ℕ × (ℕ × List ℤ)). AllByRecursion (λ (bytes : List ℕ). entry.1.0 ≡ doc) (map number_key entry.1.1)) (λ entry same. always (λ (bytes : List ℕ). entry.1.0 ≡ doc) (λ bytes. same) (map number_key entry.1.1)) (number_tags doc flat) (tagged_own doc flat.numbers))

  keyword_terms_rise : (term : ℕ × List ℕ) → AreRisingFrom 0 (length flats) (of_key term_cmp term (keyword_terms it.keywords))
  keyword_terms_rise term =
      subst (λ es. AreRisingFrom 0 (length flats) (of_key term_cmp term es)) (sym (keyword_terms_are it blocks is))
      (whole (of_key term_cmp term (by_doc keyword_term_tags 0 flats)) (docs_rise term_cmp term_order keyword_term_tags own_keywords term 0 flats
      (each_then (IsWritten k) (λ flat. (doc : ℕ) → IsStrictlySortedBy term_cmp (keys (keyword_term_tags doc flat)))
      (λ flat w doc. keyword_terms_up doc flat.keywords w.keywords_up (each_then (λ (entry : ℕ × List (List ℕ)). AreKeywords k entry.0 entry.1) (λ (entry : ℕ × List (List ℕ)). UpList bytes_order entry.1) (λ entry own. up_list bytes_order nat_list_cmp_total entry.1 own.are.ascending) flat.keywords w.keywords)) flats all)))

  number_terms_rise : KeysAreOrdered → (term : ℕ × List ℕ) → AreRisingFrom 0 (length flats) (of_key term_cmp term (number_terms it.numbers))
  number_terms_rise law term =
      subst (λ es. AreRisingFrom 0 (length flats) (of_key term_cmp term es)) (sym (number_terms_are it blocks is))
      (whole (of_key term_cmp term (by_doc number_term_tags 0 flats)) (docs_rise term_cmp term_order number_term_tags own_numbers term 0 flats
      (each_then (IsWritten k) (λ flat. (doc : ℕ) → IsStrictlySortedBy term_cmp (keys (number_term_tags doc flat)))
      (λ flat w doc. number_terms_up doc flat.numbers w.numbers_up (each_then (λ (entry : ℕ × List ℤ). AreNumbers k entry.0 entry.1) (λ (entry : ℕ × List ℤ). UpList bytes_order (map number_key entry.1))
      (λ entry own. keys_up law entry.1 (recursion_from_All (FitsSigned w64) entry.1 own.fit) (up_list int_cmp int_cmp_total entry.1 own.values.ascending)) flat.numbers w.numbers)) flats all)))

  -- ---- of each term the kind of its field

  pub words_kind : AllByRecursion (λ (entry : TermEntry). k.word entry.0.0 ≡ true) it.words
  words_kind = word_each (λ (entry : TermEntry). k.word entry.0.0 ≡ true) (λ d flat term positions here own. own.kind)

  pub keywords_kind : AllByRecursion (λ (entry : TermEntry). k.key entry.0.0 ≡ true) (keyword_terms it.keywords)
  keywords_kind =
      keyword_terms_each (λ (entry : TermEntry). k.key entry.0.0 ≡ true) it.keywords
      (keyword_each (λ (entry : ℕ × (ℕ × List (List ℕ))). AllByRecursion (λ (bytes : List ℕ). k.key entry.0 ≡ true) entry.1.1) (λ doc field values own. always (λ (bytes : List ℕ). k.key field ≡ true) (λ bytes. own.kind) values))

  pub numbers_kind : AllByRecursion (λ (entry : TermEntry). k.num entry.0.0 ≡ true) (number_terms it.numbers)
  numbers_kind =
      number_terms_each (λ (entry : TermEntry). k.num entry.0.0 ≡ true) it.numbers
      (number_each (λ (entry : ℕ × (ℕ × List ℤ)). AllByRecursion (λ (bytes : List ℕ). k.num entry.0 ≡ true) (map number_key entry.1.1)) (λ doc field values own. always (λ (bytes : List ℕ). k.num field ≡ true) (λ bytes. own.kind) (map number_key values)))

  pub of_parts : (term : ℕ × List ℕ) → of_key term_cmp term (all_terms it) ≡ (of_key term_cmp term it.words ++ of_key term_cmp term (keyword_terms it.keywords)) ++ of_key term_cmp term (number_terms it.numbers)
  of_parts term =
      of_append term_cmp term (it.words ++ keyword_terms it.keywords) (number_terms it.numbers)
      ∙ ap (λ xs. xs ++ of_key term_cmp term (number_terms it.numbers)) (of_append term_cmp term it.words (keyword_terms it.keywords))

  two_none : (xs ys zs : List (ℕ × List ℕ)) → ys ≡ [] → zs ≡ [] → (xs ++ ys) ++ zs ≡ xs
  two_none xs ys zs y z = rw (y, z) (append-nil (xs ++ []) ∙ append-nil xs)

  pub of_word : AreApart k → (term : ℕ × List ℕ) → k.word term.0 ≡ true → of_key term_cmp term (all_terms it) ≡ of_key term_cmp term it.words
  of_word apart term kind =
      of_parts term ∙ two_none (of_key term_cmp term it.words) (of_key term_cmp term (keyword_terms it.keywords)) (of_key term_cmp term (number_terms it.numbers))
      (none_of_kind k.key term (keyword_terms it.keywords) keywords_kind (apart.word_key term.0 kind))
      (none_of_kind k.num term (number_terms it.numbers) numbers_kind (apart.word_num term.0 kind))

  pub of_keyword : AreApart k → (term : ℕ × List ℕ) → k.key term.0 ≡ true → of_key term_cmp term (all_terms it) ≡ of_key term_cmp term (keyword_terms it.keywords)
  of_keyword apart term kind =
      let none : of_key term_cmp term it.words ≡ [] = none_of_kind k.word term it.words words_kind (apart.key_word term.0 kind) in
      let last : of_key term_cmp term (number_terms it.numbers) ≡ [] = none_of_kind k.num term (number_terms it.numbers) numbers_kind (apart.key_num term.0 kind) in
      of_parts term ∙ rw (none, last) (append-nil (of_key term_cmp term (keyword_terms it.keywords)))

  pub of_number : AreApart k → (term : ℕ × List ℕ) → k.num term.0 ≡ true → of_key term_cmp term (all_terms it) ≡ of_key term_cmp term (number_terms it.numbers)
  of_number apart term kind =
      let none : of_key term_cmp term it.words ≡ [] = none_of_kind k.word term it.words words_kind (apart.num_word term.0 kind) in
      let next : of_key term_cmp term (keyword_terms it.keywords) ≡ [] = none_of_kind k.key term (keyword_terms it.keywords) keywords_kind (apart.num_key term.0 kind) in
      of_parts term ∙ rw (none, next) refl

  pub all_rise : AreApart k → KeysAreOrdered → (term : ℕ × List ℕ) → AreRisingFrom 0 (length flats) (of_key term_cmp term (all_terms it))
  all_rise apart law term =
      split (k.word term.0)
      (λ is_word. subst (AreRisingFrom 0 (length flats)) (sym (of_word apart term is_word)) (words_rise term))
      (λ no_word.
      let none : of_key term_cmp term it.words ≡ [] = none_of_kind k.word term it.words words_kind no_word in
      split (k.key term.0)
      (λ is_key. subst (AreRisingFrom 0 (length flats)) (sym (of_keyword apart term is_key)) (keyword_terms_rise term))
      (λ no_key.
      let next : of_key term_cmp term (keyword_terms it.keywords) ≡ [] = none_of_kind k.key term (keyword_terms it.keywords) keywords_kind no_key in
      subst (AreRisingFrom 0 (length flats)) (sym (of_parts term ∙ rw (none, next) refl)) (number_terms_rise law term)))

  -- ---- all can be made columns of

  pub number_entries : k.bound < 2 ^ 32 → length flats < 2 ^ 32 → AreValueEntries int_cmp (λ field number. FitsSigned w64 number) (length flats) it.numbers
  number_entries bound few = record {
    bound = k.bound;
    fields = bound;
    few = few;
    rise = numbers_rise;
    each = number_each (λ (entry : ℕ × (ℕ × List ℤ)). IsValueEntry int_cmp (λ field number. FitsSigned w64 number) k.bound entry.0 entry.1) (λ doc field values own. record { below = own.below; values = own.values; fit = own.fit });
  }

  pub keyword_entries : (terms : List (ℕ × List ℕ)) → AllByRecursion (λ (entry : ℕ × (ℕ × List (List ℕ))). AllByRecursion (λ (bytes : List ℕ). Contains terms (entry.0, bytes)) entry.1.1) it.keywords
      → k.bound < 2 ^ 32 → length flats < 2 ^ 32 → AreValueEntries (slice_cmp nat_cmp) (λ field bytes. Contains terms (field, bytes)) (length flats) it.keywords
  keyword_entries terms there bound few = record {
    bound = k.bound;
    fields = bound;
    few = few;
    rise = keywords_rise;
    each =
        each_both (λ (entry : ℕ × (ℕ × List (List ℕ))). AreKeywords k entry.0 entry.1.1) (λ (entry : ℕ × (ℕ × List (List ℕ))). AllByRecursion (λ (bytes : List ℕ). Contains terms (entry.0, bytes)) entry.1.1) (λ (entry : ℕ × (ℕ × List (List ℕ))). IsValueEntry (slice_cmp nat_cmp) (λ field bytes. Contains terms (field, bytes)) k.bound entry.0 entry.1)
        (λ entry own found. record { below = own.below; values = own.are; fit = All-from_recursion (λ (bytes : List ℕ). Contains terms (entry.0, bytes)) entry.1.1 found })
        it.keywords (keyword_each (λ (entry : ℕ × (ℕ × List (List ℕ))). AreKeywords k entry.0 entry.1.1) (λ doc field values own. own)) there;
  }

  pub text_entries : k.bound < 2 ^ 32 → AreTextEntries (length flats) it.texts
  text_entries bound = record {
    bound = k.bound;
    fields = bound;
    each = text_each (λ (entry : ℕ × ℕ). (entry.0 < k.bound) × (entry.1 < length flats)) (λ d field inside own. (own.below, inside));
  }

  pub term_entries : AreApart k → KeysAreOrdered → k.bound < 2 ^ 32 → length flats < 2 ^ 32 → AreTermEntries (length flats) (all_terms it)
  term_entries apart law bound few = record {
    few = few;
    rise = all_rise apart law;
    each =
        each_both_sides (λ (entry : TermEntry). IsTermEntry entry.0 entry.1) (it.words ++ keyword_terms it.keywords) (number_terms it.numbers)
        (each_both_sides (λ (entry : TermEntry). IsTermEntry entry.0 entry.1) it.words (keyword_terms it.keywords)
        (word_each (λ (entry : TermEntry). IsTermEntry entry.0 entry.1) (λ d flat term positions here own. record { field = omega (arith, own.below, bound); short = omega (arith, own.short); positions = own.positions }))
        (keyword_terms_each (λ (entry : TermEntry). IsTermEntry entry.0 entry.1) it.keywords
        (keyword_each (λ (entry : ℕ × (ℕ × List (List ℕ))). AllByRecursion (λ (bytes : List ℕ). IsTermEntry (entry.0, bytes) (entry.1.0, [])) entry.1.1)
        (λ doc field values own. each_then (λ (bytes : List ℕ). length bytes ≤ 32766) (λ (bytes : List ℕ). IsTermEntry (field, bytes) (doc, [])) (λ bytes short. record { field = omega (arith, own.below, bound); short = omega (arith, short); positions = none_positions }) values own.short))))
        (number_terms_each (λ (entry : TermEntry). IsTermEntry entry.0 entry.1) it.numbers
        (number_each (λ (entry : ℕ × (ℕ × List ℤ)). AllByRecursion (λ (bytes : List ℕ). IsTermEntry (entry.0, bytes) (entry.1.0, [])) (map number_key entry.1.1))
        (λ doc field values own. each_then (λ (bytes : List ℕ). length bytes ≤ 32766) (λ (bytes : List ℕ). IsTermEntry (field, bytes) (doc, [])) (λ bytes short. record { field = omega (arith, own.below, bound); short = omega (arith, short); positions = none_positions }) (map number_key values) (keys_short values))));
  }

  pub all_short : AllByRecursion (λ (entry : TermEntry). length entry.0.1 ≤ 32766) (all_terms it)
  all_short =
      each_both_sides (λ (entry : TermEntry). length entry.0.1 ≤ 32766) (it.words ++ keyword_terms it.keywords) (number_terms it.numbers)
      (each_both_sides (λ (entry : TermEntry). length entry.0.1 ≤ 32766) it.words (keyword_terms it.keywords)
      (word_each (λ (entry : TermEntry). length entry.0.1 ≤ 32766) (λ d flat term positions here own. own.short))
      (keyword_terms_each (λ (entry : TermEntry). length entry.0.1 ≤ 32766) it.keywords (keyword_each (λ (entry : ℕ × (ℕ × List (List ℕ))). AllByRecursion (λ (bytes : List ℕ). length bytes ≤ 32766) entry.1.1) (λ doc field values own. own.short))))
      (number_terms_each (λ (entry : TermEntry). length entry.0.1 ≤ 32766) it.numbers (number_each (λ (entry : ℕ × (ℕ × List ℤ)). AllByRecursion (λ (bytes : List ℕ). length bytes ≤ 32766) (map number_key entry.1.1)) (λ doc field values own. keys_short values)))
