-- A segment is made of what its documents carry: at each key its columns have just that.
use Rattle.std.proofs.Common.{◌≡◌, ℕ, ◌+◌, ◌<◌, ◌||◌, Bool, List, [], ◌++◌, length, map, get_or, slice_get, Some, ℤ, refl, sym, ap, subst, ◌∙◌, arith}
use Rattle.std.specs.List.{All, AllByRecursion, filter, list_any}
use Rattle.std.specs.List.Sorted.{IsStrictlySortedBy}
use Rattle.std.specs.Str.{bytes_eq}
use Rattle.std.proofs.lemmas.List.{get_or-map, length-map}
use Rattle.std.proofs.lemmas.List.Elements.{All-map, recursion_from_All}
use Rattle.std.proofs.lemmas.List.Folds.{list_any-append}
use Rattle.std.proofs.lemmas.List.FromFn.{get_or-map-range_with_len, length-map-range_with_len}
use Rattle.std.proofs.lemmas.Option.{slice_get-get_or}
use Rattle.doc_values.specs.Values.{values_of}
use Rattle.flattener.specs.Block.{BlockState}
use Rattle.mapping.specs.Mapping.{Mapping}
use Rattle.segment.specs.Agree.{AreColumns, AreWithin}
use Rattle.segment.specs.Flat.{FlatDocument, flat_of, flats_of, has_some, words_at}
use Rattle.segment.specs.Lists.{postings_of}
use Rattle.segment.specs.Shows.{has_term, is_keyword_of, is_number_of, is_word_of, posts}
use Rattle.segment_parts.specs.declared.columns.Columns.{Columns}
use Rattle.term_table.specs.Terms.{term_cmp}
use Rattle.term_table.specs.declared.rows.TermRow.{TermRow}
use Rattle.segment_builder.specs.Entries.{EntriesState, flats_in, no_entries, with_blocks}
use Rattle.segment_builder.specs.Groups.{in_groups, keys, of_key}
use Rattle.segment_builder.specs.Made.{all_terms}
use Rattle.segment_builder.specs.Rising.{AreRisingFrom}
use Rattle.segment_builder.specs.Terms.{keyword_terms, number_terms, row_group}
use Rattle.segment_builder.proofs.Agreeing.{apart_of, kinds_of}
use Rattle.segment_builder.proofs.Assembled.{map_twice}
use Rattle.segment_builder.proofs.Grown.{at_doc, by_doc}
use Rattle.segment_builder.proofs.Merged.{at_document, find}
use Rattle.segment_builder.proofs.Onced.{KeysAreOrdered}
use Rattle.segment_builder.proofs.Orders.{term_order}
use Rattle.segment_builder.proofs.Parted.{keyword_term_tags, keyword_terms_are, number_term_tags, number_terms_are, tagged_own, word_tags, words_are}
use Rattle.segment_builder.proofs.Posted.{any_at, any_has, any_keywords, any_numbers, any_words, posted_at}
use Rattle.segment_builder.proofs.SameRows.{at_key, find_at, is_doc, rising, same_rows}
use Rattle.segment_builder.proofs.Taking.{all_rise, of_parts, own_keywords, own_numbers}
use Rattle.segment_builder.proofs.Worded.{keywords_empty, numbers_empty, values_first}
use Rattle.segment_builder.proofs.Written.{IsWritten}
use Rattle.std.specs.Ordering.{nat_cmp}
use Rattle.std.proofs.lemmas.Map.Keys.{sorted_from_strictly_increasing}
use Rattle.segment.specs.Flat.{bytes_at, values_at}
use Rattle.segment.specs.Lists.{terms_of}
use Rattle.segment_builder.specs.ByKey.{marked_docs}
use Rattle.segment_builder.specs.Columns.{column_terms, named, named_row, row_terms}
use Rattle.segment_builder.specs.Parts.{tagged}
use Rattle.segment_builder.proofs.Agreed.{values_map}
use Rattle.segment_builder.proofs.AtFields.{IsOfField, find_mapped, in_mapped, members_back, members_valued, named_back, present_at, rises_as, set_groups, sets_rise, sets_valued, valued_as, values_case}
use Rattle.segment_builder.proofs.Grown.{blocks_add}
use Rattle.segment_builder.proofs.InOrder.{each_then}
use Rattle.segment_builder.proofs.Orders.{nat_order}
use Rattle.segment_builder.proofs.Parted.{keywords_are, numbers_are, tagged_keys}
use Rattle.segment_builder.proofs.Rising.{docs_rise, each_of_key}
use Rattle.segment_builder.proofs.SameRows.{AreValued, same_valued}
use Rattle.segment_builder.proofs.Taking.{keyword_each, keywords_rise, number_each, numbers_rise}
use Rattle.segment_builder.proofs.Texts.{fields_back, in_texts, of_texts, text_entry, text_get, text_group, text_member, text_step}

module _ (m : Mapping) (columns : Columns) (own : AreColumns columns) (blocks : List BlockState) (same : flats_in blocks ≡ flats_of columns) (all : AllByRecursion (IsWritten (kinds_of m)) (flats_in blocks)) where
  abbrev it : EntriesState
  it = with_blocks no_entries blocks

  abbrev flats : List FlatDocument
  flats = flats_in blocks

  flats_count : length flats ≡ columns.documents
  flats_count = ap length same ∙ length-map-range_with_len (flat_of columns) 0 columns.documents

  flat_here : (doc : ℕ) → doc < columns.documents → slice_get flats doc ≡ Some (flat_of columns doc)
  flat_here doc inside =
      ap (λ fs. slice_get fs doc) same
      ∙ slice_get-get_or (flats_of columns) doc (flat_of columns doc) (omega (arith, inside, length-map-range_with_len (flat_of columns) 0 columns.documents))
      ∙ ap Some (get_or-map-range_with_len (flat_of columns) 0 columns.documents doc doc (flat_of columns doc) inside (omega arith))

  from_zero : (doc : ℕ) → 0 + doc ≡ doc
  from_zero doc = omega arith

  -- ---- terms

  module _ (law : KeysAreOrdered)
      (shown : (field doc : ℕ) (test : List ℕ → Bool) → list_any (posts field doc test) columns.terms ≡ has_term field test (flat_of columns doc))
      (posted_within : (ordinal : ℕ) → All (λ (posting : ℕ × List ℕ). posting.0 < columns.documents) (get_or (postings_of columns) ordinal []))
      (term : ℕ × List ℕ) where
    abbrev mine : List (ℕ × List ℕ)
    mine = of_key term_cmp term (all_terms it)

    abbrev posted : List (ℕ × List ℕ)
    posted = in_groups term_cmp term (map row_group columns.terms)

    abbrev of_words : List (ℕ × List ℕ)
    of_words = of_key term_cmp term it.words

    abbrev of_keywords : List (ℕ × List ℕ)
    of_keywords = of_key term_cmp term (keyword_terms it.keywords)

    abbrev of_numbers : List (ℕ × List ℕ)
    of_numbers = of_key term_cmp term (number_terms it.numbers)

    parts : mine ≡ (of_words ++ of_keywords) ++ of_numbers
    parts = of_parts (kinds_of m) it blocks refl all term

    terms_up : IsStrictlySortedBy term_cmp (keys (map row_group columns.terms))
    terms_up = subst (IsStrictlySortedBy term_cmp) (sym (map_twice (λ (group : (ℕ × List ℕ) × List (ℕ × List ℕ)). group.0) row_group columns.terms)) own.parts.terms_are.ascending

    posted_rises : AreRisingFrom 0 columns.documents posted
    posted_rises =
        at_key term_cmp term_order (λ t rows. AreRisingFrom 0 columns.documents rows) term (map row_group columns.terms) tt terms_up
        (recursion_from_All (λ (group : (ℕ × List ℕ) × List (ℕ × List ℕ)). AreRisingFrom 0 columns.documents group.1) (map row_group columns.terms)
        (All-map (λ (group : (ℕ × List ℕ) × List (ℕ × List ℕ)). AreRisingFrom 0 columns.documents group.1) row_group columns.terms
        (λ k d h.
        rising columns.documents (get_or columns.terms k d).postings (own.parts.terms_are.rows_are k d h).postings_are.documents_are.ascending
        (subst (AreWithin columns.documents) (get_or-map (λ (row : TermRow). row.postings) columns.terms k d [] h) (posted_within k)))))

    mine_rises : AreRisingFrom 0 columns.documents mine
    mine_rises = subst (λ n. AreRisingFrom 0 n mine) flats_count (all_rise (kinds_of m) it blocks refl all (apart_of m) law term)

    module _ (doc : ℕ) (inside : doc < columns.documents) where
      abbrev flat : FlatDocument
      flat = flat_of columns doc

      words_here : list_any (is_doc doc) of_words ≡ list_any (is_word_of term.0 (bytes_eq term.1)) flat.words
      words_here =
          ap (λ es. list_any (is_doc doc) (of_key term_cmp term es)) (words_are it blocks refl)
          ∙ (let found = any_at term_cmp word_tags (λ d f. tagged_own d f.words) term 0 doc flats flat (flat_here doc inside) in rw (from_zero doc) at found)
          ∙ any_words term doc flat.words

      keywords_here : list_any (is_doc doc) of_keywords ≡ list_any (is_keyword_of term.0 (bytes_eq term.1)) flat.keywords
      keywords_here =
          ap (λ es. list_any (is_doc doc) (of_key term_cmp term es)) (keyword_terms_are it blocks refl)
          ∙ (let found = any_at term_cmp keyword_term_tags (own_keywords (kinds_of m) it blocks refl all) term 0 doc flats flat (flat_here doc inside) in rw (from_zero doc) at found)
          ∙ any_keywords term doc flat.keywords

      numbers_here : list_any (is_doc doc) of_numbers ≡ list_any (is_number_of term.0 (bytes_eq term.1)) flat.numbers
      numbers_here =
          ap (λ es. list_any (is_doc doc) (of_key term_cmp term es)) (number_terms_are it blocks refl)
          ∙ (let found = any_at term_cmp number_term_tags (own_numbers (kinds_of m) it blocks refl all) term 0 doc flats flat (flat_here doc inside) in rw (from_zero doc) at found)
          ∙ any_numbers term doc flat.numbers

      mine_has : list_any (is_doc doc) mine ≡ has_term term.0 (bytes_eq term.1) flat
      mine_has =
          ap (list_any (is_doc doc)) parts
          ∙ list_any-append (is_doc doc) (of_words ++ of_keywords) of_numbers
          ∙ ap (λ b. b || list_any (is_doc doc) of_numbers) (list_any-append (is_doc doc) of_words of_keywords)
          ∙ rw (words_here, keywords_here, numbers_here) (any_has term flat)

      same_docs : list_any (is_doc doc) posted ≡ list_any (is_doc doc) mine
      same_docs = posted_at term doc columns.terms ∙ shown term.0 doc (bytes_eq term.1) ∙ sym mine_has

      mine_say : values_of doc mine ≡ find term_cmp term_order term flat.words
      mine_say =
          ap (values_of doc) parts
          ∙ values_first doc (of_words ++ of_keywords) of_numbers (numbers_empty term it.numbers)
          ∙ values_first doc of_words of_keywords (keywords_empty term it.keywords)
          ∙ ap (λ es. values_of doc (of_key term_cmp term es)) (words_are it blocks refl)
          ∙ (let found = at_doc term_cmp term_order (λ f. f.words) term 0 doc flats flat (flat_here doc inside) in rw (from_zero doc) at found)

      words_found : at_document term_cmp term_order doc (map row_group columns.terms) ≡ words_at doc columns.terms
      words_found = ap (filter has_some) (map_twice (λ (group : (ℕ × List ℕ) × List (ℕ × List ℕ)). (group.0, values_of doc group.1)) row_group columns.terms)

      same_values : values_of doc posted ≡ values_of doc mine
      same_values = sym (find_at term_cmp term_order doc term (map row_group columns.terms) terms_up) ∙ ap (find term_cmp term_order term) words_found ∙ sym mine_say

    pub terms_again : in_groups term_cmp term (map row_group columns.terms) ≡ of_key term_cmp term (all_terms it)
    terms_again = same_rows 0 columns.documents posted mine posted_rises mine_rises same_docs same_values

  -- ---- numbers

  module _ (field : ℕ) where
    abbrev numbers_there : List (ℕ × List ℤ)
    numbers_there = in_groups nat_cmp field columns.numbers

    abbrev numbers_mine : List (ℕ × List ℤ)
    numbers_mine = of_key nat_cmp field it.numbers

    numbers_up : IsStrictlySortedBy nat_cmp (keys columns.numbers)
    numbers_up = sorted_from_strictly_increasing (keys columns.numbers) own.parts.numbers_are.ascending

    numbers_there_rise : AreRisingFrom 0 columns.documents numbers_there
    numbers_there_rise =
        at_key nat_cmp nat_order (λ f rows. AreRisingFrom 0 columns.documents rows) field columns.numbers tt numbers_up
        (recursion_from_All (λ (column : ℕ × List (ℕ × List ℤ)). AreRisingFrom 0 columns.documents column.1) columns.numbers
        (λ k d h. rising columns.documents (get_or columns.numbers k d).1 (own.parts.numbers_are.each k d h).entries.rows_are.ascending (own.fields.numbers_within k d h)))

    numbers_there_valued : AreValued numbers_there
    numbers_there_valued =
        at_key nat_cmp nat_order (λ f rows. AreValued rows) field columns.numbers tt numbers_up
        (recursion_from_All (λ (column : ℕ × List (ℕ × List ℤ)). AreValued column.1) columns.numbers
        (λ k d h. recursion_from_All (λ (row : ℕ × List ℤ). 0 < length row.1) (get_or columns.numbers k d).1 (λ i e g. ((own.parts.numbers_are.each k d h).entries.rows_are.valued i e g).some)))

    numbers_mine_rise : AreRisingFrom 0 columns.documents numbers_mine
    numbers_mine_rise = subst (λ n. AreRisingFrom 0 n numbers_mine) flats_count (numbers_rise (kinds_of m) it blocks refl all field)

    numbers_mine_valued : AreValued numbers_mine
    numbers_mine_valued =
        each_of_key nat_cmp nat_order (λ f (row : ℕ × List ℤ). 0 < length row.1) field it.numbers
        (number_each (kinds_of m) it blocks refl all (λ (entry : ℕ × (ℕ × List ℤ)). 0 < length entry.1.1) (λ doc f values numbers. numbers.values.some))

    numbers_say : (doc : ℕ) → doc < columns.documents → values_of doc numbers_there ≡ values_of doc numbers_mine
    numbers_say doc inside =
        sym (find_at nat_cmp nat_order doc field columns.numbers numbers_up)
        ∙ sym (ap (λ es. values_of doc (of_key nat_cmp field es)) (numbers_are it blocks refl)
        ∙ (let found = at_doc nat_cmp nat_order (λ f. f.numbers) field 0 doc flats (flat_of columns doc) (flat_here doc inside) in rw (from_zero doc) at found))

    pub numbers_again : in_groups nat_cmp field columns.numbers ≡ of_key nat_cmp field it.numbers
    numbers_again = same_valued columns.documents numbers_there numbers_mine numbers_there_rise numbers_mine_rise numbers_there_valued numbers_mine_valued numbers_say

  -- ---- keywords

  module _ (field : ℕ) where
    abbrev terms : List (ℕ × List ℕ)
    terms = terms_of columns

    abbrev ordinals_there : List (ℕ × List ℕ)
    ordinals_there = in_groups nat_cmp field columns.ordinals

    abbrev keywords_mine : List (ℕ × List (List ℕ))
    keywords_mine = of_key nat_cmp field it.keywords

    ordinals_up : IsStrictlySortedBy nat_cmp (keys columns.ordinals)
    ordinals_up = sorted_from_strictly_increasing (keys columns.ordinals) own.parts.ordinals_are.ascending

    ordinals_rise : AreRisingFrom 0 columns.documents ordinals_there
    ordinals_rise =
        at_key nat_cmp nat_order (λ f rows. AreRisingFrom 0 columns.documents rows) field columns.ordinals tt ordinals_up
        (recursion_from_All (λ (column : ℕ × List (ℕ × List ℕ)). AreRisingFrom 0 columns.documents column.1) columns.ordinals
        (λ k d h. rising columns.documents (get_or columns.ordinals k d).1 (own.parts.ordinals_are.each k d h).entries.rows_are.ascending (own.fields.ordinals_within k d h)))

    ordinals_valued : AreValued ordinals_there
    ordinals_valued =
        at_key nat_cmp nat_order (λ f rows. AreValued rows) field columns.ordinals tt ordinals_up
        (recursion_from_All (λ (column : ℕ × List (ℕ × List ℕ)). AreValued column.1) columns.ordinals
        (λ k d h. recursion_from_All (λ (row : ℕ × List ℕ). 0 < length row.1) (get_or columns.ordinals k d).1 (λ i e g. ((own.parts.ordinals_are.each k d h).entries.rows_are.valued i e g).some)))

    ordinals_of_field : AllByRecursion (λ (row : ℕ × List ℕ). AllByRecursion (IsOfField terms field) row.1) ordinals_there
    ordinals_of_field =
        at_key nat_cmp nat_order (λ f rows. AllByRecursion (λ (row : ℕ × List ℕ). AllByRecursion (IsOfField terms f) row.1) rows) field columns.ordinals tt ordinals_up
        (recursion_from_All (λ (column : ℕ × List (ℕ × List ℕ)). AllByRecursion (λ (row : ℕ × List ℕ). AllByRecursion (IsOfField terms column.0) row.1) column.1) columns.ordinals
        (λ k d h. recursion_from_All (λ (row : ℕ × List ℕ). AllByRecursion (IsOfField terms (get_or columns.ordinals k d).0) row.1) (get_or columns.ordinals k d).1
        (λ i e g. recursion_from_All (IsOfField terms (get_or columns.ordinals k d).0) (get_or (get_or columns.ordinals k d).1 i e).1 (λ j r l. (own.terms.ordinals k d h i e g j r l).of_field))))

    keywords_mine_rise : AreRisingFrom 0 columns.documents keywords_mine
    keywords_mine_rise = subst (λ n. AreRisingFrom 0 n keywords_mine) flats_count (keywords_rise (kinds_of m) it blocks refl all field)

    keywords_mine_valued : AreValued keywords_mine
    keywords_mine_valued =
        each_of_key nat_cmp nat_order (λ f (row : ℕ × List (List ℕ)). 0 < length row.1) field it.keywords
        (keyword_each (kinds_of m) it blocks refl all (λ (entry : ℕ × (ℕ × List (List ℕ))). 0 < length entry.1.1) (λ doc f values keywords. keywords.are.some))

    keywords_say : (doc : ℕ) → doc < columns.documents → values_of doc (map (row_terms terms) ordinals_there) ≡ values_of doc (map (named_row field) keywords_mine)
    keywords_say doc inside =
        let ordinals : List ℕ = values_of doc ordinals_there in
        let known : map (slice_get terms) ordinals ≡ named field (map (bytes_at terms) ordinals) =
        named_back terms field ordinals (values_case (λ os. AllByRecursion (IsOfField terms field) os) doc ordinals_there tt ordinals_of_field) in
        let found : values_of doc keywords_mine ≡ find nat_cmp nat_order field (flat_of columns doc).keywords =
        ap (λ es. values_of doc (of_key nat_cmp field es)) (keywords_are it blocks refl)
        ∙ (let there = at_doc nat_cmp nat_order (λ f. f.keywords) field 0 doc flats (flat_of columns doc) (flat_here doc inside) in rw (from_zero doc) at there) in
        let bytes : values_of doc keywords_mine ≡ map (bytes_at terms) ordinals =
        found ∙ find_mapped nat_cmp nat_order (map (bytes_at terms)) refl field (values_at doc columns.ordinals) ∙ ap (map (bytes_at terms)) (find_at nat_cmp nat_order doc field columns.ordinals ordinals_up) in
        values_map (map (slice_get terms)) refl doc ordinals_there ∙ known ∙ ap (named field) (sym bytes) ∙ sym (values_map (named field) refl doc keywords_mine)

    pub keywords_again : in_groups nat_cmp field (map (column_terms terms) columns.ordinals) ≡ map (named_row field) (of_key nat_cmp field it.keywords)
    keywords_again =
        in_mapped nat_cmp (row_terms terms) field columns.ordinals
        ∙ same_valued columns.documents (map (row_terms terms) ordinals_there) (map (named_row field) keywords_mine)
        (rises_as (map (slice_get terms)) 0 columns.documents ordinals_there ordinals_rise) (rises_as (named field) 0 columns.documents keywords_mine keywords_mine_rise)
        (valued_as (map (slice_get terms)) (λ values. length-map values (slice_get terms)) ordinals_there ordinals_valued)
        (valued_as (named field) (λ values. length-map values (λ bytes. Some (field, bytes))) keywords_mine keywords_mine_valued)
        keywords_say

  -- ---- texts

  module _ (field : ℕ) where
    abbrev sets : List (ℕ × List (ℕ × List ℕ))
    sets = set_groups columns.present

    abbrev sets_there : List (ℕ × List ℕ)
    sets_there = in_groups nat_cmp field sets

    abbrev texts_mine : List (ℕ × List ℕ)
    texts_mine = of_key nat_cmp field (map text_entry it.texts)

    sets_up : IsStrictlySortedBy nat_cmp (keys sets)
    sets_up =
        subst (IsStrictlySortedBy nat_cmp)
        (sym (map_twice (λ (group : ℕ × List (ℕ × List ℕ)). group.0) text_group (map marked_docs columns.present) ∙ map_twice (λ (group : ℕ × List ℕ). group.0) marked_docs columns.present))
        (sorted_from_strictly_increasing (keys columns.present) own.parts.present_are.ascending)

    sets_there_rise : AreRisingFrom 0 columns.documents sets_there
    sets_there_rise =
        at_key nat_cmp nat_order (λ f rows. AreRisingFrom 0 columns.documents rows) field sets tt sets_up
        (sets_rise columns.documents columns.present
        (recursion_from_All (λ (column : ℕ × List Bool). length column.1 ≡ columns.documents) columns.present (λ k d h. (own.parts.present_are.each k d h).long)))

    sets_there_valued : AreValued sets_there
    sets_there_valued = at_key nat_cmp nat_order (λ f rows. AreValued rows) field sets tt sets_up (sets_valued columns.present)

    texts_by : map text_entry it.texts ≡ by_doc (λ doc flat. tagged doc (text_get flat)) 0 flats
    texts_by = blocks_add (λ doc flat. tagged doc (text_get flat)) (λ e. map text_entry e.texts) (λ e f. text_step (length e.scopes) e.texts f.texts) blocks no_entries

    texts_mine_rise : AreRisingFrom 0 columns.documents texts_mine
    texts_mine_rise =
        let long : 0 + length flats ≡ columns.documents = omega (arith, flats_count) in
        let rise : AreRisingFrom 0 (0 + length flats) (of_key nat_cmp field (by_doc (λ doc flat. tagged doc (text_get flat)) 0 flats)) =
        docs_rise nat_cmp nat_order (λ doc flat. tagged doc (text_get flat)) (λ doc flat. tagged_own doc (text_get flat)) field 0 flats
        (each_then (IsWritten (kinds_of m)) (λ flat. (doc : ℕ) → IsStrictlySortedBy nat_cmp (keys (tagged doc (text_get flat))))
        (λ flat w doc. subst (IsStrictlySortedBy nat_cmp) (sym (tagged_keys doc (text_get flat) ∙ fields_back flat.texts)) w.texts_up) flats all) in
        subst (λ es. AreRisingFrom 0 columns.documents (of_key nat_cmp field es)) (sym texts_by) (rw long at rise)

    texts_mine_valued : AreValued texts_mine
    texts_mine_valued = subst AreValued (sym (of_texts field it.texts)) (members_valued (of_key nat_cmp field it.texts))

    texts_say : (doc : ℕ) → doc < columns.documents → values_of doc sets_there ≡ values_of doc texts_mine
    texts_say doc inside =
        sym (find_at nat_cmp nat_order doc field sets sets_up)
        ∙ ap (find nat_cmp nat_order field) (present_at doc columns.present)
        ∙ sym (ap (λ es. values_of doc (of_key nat_cmp field es)) texts_by
        ∙ (let found = at_doc nat_cmp nat_order text_get field 0 doc flats (flat_of columns doc) (flat_here doc inside) in rw (from_zero doc) at found))

    pub texts_again : in_groups nat_cmp field (map marked_docs columns.present) ≡ of_key nat_cmp field it.texts
    texts_again =
        let members : map text_member (in_groups nat_cmp field (map marked_docs columns.present)) ≡ map text_member (of_key nat_cmp field it.texts) =
        sym (in_texts field (map marked_docs columns.present)) ∙ same_valued columns.documents sets_there texts_mine sets_there_rise texts_mine_rise sets_there_valued texts_mine_valued texts_say ∙ of_texts field it.texts in
        sym (members_back (in_groups nat_cmp field (map marked_docs columns.present))) ∙ ap (map (λ (row : ℕ × List ℕ). row.0)) members ∙ members_back (of_key nat_cmp field it.texts)
