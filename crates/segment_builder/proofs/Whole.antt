-- The columns made of all blocks say of each document what it carries.
use Rattle.std.proofs.Common.{◌≡◌, ℕ, ℤ, ◌+◌, ◌<◌, ◌==◌, Bool, true, false, List, [], ◌++◌, length, map, get_or, slice_get, slice_index_or, Some, refl, sym, ap, subst, ◌∙◌, arith, eq-eqb, eqb-true}
use Rattle.std.specs.List.{All, filter}
use Rattle.std.specs.List.Sorted.{IsStrictlySortedBy}
use Rattle.std.specs.Ordering.{nat_cmp}
use Rattle.std.proofs.lemmas.List.{get_or-map, length-map}
use Rattle.std.proofs.lemmas.List.FromFn.{fill_by_all, get_or-map-range_with_len}
use Rattle.std.proofs.lemmas.Option.{slice_get-get_or, get_or_from_slice_get}
use Rattle.block_bits.specs.Blocks.{documents_of, has_scope}
use Rattle.doc_values.specs.Values.{values_of}
use Rattle.segment.specs.Flat.{FlatDocument, has_some, flat_of, flats_of, values_at, words_at}
use Rattle.segment.specs.Lists.{terms_of}
use Rattle.segment_parts.specs.declared.columns.Columns.{Columns}
use Rattle.term_table.specs.Terms.{term_cmp}
use Rattle.segment_builder.specs.Entries.{EntriesState, flats_in, no_entries, with_blocks}
use Rattle.segment_builder.specs.Form.{IsOrdered}
use Rattle.segment_builder.specs.Groups.{of_key, AreGroups}
use Rattle.segment_builder.specs.Made.{IsMade, all_terms}
use Rattle.segment_builder.specs.Parts.{tagged}
use Rattle.flattener.specs.Block.{BlockState}
use Rattle.segment_builder.specs.Terms.{row_group, keyword_terms, number_terms}
use Rattle.segment_builder.proofs.Assembled.{map_twice}
use Rattle.segment_builder.proofs.Grown.{by_doc, blocks_add, of_append, at_doc}
use Rattle.segment_builder.proofs.Merged.{find, at_document}
use Rattle.segment_builder.proofs.Orders.{nat_order, term_order}
use Rattle.segment_builder.proofs.Parted.{keywords_are, numbers_are, scopes_are, words_are}
use Rattle.segment_builder.specs.Regrouped.{regrouped}
use Rattle.segment_builder.proofs.Shown.{each_by, shown}
use Rattle.segment_builder.proofs.Texts.{text_entry, text_group, text_member, text_get, text_step, texts_at, fields_back, texts_some}
use Rattle.segment_builder.proofs.Worded.{values_first, keywords_empty, numbers_empty, keywords_at, column_bytes, bytes_again}

-- a document by its parts
same_flat : (a b : FlatDocument) → a.scope ≡ b.scope → a.numbers ≡ b.numbers → a.keywords ≡ b.keywords → a.words ≡ b.words → a.texts ≡ b.texts → a ≡ b
same_flat a b scope numbers keywords words texts =
    let one : a ≡ record a { scope = b.scope } = ap (λ x. record a { scope = x }) scope in
    let two : record a { scope = b.scope } ≡ record a { scope = b.scope; numbers = b.numbers } = ap (λ x. record a { scope = b.scope; numbers = x }) numbers in
    let three : record a { scope = b.scope; numbers = b.numbers } ≡ record a { scope = b.scope; numbers = b.numbers; keywords = b.keywords } = ap (λ x. record a { scope = b.scope; numbers = b.numbers; keywords = x }) keywords in
    let four : record a { scope = b.scope; numbers = b.numbers; keywords = b.keywords } ≡ record a { scope = b.scope; numbers = b.numbers; keywords = b.keywords; words = b.words } = ap (λ x. record a { scope = b.scope; numbers = b.numbers; keywords = b.keywords; words = x }) words in
    let five : record a { scope = b.scope; numbers = b.numbers; keywords = b.keywords; words = b.words } ≡ b = ap (λ x. record b { texts = x }) texts in
    one ∙ two ∙ three ∙ four ∙ five

module _ (it : EntriesState) (columns : Columns) (blocks : List BlockState) (is : it ≡ with_blocks no_entries blocks) (made : IsMade it columns) where
  abbrev flats : List FlatDocument
  flats = flats_in blocks

  texts_are : map text_entry it.texts ≡ by_doc (λ doc flat. tagged doc (text_get flat)) 0 flats
  texts_are = ap (λ (e : EntriesState). map text_entry e.texts) is ∙ blocks_add (λ doc flat. tagged doc (text_get flat)) (λ e. map text_entry e.texts) (λ e f. text_step (length e.scopes) e.texts f.texts) blocks no_entries

  count : length flats ≡ columns.documents
  count = sym (made.documents ∙ ap length (scopes_are it blocks is) ∙ length-map flats (λ (flat : FlatDocument). flat.scope))

  module _ (d : ℕ) (flat : FlatDocument) (here : slice_get flats d ≡ Some flat) (form : IsOrdered flat) (inside : d < columns.documents) where
    from_zero : 0 + d ≡ d
    from_zero = omega arith

    numbers_at : values_at d columns.numbers ≡ flat.numbers
    numbers_at =
        shown nat_cmp nat_order columns.numbers it.numbers d flat.numbers
        (λ key. ap (λ es. values_of d (of_key nat_cmp key es)) (numbers_are it blocks is) ∙ (let found = at_doc nat_cmp nat_order (λ f. f.numbers) key 0 d flats flat here in rw from_zero at found))
        made.numbers form.numbers.ascending (each_by (λ (entry : ℕ × List ℤ). has_some entry ≡ true) flat.numbers form.numbers.some)

    keywords_shown : at_document nat_cmp nat_order d made.keywords ≡ flat.keywords
    keywords_shown =
        shown nat_cmp nat_order made.keywords it.keywords d flat.keywords
        (λ key. ap (λ es. values_of d (of_key nat_cmp key es)) (keywords_are it blocks is) ∙ (let found = at_doc nat_cmp nat_order (λ f. f.keywords) key 0 d flats flat here in rw from_zero at found))
        made.keyword_groups form.keywords.ascending (each_by (λ (entry : ℕ × List (List ℕ)). has_some entry ≡ true) flat.keywords form.keywords.some)

    keywords_here : map (column_bytes (terms_of columns)) columns.ordinals ≡ made.keywords
    keywords_here = bytes_again (terms_of columns) columns.ordinals made.keywords made.ordinals

    abbrev term_groups : List ((ℕ × List ℕ) × List (ℕ × List ℕ))
    term_groups = map row_group columns.terms

    words_say : (key : ℕ × List ℕ) → values_of d (of_key term_cmp key (all_terms it)) ≡ find term_cmp term_order key flat.words
    words_say key =
        let parts : of_key term_cmp key (all_terms it) ≡ (of_key term_cmp key it.words ++ of_key term_cmp key (keyword_terms it.keywords)) ++ of_key term_cmp key (number_terms it.numbers) =
        of_append term_cmp key (it.words ++ keyword_terms it.keywords) (number_terms it.numbers) ∙ ap (λ xs. xs ++ of_key term_cmp key (number_terms it.numbers)) (of_append term_cmp key it.words (keyword_terms it.keywords)) in
        ap (values_of d) parts
        ∙ values_first d (of_key term_cmp key it.words ++ of_key term_cmp key (keyword_terms it.keywords)) (of_key term_cmp key (number_terms it.numbers)) (numbers_empty key it.numbers)
        ∙ values_first d (of_key term_cmp key it.words) (of_key term_cmp key (keyword_terms it.keywords)) (keywords_empty key it.keywords)
        ∙ ap (λ es. values_of d (of_key term_cmp key es)) (words_are it blocks is)
        ∙ (let found = at_doc term_cmp term_order (λ f. f.words) key 0 d flats flat here in rw from_zero at found)

    words_shown : at_document term_cmp term_order d term_groups ≡ flat.words
    words_shown =
        shown term_cmp term_order term_groups (all_terms it) d flat.words words_say made.rows
        form.words.ascending (each_by (λ (word : (ℕ × List ℕ) × List ℕ). has_some word ≡ true) flat.words form.words.some)

    words_here : words_at d columns.terms ≡ flat.words
    words_here = ap (filter has_some) (sym (map_twice (λ (group : (ℕ × List ℕ) × List (ℕ × List ℕ)). (group.0, values_of d group.1)) row_group columns.terms)) ∙ words_shown

    abbrev groups_of_texts : List (ℕ × List (ℕ × List ℕ))
    groups_of_texts = map text_group made.texts

    texts_grouped : AreGroups nat_cmp (map text_entry it.texts) groups_of_texts
    texts_grouped = regrouped nat_cmp nat_cmp (λ (field : ℕ). field) text_member (λ a b. refl) it.texts made.texts made.text_groups

    texts_shown : at_document nat_cmp nat_order d groups_of_texts ≡ text_get flat
    texts_shown =
        shown nat_cmp nat_order groups_of_texts (map text_entry it.texts) d (text_get flat)
        (λ key. ap (λ es. values_of d (of_key nat_cmp key es)) texts_are ∙ (let found = at_doc nat_cmp nat_order text_get key 0 d flats flat here in rw from_zero at found))
        texts_grouped (subst (IsStrictlySortedBy nat_cmp) (sym (fields_back flat.texts)) form.texts) (texts_some flat.texts)

    texts_here : (flat_of columns d).texts ≡ flat.texts
    texts_here =
        ap (λ cs. map (λ (column : ℕ × List Bool). column.0) (filter (λ (column : ℕ × List Bool). get_or column.1 d false) cs)) made.present
        ∙ texts_at columns.documents d inside made.texts
        ∙ ap (map (λ (entry : ℕ × List ℕ). entry.0)) texts_shown
        ∙ fields_back flat.texts

    scope_known : get_or it.scopes d 0 ≡ flat.scope
    scope_known =
        let long : d < length flats = omega (arith, inside, count) in
        let at : get_or flats d flat ≡ flat = get_or_from_slice_get flats d flat flat here in
        ap (λ ss. get_or ss d 0) (scopes_are it blocks is) ∙ get_or-map (λ (f : FlatDocument). f.scope) flats d flat 0 long ∙ ap (λ (f : FlatDocument). f.scope) at

    scope_within : flat.scope < length columns.scopes
    scope_within =
        let long : d < length it.scopes = omega (arith, inside, made.documents) in
        subst (λ s. s < length columns.scopes) scope_known (made.within d 0 long)

    is_of_scope : slice_index_or (slice_index_or columns.scopes flat.scope []) d false ≡ true
    is_of_scope =
        let long : d < length it.scopes = omega (arith, inside, made.documents) in
        let set : get_or columns.scopes flat.scope [] ≡ documents_of it.scopes flat.scope =
        ap (λ sets. get_or sets flat.scope []) made.scopes ∙ get_or-map-range_with_len (documents_of it.scopes) 0 (length columns.scopes) flat.scope flat.scope [] scope_within (omega arith) in
        ap (λ flags. get_or flags d false) set
        ∙ get_or-map (has_scope flat.scope) it.scopes d 0 false long
        ∙ eq-eqb (get_or it.scopes d 0) flat.scope scope_known

    flat_is : ((scope doc : ℕ) → scope < length columns.scopes → doc < columns.documents → slice_index_or (slice_index_or columns.scopes scope []) doc false ≡ ((flat_of columns doc).scope == scope)) → flat_of columns d ≡ flat
    flat_is scoped =
        let scope : (flat_of columns d).scope ≡ flat.scope = eqb-true (flat_of columns d).scope flat.scope (sym (scoped flat.scope d scope_within inside) ∙ is_of_scope) in
        same_flat (flat_of columns d) flat scope numbers_at (keywords_at (terms_of columns) d columns.ordinals ∙ ap (at_document nat_cmp nat_order d) keywords_here ∙ keywords_shown) words_here texts_here

  no_flat : FlatDocument
  no_flat = record { scope = 0; numbers = []; keywords = []; words = []; texts = [] }

  pub flats_are : All IsOrdered flats → ((scope doc : ℕ) → scope < length columns.scopes → doc < columns.documents → slice_index_or (slice_index_or columns.scopes scope []) doc false ≡ ((flat_of columns doc).scope == scope)) → flats_of columns ≡ flats
  flats_are ordered scoped =
      sym (fill_by_all (flat_of columns) flats columns.documents no_flat count
      (λ k inside.
      let long : k < length flats = omega (arith, inside, count) in
      sym (flat_is k (get_or flats k no_flat) (slice_get-get_or flats k no_flat long) (ordered k no_flat long) inside scoped)))
