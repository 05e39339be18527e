-- What the documents of blocks carry can be written, and parts that were written are a segment's text.
use Rattle.std.proofs.Common.{◌≡◌, ℕ, ℤ, ◌+◌, ◌<◌, ◌^◌, true, List, [], ◌++◌, length, map, Contains, FitsSigned, w64, refl, ap, ◌∙◌, append_assoc}
use Rattle.std.specs.Cmp.Lexicographic.{slice_cmp}
use Rattle.std.specs.List.{All}
use Rattle.std.specs.Ordering.{int_cmp, nat_cmp}
use Rattle.flattener.specs.Block.{BlockState}
use Rattle.flattener.specs.Flat.{has_numbers, is_keyword, is_text}
use Rattle.mapping.specs.Mapping.{Mapping, kind_at}
use Rattle.segment_parts.specs.Text.{head_text, rows_part, ordinals_text, numbers_text, present_text, segment_text}
use Rattle.segment_parts.specs.Whole.{all_written}
use Rattle.segment_parts.specs.declared.columns.Columns.{Columns}
use Rattle.stored_sources.specs.Text.{roots_text}
use Rattle.term_table.specs.Part.{rows_text}
use Rattle.term_table.specs.Terms.{term_cmp}
use Rattle.term_table.specs.declared.rows.TermRow.{TermRow}
use Rattle.segment_builder.specs.Columns.{terms_in}
use Rattle.segment_builder.specs.Entries.{EntriesState, flats_in, no_entries, with_blocks}
use Rattle.segment_builder.specs.Given.{AreGiven}
use Rattle.segment_builder.specs.Groups.{AreGroups}
use Rattle.segment_builder.specs.Lists.{AreFieldsApart}
use Rattle.segment_builder.specs.Made.{all_terms}
use Rattle.segment_builder.specs.Taken.{AreTermEntries, AreTextEntries, AreValueEntries}
use Rattle.segment_builder.specs.Terms.{row_group}
use Rattle.segment_builder.proofs.Agreed.{keywords_found}
use Rattle.segment_builder.proofs.Agreeing.{apart_of, few_documents, kinds_of, scopes_below}
use Rattle.segment_builder.proofs.Agreeing.{all_written as written}
use Rattle.segment_builder.proofs.Onced.{KeysAreOrdered}
use Rattle.segment_builder.proofs.Parted.{count}
use Rattle.segment_builder.proofs.Taking.{keyword_each, keyword_entries, number_each, number_entries, term_entries, text_entries, words_kind}

module _ (m : Mapping) (blocks : List BlockState) (given : AreGiven m blocks) where
  abbrev it : EntriesState
  it = with_blocks no_entries blocks

  pub scopes_fit : All (λ scope. scope + 1 < 2 ^ 32) it.scopes
  scopes_fit = scopes_below m it blocks refl given

  pub scope_count : length it.scopes ≡ length (flats_in blocks)
  scope_count = count it blocks refl

  pub terms_fit : KeysAreOrdered → AreTermEntries (length (flats_in blocks)) (all_terms it)
  terms_fit law = term_entries (kinds_of m) it blocks refl (written m blocks given) (apart_of m) law given.numbered.fields (few_documents m blocks given)

  pub fields_apart : AreFieldsApart it
  fields_apart = record {
    is_word = λ f. is_text (kind_at m f);
    is_keyword = λ f. is_keyword (kind_at m f);
    is_number = λ f. has_numbers (kind_at m f);
    words_are = words_kind (kinds_of m) it blocks refl (written m blocks given);
    keywords_are = keyword_each (kinds_of m) it blocks refl (written m blocks given) (λ (entry : ℕ × (ℕ × List (List ℕ))). is_keyword (kind_at m entry.0) ≡ true) (λ doc field values own. own.kind);
    numbers_are = number_each (kinds_of m) it blocks refl (written m blocks given) (λ (entry : ℕ × (ℕ × List ℤ)). has_numbers (kind_at m entry.0) ≡ true) (λ doc field values own. own.kind);
    words_alone = λ f is. ((apart_of m).word_key f is, (apart_of m).word_num f is);
    keywords_alone = λ f is. (apart_of m).key_num f is;
  }

  pub numbers_fit : AreValueEntries int_cmp (λ field number. FitsSigned w64 number) (length (flats_in blocks)) it.numbers
  numbers_fit = number_entries (kinds_of m) it blocks refl (written m blocks given) given.numbered.fields (few_documents m blocks given)

  pub keywords_fit : (rows : List TermRow) → AreGroups term_cmp (all_terms it) (map row_group rows) → AreValueEntries (slice_cmp nat_cmp) (λ field bytes. Contains (terms_in rows) (field, bytes)) (length (flats_in blocks)) it.keywords
  keywords_fit rows groups = keyword_entries (kinds_of m) it blocks refl (written m blocks given) (terms_in rows) (keywords_found it rows groups) given.numbered.fields (few_documents m blocks given)

  pub texts_fit : AreTextEntries (length (flats_in blocks)) it.texts
  texts_fit = text_entries (kinds_of m) it blocks refl (written m blocks given) given.numbered.fields

-- the text, part behind part
pub all_put : (columns : Columns) (none one two three four five six : List ℕ) → none ≡ [] → one ≡ none ++ head_text columns.documents columns.scopes → two ≡ one ++ roots_text columns.roots → three ≡ two ++ rows_text columns.terms
    → four ≡ three ++ ordinals_text columns.ordinals → five ≡ four ++ numbers_text columns.numbers → six ≡ five ++ present_text columns.present → six ≡ segment_text columns
unfolding rows_part
all_put columns none one two three four five six start head roots rows ordinals numbers present =
    let behind : three ≡ one ++ rows_part columns = rows ∙ ap (λ (front : List ℕ). front ++ rows_text columns.terms) roots ∙ append_assoc one (roots_text columns.roots) (rows_text columns.terms) in
    all_written columns none one three four five six start head behind ordinals numbers present
