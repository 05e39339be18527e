-- Columns that are made of the entries of blocks can be written, and agree, whatever made them.
use Rattle.std.proofs.Common.{◌≡◌, ℕ, ◌+◌, ◌-◌, ◌<◌, ◌^◌, List, [], ◌∷◌, length, map, get_or, slice_get, Option, Some, Contains, FitsSigned, w64, refl, sym, ap, subst, ◌∙◌, arith}
use Rattle.std.specs.Cmp.Lexicographic.{slice_cmp}
use Rattle.std.specs.List.{All, AllByRecursion}
use Rattle.std.specs.Ordering.{int_cmp, nat_cmp}
use Rattle.std.proofs.lemmas.List.{length-map}
use Rattle.std.proofs.lemmas.List.Elements.{All-from_recursion, recursion_from_All}
use Rattle.std.proofs.lemmas.Option.{slice_get_within}
use Rattle.doc_values.specs.Stands.{IsColumn}
use Rattle.doc_values.specs.Values.{AreValues, IsOrdinal}
use Rattle.flattener.specs.Block.{BlockState}
use Rattle.mapping.specs.Mapping.{Mapping}
use Rattle.segment.specs.Agree.{AreColumns}
use Rattle.segment.specs.Fields.{AreByField}
use Rattle.segment.specs.Flat.{FlatDocument, flat_root}
use Rattle.segment.specs.Lists.{terms_of}
use Rattle.segment.specs.Parts.{IsNumberColumn, IsOrdinalColumn, IsPresence}
use Rattle.segment_parts.specs.declared.columns.Columns.{Columns}
use Rattle.term_table.specs.Part.{AreRows}
use Rattle.term_table.specs.Terms.{AreAscending}
use Rattle.segment_builder.specs.Columns.{column_terms, named, named_group, named_row, row_terms, IsKeywordColumn}
use Rattle.segment_builder.specs.Entries.{EntriesState, flats_in, no_entries, with_blocks}
use Rattle.segment_builder.specs.Given.{AreGiven}
use Rattle.segment_builder.specs.Made.{IsMade, all_terms}
use Rattle.segment_builder.specs.Taken.{AreTextEntries, AreValueEntries}
use Rattle.segment_builder.proofs.Agreed.{keywords_found}
use Rattle.segment_builder.proofs.Agreeing.{EndsSo, all_written, apart_of, columns_agree, few_documents, fit_roots, kinds_of, scopes_below, some_documents}
use Rattle.segment_builder.proofs.Among.{each_along}
use Rattle.segment_builder.proofs.Columned.{column_list, presence_list, rows_are}
use Rattle.segment_builder.proofs.Onced.{KeysAreOrdered}
use Rattle.segment_builder.proofs.Parted.{count}
use Rattle.segment_builder.proofs.Ranks.{columns_again, entries_again, keyword_columns, ordinals_are}
use Rattle.segment_builder.proofs.Stored.{roots_fit}
use Rattle.segment_builder.proofs.Taking.{keyword_entries, number_entries, term_entries, text_entries}

-- ---- ordinals of terms that are there

one_of_terms : (terms : List (ℕ × List ℕ)) (field : ℕ) (ordinals : List ℕ) (values : List (List ℕ)) → map (slice_get terms) ordinals ≡ named field values → AllByRecursion (λ ordinal. ordinal < length terms) ordinals
one_of_terms terms field ordinals values same =
    each_along (slice_get terms) (λ bytes. Some (field, bytes)) (λ bytes. Unit {0}) (λ ordinal. ordinal < length terms)
    (λ ordinal bytes is _. slice_get_within terms ordinal (field, bytes) is) ordinals values same (all_units values)
  where
    all_units : (xs : List (List ℕ)) → AllByRecursion (λ bytes. Unit {0}) xs
    all_units [] = tt
    all_units (x ∷ xs) = (tt, all_units xs)

module _ (terms : List (ℕ × List ℕ)) (up : AreAscending terms) (few : length terms < 2 ^ 64) where
  row_fits : (field : ℕ) (row : ℕ × List ℕ) (own : ℕ × List (List ℕ)) → row_terms terms row ≡ named_row field own → AreValues (slice_cmp nat_cmp) own.1 → AreValues nat_cmp row.1 × All IsOrdinal row.1
  row_fits field row own same are =
      let values : map (slice_get terms) row.1 ≡ named field own.1 = ap (λ (r : ℕ × List (Option (ℕ × List ℕ))). r.1) same in (
        ordinals_are terms field row.1 own.1 up values are,
        (λ k d h.
            let below : get_or row.1 k d < length terms = All-from_recursion (λ ordinal. ordinal < length terms) row.1 (one_of_terms terms field row.1 own.1 values) k d h in
            omega (arith, below, few)),
      )

  column_fits : (column : ℕ × List (ℕ × List ℕ)) (group : ℕ × List (ℕ × List (List ℕ))) → column_terms terms column ≡ named_group group → IsKeywordColumn terms group → IsColumn nat_cmp IsOrdinal column
  column_fits column group same is =
      let field : column.0 ≡ group.0 = ap (λ (c : ℕ × List (ℕ × List (Option (ℕ × List ℕ)))). c.0) same in
      let rows : map (row_terms terms) column.1 ≡ map (named_row group.0) group.1 = ap (λ (c : ℕ × List (ℕ × List (Option (ℕ × List ℕ)))). c.1) same in
      record {
        field = omega (arith, field, is.field);
        entries =
            entries_again terms group.0 column.1 group.1 rows is
            (All-from_recursion (λ (row : ℕ × List ℕ). AreValues nat_cmp row.1 × All IsOrdinal row.1) column.1
            (each_along (row_terms terms) (named_row group.0) (λ (own : ℕ × List (List ℕ)). AreValues (slice_cmp nat_cmp) own.1) (λ (row : ℕ × List ℕ). AreValues nat_cmp row.1 × All IsOrdinal row.1) (row_fits group.0) column.1 group.1 rows
            (recursion_from_All (λ (own : ℕ × List (List ℕ)). AreValues (slice_cmp nat_cmp) own.1) group.1 is.entries.rows_are.valued)));
      }

  columns_fit : (columns : List (ℕ × List (ℕ × List ℕ))) (groups : List (ℕ × List (ℕ × List (List ℕ)))) → map (column_terms terms) columns ≡ map named_group groups → All (IsKeywordColumn terms) groups → All (IsColumn nat_cmp IsOrdinal) columns
  columns_fit columns groups same are =
      All-from_recursion (IsColumn nat_cmp IsOrdinal) columns (each_along (column_terms terms) named_group (IsKeywordColumn terms) (IsColumn nat_cmp IsOrdinal) column_fits columns groups same (recursion_from_All (IsKeywordColumn terms) groups are))

-- ---- all of it

some_flats : (flats : List FlatDocument) → EndsSo flats → 0 < length flats
some_flats [] ends = absurd ends
some_flats (flat ∷ flats) ends = omega arith

module _ (law : KeysAreOrdered) (m : Mapping) (blocks : List BlockState) (columns : Columns) (given : AreGiven m blocks) (made : IsMade (with_blocks no_entries blocks) columns) (few : length columns.terms < 2 ^ 64) where
  abbrev it : EntriesState
  it = with_blocks no_entries blocks

  abbrev count_of : ℕ
  count_of = length (flats_in blocks)

  many : count_of ≡ columns.documents
  many = sym (made.documents ∙ count it blocks refl)

  terms_fit : AreRows columns.terms
  terms_fit =
      rows_are count_of (all_terms it) (term_entries (kinds_of m) it blocks refl (all_written m blocks given) (apart_of m) law given.numbered.fields (few_documents m blocks given)) columns.terms few made.rows

  numbers_fit : AreByField IsNumberColumn columns.numbers
  numbers_fit = column_list int_cmp (FitsSigned w64) count_of it.numbers (number_entries (kinds_of m) it blocks refl (all_written m blocks given) given.numbered.fields (few_documents m blocks given)) columns.numbers made.numbers

  keywords_fit : AreValueEntries (slice_cmp nat_cmp) (λ field bytes. Contains (terms_of columns) (field, bytes)) count_of it.keywords
  keywords_fit = keyword_entries (kinds_of m) it blocks refl (all_written m blocks given) (terms_of columns) (keywords_found it columns.terms made.rows) given.numbered.fields (few_documents m blocks given)

  ordinals_fit : AreByField IsOrdinalColumn columns.ordinals
  ordinals_fit =
      columns_again (terms_of columns) count_of it.keywords keywords_fit made.keywords made.keyword_groups columns.ordinals made.ordinals
      (columns_fit (terms_of columns) terms_fit.ascending (omega (arith, few, length-map columns.terms (λ row. row.term))) columns.ordinals made.keywords made.ordinals (keyword_columns (terms_of columns) count_of it.keywords keywords_fit made.keywords made.keyword_groups))

  present_fit : AreByField (IsPresence columns.documents) columns.present
  present_fit =
      let fit : AreTextEntries columns.documents it.texts = subst (λ n. AreTextEntries n it.texts) many (text_entries (kinds_of m) it blocks refl (all_written m blocks given) given.numbered.fields) in
      subst (AreByField (IsPresence columns.documents)) (sym made.present) (presence_list columns.documents it.texts fit made.texts made.text_groups)

  scopes_fit : length columns.scopes < 2 ^ 32
  scopes_fit =
      let some : 0 < length it.scopes = omega (arith, count it blocks refl, some_flats (flats_in blocks) (some_documents m blocks given)) in
      let there : Contains it.scopes (length columns.scopes - 1) = made.greatest some in
      let below : get_or it.scopes there.0 (length columns.scopes - 1) + 1 < 2 ^ 32 = scopes_below m it blocks refl given there.0 (length columns.scopes - 1) there.1 in
      omega (arith, below, there.2)

  pub made_agree : map flat_root columns.roots ≡ map (λ (block : BlockState). block.root) blocks → AreColumns columns
  made_agree roots = columns_agree m blocks it columns given refl made roots (roots_fit columns.roots _ roots (fit_roots m blocks given)) terms_fit ordinals_fit numbers_fit present_fit scopes_fit
