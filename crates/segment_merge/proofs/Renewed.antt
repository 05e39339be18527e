-- What columns say whose values are written again: the same numbers, and the same terms at new ordinals.
use Rattle.std.proofs.Common.{◌≡◌, ℕ, ℤ, zero, suc, ◌<◌, Bool, true, false, List, [], ◌∷◌, ◌++◌, length, map, slice_get, drop, Option, Some, refl, sym, ap, ◌∙◌, arith}
use Rattle.std.specs.Prelude.{slice_index_or, Contains}
use Rattle.std.specs.List.{All}
use Rattle.std.proofs.lemmas.List.{map-append}
use Rattle.std.proofs.lemmas.List.Elements.{All-head, All-tail}
use Rattle.postings.specs.Postings.{documents}
use Rattle.segment_builder.specs.Columns.{column_terms, row_terms}
use Rattle.segment_parts.specs.Agree.{AreColumns, HaveOrdinals, IsOrdinalAt}
use Rattle.segment_parts.specs.Lists.{postings_of, terms_of}
use Rattle.term_table.specs.declared.rows.TermRow.{TermRow}
use Rattle.segment_merge.specs.Merged.{kept, kept_columns, renumbered}
use Rattle.segment_merge.specs.Numbering.{PartState}
use Rattle.segment_merge.specs.Pieces.{as_it_is, columns_in, columns_of_parts, first_list, from_parts, renewed_ordinal, number_columns, ordinal_columns, part_keywords, part_numbers, with_values, AreRenewed}
use Rattle.segment_merge.specs.TermRefs.{AreNew}
use Rattle.segment_merge.proofs.Gathering.{split}

-- ---- numbers are the same

same_values : {X : Type 0} (values : List X) → map (λ value. value) values ≡ values
same_values [] = refl
same_values (value ∷ values) = ap (λ rest. value ∷ rest) (same_values values)

same_rows : {X : Type 0} (rows : List (ℕ × List X)) → with_values (λ value. value) rows ≡ rows
same_rows [] = refl
same_rows {X} (row ∷ rows) =
    ap (λ (values : List X). (row.0, values) ∷ with_values (λ value. value) rows) (same_values row.1) ∙ ap (λ (rest : List (ℕ × List X)). row ∷ rest) (same_rows rows)

same_columns : (list : List ℕ) (part : PartState) (columns : List (ℕ × List (ℕ × List ℤ))) → columns_in (as_it_is list) part columns ≡ kept_columns part.base part.entry.live.docs columns
same_columns list part [] = refl
same_columns list part (column ∷ columns) =
    let rest = columns_in (as_it_is list) part columns in
    ap (λ (rows : List (ℕ × List ℤ)). (column.0, rows) ∷ rest) (same_rows (kept part.base part.entry.live.docs column.1))
    ∙ ap (λ (more : List (ℕ × List (ℕ × List ℤ))). (column.0, kept part.base part.entry.live.docs column.1) ∷ more) (same_columns list part columns)

pub same_numbers : (parts : List PartState) (lists : List (List ℕ)) → columns_of_parts number_columns as_it_is parts lists ≡ from_parts part_numbers parts
same_numbers [] lists = refl
same_numbers (part ∷ parts) lists =
    ap (λ (first : List (ℕ × List (ℕ × List ℤ))). first ++ columns_of_parts number_columns as_it_is parts (drop 1 lists)) (same_columns (first_list lists) part part.entry.columns.numbers)
    ∙ ap (λ (rest : List (ℕ × List (ℕ × List ℤ))). part_numbers part ++ rest) (same_numbers parts (drop 1 lists))

-- ---- new ordinals are of the same terms

module _ (terms old : List (ℕ × List ℕ)) (postings : List (List (ℕ × List ℕ))) (live : List Bool) (base : ℕ) (ordinals : List ℕ)
    (news : (ordinal doc : ℕ) → Contains (documents (slice_index_or postings ordinal [])) doc → slice_index_or live doc false ≡ true → slice_get terms (slice_index_or ordinals ordinal 0) ≡ slice_get old ordinal) where
  values_again : (field doc : ℕ) (values : List ℕ) → slice_index_or live doc false ≡ true → All (λ ordinal. IsOrdinalAt old postings field doc ordinal) values
      → map (slice_get terms) (map (renewed_ordinal ordinals) values) ≡ map (slice_get old) values
  values_again field doc [] is all = refl
  values_again field doc (value ∷ values) is all =
      let here : slice_get terms (slice_index_or ordinals value 0) ≡ slice_get old value = news value doc (All-head (λ ordinal. IsOrdinalAt old postings field doc ordinal) value values all).posted is in
      ap (λ (one : Option (ℕ × List ℕ)). one ∷ map (slice_get terms) (map (renewed_ordinal ordinals) values)) here
      ∙ ap (λ (rest : List (Option (ℕ × List ℕ))). slice_get old value ∷ rest) (values_again field doc values is (All-tail (λ ordinal. IsOrdinalAt old postings field doc ordinal) value values all))

  rows_again : (field : ℕ) (rows : List (ℕ × List ℕ)) → All (λ (row : ℕ × List ℕ). All (λ ordinal. IsOrdinalAt old postings field row.0 ordinal) row.1) rows
      → map (row_terms terms) (with_values (renewed_ordinal ordinals) (kept base live rows)) ≡ kept base live (map (row_terms old) rows)
  rows_again field [] all = refl
  rows_again field (row ∷ rows) all =
      let own = All-head (λ (other : ℕ × List ℕ). All (λ ordinal. IsOrdinalAt old postings field other.0 ordinal) other.1) row rows all in
      let rest = rows_again field rows (All-tail (λ (other : ℕ × List ℕ). All (λ ordinal. IsOrdinalAt old postings field other.0 ordinal) other.1) row rows all) in
      split (slice_index_or live row.0 false)
      (λ is.
      rw is
      (ap (λ (values : List (Option (ℕ × List ℕ))). (renumbered base live row.0, values) ∷ map (row_terms terms) (with_values (renewed_ordinal ordinals) (kept base live rows))) (values_again field row.0 row.1 is own)
      ∙ ap (λ (more : List (ℕ × List (Option (ℕ × List ℕ)))). (renumbered base live row.0, map (slice_get old) row.1) ∷ more) rest))
      (λ isnt. rw isnt rest)

  columns_again : (columns : List (ℕ × List (ℕ × List ℕ))) → All (HaveOrdinals old postings) columns
      → map (column_terms terms) (map (λ (column : ℕ × List (ℕ × List ℕ)). (column.0, with_values (renewed_ordinal ordinals) (kept base live column.1))) columns) ≡ kept_columns base live (map (column_terms old) columns)
  columns_again [] all = refl
  columns_again (column ∷ columns) all =
      let rest = map (column_terms terms) (map (λ (other : ℕ × List (ℕ × List ℕ)). (other.0, with_values (renewed_ordinal ordinals) (kept base live other.1))) columns) in
      ap (λ (rows : List (ℕ × List (Option (ℕ × List ℕ)))). (column.0, rows) ∷ rest) (rows_again column.0 column.1 (All-head (HaveOrdinals old postings) column columns all))
      ∙ ap (λ (more : List (ℕ × List (ℕ × List (Option (ℕ × List ℕ))))). (column.0, kept base live (map (row_terms old) column.1)) ∷ more) (columns_again columns (All-tail (HaveOrdinals old postings) column columns all))

pub same_keywords : (terms : List (ℕ × List ℕ)) (parts : List PartState) (lists : List (List ℕ)) → AreRenewed terms parts lists → All (λ (part : PartState). AreColumns part.entry.columns) parts
    → map (column_terms terms) (columns_of_parts ordinal_columns renewed_ordinal parts lists) ≡ from_parts part_keywords parts
same_keywords terms [] lists news agree = refl
same_keywords terms (part ∷ parts) lists news agree =
    let own = part.entry.columns in
    let first = columns_in (renewed_ordinal (first_list lists)) part own.ordinals in
    let rest = columns_of_parts ordinal_columns renewed_ordinal parts (drop 1 lists) in
    let columns : AreColumns own = All-head (λ (other : PartState). AreColumns other.entry.columns) part parts agree in
    map-append (column_terms terms) first rest
    ∙ ap (λ (xs : List (ℕ × List (ℕ × List (Option (ℕ × List ℕ))))). xs ++ map (column_terms terms) rest)
    (columns_again terms (terms_of own) (postings_of own) part.entry.live.docs part.base (first_list lists) news.0.same own.ordinals columns.terms.ordinals)
    ∙ ap (λ (xs : List (ℕ × List (ℕ × List (Option (ℕ × List ℕ))))). part_keywords part ++ xs) (same_keywords terms parts (drop 1 lists) news.1 (All-tail (λ (other : PartState). AreColumns other.entry.columns) part parts agree))

-- ---- from the new ordinals of all parts those of each

-- an ordinal with a document is that of a term
term_posted : (rows : List TermRow) (ordinal doc : ℕ) → Contains (documents (slice_index_or (map (λ (row : TermRow). row.postings) rows) ordinal [])) doc → (term : ℕ × List ℕ) × (slice_get (map (λ (row : TermRow). row.term) rows) ordinal ≡ Some term)
term_posted [] zero doc has = absurd (omega (arith, has.1))
term_posted [] (suc ordinal) doc has = absurd (omega (arith, has.1))
term_posted (row ∷ rows) zero doc has = (row.term, refl)
term_posted (row ∷ rows) (suc ordinal) doc has = term_posted rows ordinal doc has

-- and one with a live document keeps it
live_kept : (base : ℕ) (live : List Bool) (postings : List (ℕ × List ℕ)) (k doc : ℕ) → k < length (documents postings) → slice_index_or (documents postings) k doc ≡ doc → slice_index_or live doc false ≡ true → 0 < length (kept base live postings)
live_kept base live [] k doc below is alive = absurd (omega (arith, below))
live_kept base live (posting ∷ postings) zero doc below is alive =
    let here : slice_index_or live posting.0 false ≡ true = ap (λ d. slice_index_or live d false) is ∙ alive in
    rw here (omega arith)
live_kept base live (posting ∷ postings) (suc k) doc below is alive =
    let rest : 0 < length (kept base live postings) = live_kept base live postings k doc (omega (arith, below)) is alive in
    split (slice_index_or live posting.0 false)
    (λ yes. rw yes (omega arith))
    (λ no. rw no rest)

news_behind : (terms : List (ℕ × List ℕ)) (part : PartState) (parts : List PartState) (lists : List (List ℕ)) → AreNew (part ∷ parts) terms lists → AreNew parts terms (drop 1 lists)
news_behind terms part parts [] news = absurd (omega (arith, news.long))
news_behind terms part parts (list ∷ lists) news = record {
  long = omega (arith, news.long);
  each_long = λ place other is. news.each_long (suc place) other is;
  same = λ place other ordinal term is of some. news.same (suc place) other ordinal term is of some;
}

pub renewed : (terms : List (ℕ × List ℕ)) (parts : List PartState) (lists : List (List ℕ)) → AreNew parts terms lists → AreRenewed terms parts lists
renewed terms [] lists news = tt
renewed terms (part ∷ parts) lists news = (
  record {
    same = λ ordinal doc has alive.
        let term = term_posted part.entry.columns.terms ordinal doc has in
        let some = live_kept part.base part.entry.live.docs (slice_index_or (postings_of part.entry.columns) ordinal []) has.0 doc has.1 has.2 alive in
        news.same 0 part ordinal term.0 refl term.1 some ∙ sym term.1;
  },
  renewed terms parts (drop 1 lists) (news_behind terms part parts lists news),
)
