-- Words among all terms: keywords and numbers have no positions. Ordinals by the bytes of their terms.
use Rattle.std.proofs.Common.{◌≡◌, ℕ, ℤ, ◌==◌, List, [], ◌∷◌, ◌++◌, map, nat_lt, slice_get, Option, Some, refl, ap, ◌∙◌}
use Rattle.std.proofs.lemmas.List.{length-map}
use Rattle.std.specs.List.{AllByRecursion, filter}
use Rattle.std.specs.Ordering.{nat_cmp, eq_by_cmp}
use Rattle.doc_values.specs.Values.{values_of}
use Rattle.segment.specs.Flat.{has_some, bytes_at}
use Rattle.term_table.specs.Keys.{number_key}
use Rattle.term_table.specs.Terms.{term_cmp}
use Rattle.segment_builder.specs.Columns.{column_terms, row_terms, named_row, named_group}
use Rattle.segment_builder.specs.Groups.{of_key}
use Rattle.segment_builder.specs.Terms.{terms_at, once, keyword_terms, number_terms}
use Rattle.segment_builder.proofs.Among.{map_along}
use Rattle.segment_builder.proofs.Found.{bytes_from}
use Rattle.segment_builder.proofs.Keys.{split}
use Rattle.segment_builder.proofs.Grown.{of_append}
use Rattle.segment_builder.proofs.Merged.{at_document}
use Rattle.segment_builder.proofs.Orders.{nat_order, pair_same}

abbrev pub Empty : List (ℕ × List ℕ) → Type 0
Empty rows = AllByRecursion (λ (row : ℕ × List ℕ). row.1 ≡ []) rows

empty_both : (xs ys : List (ℕ × List ℕ)) → Empty xs → Empty ys → Empty (xs ++ ys)
empty_both [] ys one two = two
empty_both (x ∷ xs) ys one two = (one.0, empty_both xs ys one.1 two)

pub no_values : (d : ℕ) (rows : List (ℕ × List ℕ)) → Empty rows → values_of d rows ≡ []
no_values d [] none = refl
no_values d (row ∷ rows) none =
    split (row.0 == d)
    (λ is. rw is none.0)
    (λ isnt. rw isnt (no_values d rows none.1))

pub values_first : (d : ℕ) (xs ys : List (ℕ × List ℕ)) → Empty ys → values_of d (xs ++ ys) ≡ values_of d xs
values_first d [] ys none = no_values d ys none
values_first d (x ∷ xs) ys none =
    split (x.0 == d)
    (λ is. rw is refl)
    (λ isnt. rw isnt (values_first d xs ys none))

terms_empty : (key : ℕ × List ℕ) (field doc : ℕ) (values : List (List ℕ)) → Empty (of_key term_cmp key (terms_at field doc values))
terms_empty key field doc [] = tt
terms_empty key field doc (value ∷ values) =
    split (eq_by_cmp term_cmp key (field, value))
    (λ is. rw is (refl, terms_empty key field doc values))
    (λ isnt. rw isnt (terms_empty key field doc values))

pub keywords_empty : (key : ℕ × List ℕ) (entries : List (ℕ × (ℕ × List (List ℕ)))) → Empty (of_key term_cmp key (keyword_terms entries))
keywords_empty key [] = tt
keywords_empty key (entry ∷ entries) =
    rw (of_append term_cmp key (terms_at entry.0 entry.1.0 (once entry.1.1)) (keyword_terms entries))
    (empty_both (of_key term_cmp key (terms_at entry.0 entry.1.0 (once entry.1.1))) (of_key term_cmp key (keyword_terms entries)) (terms_empty key entry.0 entry.1.0 (once entry.1.1)) (keywords_empty key entries))

pub numbers_empty : (key : ℕ × List ℕ) (entries : List (ℕ × (ℕ × List ℤ))) → Empty (of_key term_cmp key (number_terms entries))
numbers_empty key [] = tt
numbers_empty key (entry ∷ entries) =
    rw (of_append term_cmp key (terms_at entry.0 entry.1.0 (once (map number_key entry.1.1))) (number_terms entries))
    (empty_both (of_key term_cmp key (terms_at entry.0 entry.1.0 (once (map number_key entry.1.1)))) (of_key term_cmp key (number_terms entries)) (terms_empty key entry.0 entry.1.0 (once (map number_key entry.1.1))) (numbers_empty key entries))

-- ---- ordinals

-- a row and a column of ordinals by the bytes of their terms
abbrev pub row_bytes : List (ℕ × List ℕ) → ℕ × List ℕ → ℕ × List (List ℕ)
row_bytes terms row = (row.0, map (bytes_at terms) row.1)

abbrev pub column_bytes : List (ℕ × List ℕ) → ℕ × List (ℕ × List ℕ) → ℕ × List (ℕ × List (List ℕ))
column_bytes terms column = (column.0, map (row_bytes terms) column.1)

row_again : (terms : List (ℕ × List ℕ)) (field : ℕ) (row : ℕ × List ℕ) (own : ℕ × List (List ℕ)) → row_terms terms row ≡ named_row field own → row_bytes terms row ≡ own
row_again terms field row own same =
    pair_same (row_bytes terms row) own (ap (λ (r : ℕ × List (Option (ℕ × List ℕ))). r.0) same)
    (map_along (slice_get terms) (λ (bytes : List ℕ). Some (field, bytes)) (bytes_at terms) (λ ordinal bytes there. bytes_from terms ordinal field bytes there) row.1 own.1 (ap (λ (r : ℕ × List (Option (ℕ × List ℕ))). r.1) same))

column_again : (terms : List (ℕ × List ℕ)) (column : ℕ × List (ℕ × List ℕ)) (group : ℕ × List (ℕ × List (List ℕ))) → column_terms terms column ≡ named_group group → column_bytes terms column ≡ group
column_again terms column group same =
    pair_same (column_bytes terms column) group (ap (λ (c : ℕ × List (ℕ × List (Option (ℕ × List ℕ)))). c.0) same)
    (map_along (row_terms terms) (named_row group.0) (row_bytes terms) (λ row own there. row_again terms group.0 row own there) column.1 group.1 (ap (λ (c : ℕ × List (ℕ × List (Option (ℕ × List ℕ)))). c.1) same))

-- ordinals whose terms are keywords are these by their bytes
pub bytes_again : (terms : List (ℕ × List ℕ)) (columns : List (ℕ × List (ℕ × List ℕ))) (groups : List (ℕ × List (ℕ × List (List ℕ)))) → map (column_terms terms) columns ≡ map named_group groups → map (column_bytes terms) columns ≡ groups
bytes_again terms columns groups same = map_along (column_terms terms) named_group (column_bytes terms) (λ column group there. column_again terms column group there) columns groups same

bytes_of_values : (terms : List (ℕ × List ℕ)) (d : ℕ) (rows : List (ℕ × List ℕ)) → values_of d (map (row_bytes terms) rows) ≡ map (bytes_at terms) (values_of d rows)
bytes_of_values terms d [] = refl
bytes_of_values terms d (row ∷ rows) =
    split (row.0 == d)
    (λ is. rw is refl)
    (λ isnt. rw isnt (bytes_of_values terms d rows))

pub keywords_at : (terms : List (ℕ × List ℕ)) (d : ℕ) (columns : List (ℕ × List (ℕ × List ℕ)))
    → map (λ (pair : ℕ × List ℕ). (pair.0, map (bytes_at terms) pair.1)) (filter has_some (map (λ (column : ℕ × List (ℕ × List ℕ)). (column.0, values_of d column.1)) columns))
    ≡ at_document nat_cmp nat_order d (map (column_bytes terms) columns)
keywords_at terms d [] = refl
keywords_at terms d (column ∷ columns) =
    let bytes : values_of d (map (row_bytes terms) column.1) ≡ map (bytes_at terms) (values_of d column.1) = bytes_of_values terms d column.1 in
    let long : has_some (column.0, map (bytes_at terms) (values_of d column.1)) ≡ has_some (column.0, values_of d column.1) = ap (λ n. nat_lt 0 n) (length-map (values_of d column.1) (bytes_at terms)) in
    rw bytes
    (split (has_some (column.0, values_of d column.1))
    (λ is. rw (is, long ∙ is) (ap (λ rest. (column.0, map (bytes_at terms) (values_of d column.1)) ∷ rest) (keywords_at terms d columns)))
    (λ isnt. rw (isnt, long ∙ isnt) (keywords_at terms d columns)))
