-- Ordinals of keywords ascend as the keywords do, and make columns that can be written.
use Rattle.std.proofs.Common.{◌≡◌, ℕ, ◌+◌, ◌<◌, ◌^◌, true, false, List, [], length, map, get_or, slice_get, Option, Some, Contains, refl, sym, ap, subst, ◌∙◌, arith}
use Rattle.std.specs.Cmp.Lexicographic.{slice_cmp}
use Rattle.std.specs.List.{All}
use Rattle.std.specs.List.Sorted.{IsSorted, IsStrictlyIncreasing}
use Rattle.std.specs.Ordering.{is_lt, nat_cmp}
use Rattle.std.specs.declared.cmp.Ordering.{Ordering}
use Rattle.std.specs.declared.cmp.Ordering.TheVariants.{Less, Equal, Greater}
use Rattle.std.proofs.lemmas.List.{get_or-map, length-map}
use Rattle.std.proofs.lemmas.List.Elements.{All-from_recursion, recursion_from_All}
use Rattle.std.proofs.lemmas.Map.Keys.{Less-from_sorted}
use Rattle.std.proofs.lemmas.Option.{get_or_from_slice_get, same_Some, slice_get-get_or, slice_get_within}
use Rattle.doc_values.specs.Stands.{AreEntries, IsColumn}
use Rattle.doc_values.specs.Values.{AreValues, IsOrdinal, documents}
use Rattle.segment.specs.Fields.{AreByField, fields}
use Rattle.smallvec.specs.SmallVec.{SmallVec}
use Rattle.term_table.specs.Terms.{AreAscending, term_cmp}
use Rattle.segment_builder.specs.Columns.{column_terms, named, named_group, named_row, row_terms, IsKeywordColumn}
use Rattle.segment_builder.specs.Entries.{bytes_lent}
use Rattle.segment_builder.specs.Groups.{AreGroups}
use Rattle.segment_builder.specs.Taken.{AreValueEntries}
use Rattle.segment_builder.proofs.Agreed.{at_map}
use Rattle.segment_builder.proofs.Among.{each_along}
use Rattle.segment_builder.proofs.Assembled.{map_twice}
use Rattle.segment_builder.proofs.Columned.{ascending_columns, columns_are, fewer_columns}
use Rattle.segment_builder.proofs.Keys.{split}
use Rattle.segment_builder.proofs.Rising.{less_from}
use Rattle.segment_builder.proofs.Sorted.{same_field}

long : {X Y Z : Type 0} (f : X → Z) (g : Y → Z) (xs : List X) (ys : List Y) → map f xs ≡ map g ys → length xs ≡ length ys
long f g xs ys same = sym (length-map xs f) ∙ ap length same ∙ length-map ys g

less_of : (a : Ordering) → is_lt a ≡ true → a ≡ Less
less_of Less h = refl
less_of Equal h = absurd (cc (h))
less_of Greater h = absurd (cc (h))

-- the term at an ordinal
term_of : (terms : List (ℕ × List ℕ)) (field : ℕ) (ordinals : List ℕ) (values : List (List ℕ)) (k d : ℕ) → map (slice_get terms) ordinals ≡ named field values → k < length ordinals → slice_get terms (get_or ordinals k d) ≡ Some (field, get_or values k [])
term_of terms field ordinals values k d same inside =
    let own : slice_get (map (slice_get terms) ordinals) k ≡ Some (slice_get terms (get_or ordinals k d)) = at_map (slice_get terms) ordinals k (get_or ordinals k d) (slice_get-get_or ordinals k d inside) in
    let within : k < length values = omega (arith, inside, long (slice_get terms) (λ bytes. Some (field, bytes)) ordinals values same) in
    let other : slice_get (named field values) k ≡ Some (Some (field, get_or values k [])) = at_map (λ bytes. Some (field, bytes)) values k (get_or values k []) (slice_get-get_or values k [] within) in
    same_Some (slice_get terms (get_or ordinals k d)) (Some (field, get_or values k [])) (sym own ∙ ap (λ xs. slice_get xs k) same ∙ other)

-- of two terms of a field the one with the smaller bytes stands in front
in_front : (terms : List (ℕ × List ℕ)) (field i j : ℕ) (one other : List ℕ) → AreAscending terms → slice_get terms i ≡ Some (field, one) → slice_get terms j ≡ Some (field, other) → i < j → slice_cmp nat_cmp one other ≡ Less
in_front terms field i j one other up first second less =
    let here : get_or terms i (field, one) ≡ (field, one) = get_or_from_slice_get terms i (field, one) (field, one) first in
    let there : get_or terms j (field, one) ≡ (field, other) = get_or_from_slice_get terms j (field, other) (field, one) second in
    let before : term_cmp (get_or terms i (field, one)) (get_or terms j (field, one)) ≡ Less = Less-from_sorted term_cmp terms i j (field, one) up less (slice_get_within terms j (field, other) second) in
    let as_terms : term_cmp (field, one) (field, other) ≡ Less = ap (λ t. term_cmp t (field, other)) (sym here) ∙ ap (term_cmp (get_or terms i (field, one))) (sym there) ∙ before in
    rw (same_field field) at as_terms

ordinals_up : (terms : List (ℕ × List ℕ)) (field : ℕ) (ordinals : List ℕ) (values : List (List ℕ)) → AreAscending terms → map (slice_get terms) ordinals ≡ named field values → IsSorted (slice_cmp nat_cmp) values → IsSorted nat_cmp ordinals
ordinals_up terms field ordinals values up same rise = λ k d low high.
    split (is_lt (nat_cmp (get_or ordinals (k + 1) d) (get_or ordinals k d)))
    (λ is. absurd (
    let less : get_or ordinals (k + 1) d < get_or ordinals k d = less_from (get_or ordinals (k + 1) d) (get_or ordinals k d) (less_of (nat_cmp (get_or ordinals (k + 1) d) (get_or ordinals k d)) is) in
    let before : slice_cmp nat_cmp (get_or values (k + 1) []) (get_or values k []) ≡ Less =
    in_front terms field (get_or ordinals (k + 1) d) (get_or ordinals k d) (get_or values (k + 1) []) (get_or values k []) up (term_of terms field ordinals values (k + 1) d same high) (term_of terms field ordinals values k d same (omega (arith, high))) less in
    let other : is_lt (slice_cmp nat_cmp (get_or values (k + 1) []) (get_or values k [])) ≡ false = rise k [] low (omega (arith, high, long (slice_get terms) (λ bytes. Some (field, bytes)) ordinals values same)) in
    let never : true ≡ false = sym (ap is_lt before) ∙ other in cc (never)))
    (λ isnt. isnt)

pub ordinals_are : (terms : List (ℕ × List ℕ)) (field : ℕ) (ordinals : List ℕ) (values : List (List ℕ)) → AreAscending terms → map (slice_get terms) ordinals ≡ named field values → AreValues (slice_cmp nat_cmp) values → AreValues nat_cmp ordinals
ordinals_are terms field ordinals values up same are =
    let count : length ordinals ≡ length values = long (slice_get terms) (λ bytes. Some (field, bytes)) ordinals values same in
    record {
      some = omega (arith, are.some, count);
      fewer = omega (arith, are.fewer, count);
      ascending = ordinals_up terms field ordinals values up same are.ascending;
    }

-- one of bytes that are lent
pub lent_at : (P : List ℕ → Type 0) (values : List (SmallVec ℕ)) (i : ℕ) (item : SmallVec ℕ) → i < length values → item ≡ get_or values i item → All P (bytes_lent values) → P item.items
lent_at P values i item inside is all =
    let count : i < length (bytes_lent values) = omega (arith, inside, length-map values (λ (bytes : SmallVec ℕ). bytes.items)) in
    let own : get_or (bytes_lent values) i [] ≡ (get_or values i item).items = get_or-map (λ (bytes : SmallVec ℕ). bytes.items) values i item [] inside in
    subst P (own ∙ ap (λ (bytes : SmallVec ℕ). bytes.items) (sym is)) (all i [] count)

-- ---- rows and columns

pub entries_again : (terms : List (ℕ × List ℕ)) (field : ℕ) (rows : List (ℕ × List ℕ)) (own : List (ℕ × List (List ℕ))) → map (row_terms terms) rows ≡ map (named_row field) own → IsKeywordColumn terms (field, own) → All (λ (row : ℕ × List ℕ). AreValues nat_cmp row.1 × All IsOrdinal row.1) rows → AreEntries nat_cmp IsOrdinal rows
entries_again terms field rows own same column are =
    let count : length rows ≡ length own = long (row_terms terms) (named_row field) rows own same in
    let docs : documents rows ≡ documents own = sym (map_twice (λ (row : ℕ × List (Option (ℕ × List ℕ))). row.0) (row_terms terms) rows) ∙ ap (map (λ (row : ℕ × List (Option (ℕ × List ℕ))). row.0)) same ∙ map_twice (λ (row : ℕ × List (Option (ℕ × List ℕ))). row.0) (named_row field) own in
    record {
      some = omega (arith, column.entries.some, count);
      rows_are = record {
        fewer = omega (arith, column.entries.rows_are.fewer, count);
        ascending = subst IsStrictlyIncreasing (sym docs) column.entries.rows_are.ascending;
        valued = λ k d h. (are k d h).0;
      };
      numbered =
          All-from_recursion (λ (row : ℕ × List ℕ). row.0 < 2 ^ 32) rows
          (each_along (row_terms terms) (named_row field) (λ (row : ℕ × List (List ℕ)). row.0 < 2 ^ 32) (λ (row : ℕ × List ℕ). row.0 < 2 ^ 32)
          (λ row other both below. subst (λ doc. doc < 2 ^ 32) (sym (ap (λ (r : ℕ × List (Option (ℕ × List ℕ))). r.0) both)) below) rows own same
          (recursion_from_All (λ (row : ℕ × List (List ℕ)). row.0 < 2 ^ 32) own column.entries.numbered));
      fit = λ k d h. (are k d h).1;
    }

pub columns_again : (terms : List (ℕ × List ℕ)) (documents_count : ℕ) (entries : List (ℕ × (ℕ × List (List ℕ)))) → AreValueEntries (slice_cmp nat_cmp) (λ field bytes. Contains terms (field, bytes)) documents_count entries
    → (groups : List (ℕ × List (ℕ × List (List ℕ)))) → AreGroups nat_cmp entries groups → (columns : List (ℕ × List (ℕ × List ℕ))) → map (column_terms terms) columns ≡ map named_group groups → All (IsColumn nat_cmp IsOrdinal) columns → AreByField (IsColumn nat_cmp IsOrdinal) columns
columns_again terms documents_count entries fit groups are columns same each =
    let count : length columns ≡ length groups = long (column_terms terms) named_group columns groups same in
    let own : fields columns ≡ fields groups = sym (map_twice (λ (column : ℕ × List (ℕ × List (Option (ℕ × List ℕ)))). column.0) (column_terms terms) columns) ∙ ap (map (λ (column : ℕ × List (ℕ × List (Option (ℕ × List ℕ)))). column.0)) same ∙ map_twice (λ (column : ℕ × List (ℕ × List (Option (ℕ × List ℕ)))). column.0) named_group groups in
    record {
      fewer = omega (arith, fewer_columns (slice_cmp nat_cmp) (λ field bytes. Contains terms (field, bytes)) documents_count entries fit groups are, count);
      ascending = subst IsStrictlyIncreasing (sym own) (ascending_columns (slice_cmp nat_cmp) (λ field bytes. Contains terms (field, bytes)) documents_count entries fit groups are);
      each = each;
    }

pub keyword_columns : (terms : List (ℕ × List ℕ)) (documents_count : ℕ) (entries : List (ℕ × (ℕ × List (List ℕ)))) → AreValueEntries (slice_cmp nat_cmp) (λ field bytes. Contains terms (field, bytes)) documents_count entries
    → (groups : List (ℕ × List (ℕ × List (List ℕ)))) → AreGroups nat_cmp entries groups → All (IsKeywordColumn terms) groups
keyword_columns terms documents_count entries fit groups are = All-from_recursion (IsKeywordColumn terms) groups (columns_are (slice_cmp nat_cmp) (λ field bytes. Contains terms (field, bytes)) documents_count entries fit groups are)
