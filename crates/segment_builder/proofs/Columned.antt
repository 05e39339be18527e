-- Groups of entries that fit are columns and rows that can be written.
use Rattle.std.proofs.Common.{◌≡◌, ℕ, suc, ◌<◌, ◌^◌, List, [], ◌∷◌, length, map, refl, sym, ap, subst, arith}
use Rattle.std.specs.List.{All, AllByRecursion}
use Rattle.std.specs.List.Sorted.{IsStrictlySortedBy, IsStrictlyIncreasing}
use Rattle.std.specs.Ordering.{nat_cmp}
use Rattle.std.specs.declared.cmp.Ordering.{Ordering}
use Rattle.std.proofs.lemmas.List.Elements.{All-from_recursion, All-map}
use Rattle.std.proofs.lemmas.Map.Keys.{IsStrictlyIncreasing-from_sorted}
use Rattle.doc_values.specs.Stands.{AreEntries, IsColumn}
use Rattle.doc_values.specs.Values.{AreValues}
use Rattle.segment.specs.Fields.{AreByField, fields}
use Rattle.segment.specs.Parts.{IsPresence}
use Rattle.term_table.specs.Part.{AreRows, IsRow}
use Rattle.term_table.specs.Postings.{AreAscending}
use Rattle.term_table.specs.Terms.{term_cmp}
use Rattle.term_table.specs.declared.rows.TermRow.{TermRow}
use Rattle.segment_builder.specs.Groups.{of_key, keys, AreGroups}
use Rattle.segment_builder.specs.Made.{marked_groups}
use Rattle.segment_builder.specs.Rising.{AreRisingFrom}
use Rattle.segment_builder.specs.Taken.{IsTermEntry, AreTermEntries, IsValueEntry, AreValueEntries, AreTextEntries}
use Rattle.segment_builder.specs.Terms.{row_group}
use Rattle.segment_builder.proofs.InOrder.{each_then, each_both}
use Rattle.segment_builder.proofs.Orders.{nat_order, term_order}
use Rattle.segment_builder.proofs.Rising.{each_of_key, few_fields, rises_count, rises_increase, rises_within}
use Rattle.segment_builder.proofs.Texts.{length_marks}

-- one of a list that has some
pub first_is : {X : Type 0} (P : X → Type 0) (xs : List X) → 0 < length xs → AllByRecursion P xs → (x : X) × P x
first_is P [] some all = absurd (omega (arith, some))
first_is P (x ∷ xs) some all = (x, all.0)

-- ---- columns of values

module _ {X : Type 0} (cmp : X → X → Ordering) (Fits : ℕ → X → Type 0) (documents : ℕ) (entries : List (ℕ × (ℕ × List X))) (fit : AreValueEntries cmp Fits documents entries) where
  abbrev OfField : ℕ → ℕ × List X → Type 0
  OfField field row = IsValueEntry cmp Fits fit.bound field row

  entries_are : (field : ℕ) (rows : List (ℕ × List X)) → AreRisingFrom 0 documents rows → 0 < length rows → AllByRecursion (OfField field) rows → AreEntries cmp (Fits field) rows
  entries_are field rows up some all = record {
    some = some;
    rows_are = record {
      fewer = omega (arith, fit.few, rises_count 0 documents rows (omega arith) up);
      ascending = rises_increase 0 documents rows up;
      valued = All-from_recursion (λ (row : ℕ × List X). AreValues cmp row.1) rows (each_then (OfField field) (λ (row : ℕ × List X). AreValues cmp row.1) (λ row is. is.values) rows all);
    };
    numbered = All-from_recursion (λ (row : ℕ × List X). row.0 < 2 ^ 32) rows (each_then (λ (row : ℕ × List X). row.0 < documents) (λ (row : ℕ × List X). row.0 < 2 ^ 32) (λ row below. omega (arith, below, fit.few)) rows (rises_within 0 documents rows up));
    fit = All-from_recursion (λ (row : ℕ × List X). All (Fits field) row.1) rows (each_then (OfField field) (λ (row : ℕ × List X). All (Fits field) row.1) (λ row is. is.fit) rows all);
  }

  field_below : (field : ℕ) (rows : List (ℕ × List X)) → 0 < length rows → AllByRecursion (OfField field) rows → field < fit.bound
  field_below field rows some all = (first_is (OfField field) rows some all).1.below

  of_field : (field : ℕ) (rows : List (ℕ × List X)) → rows ≡ of_key nat_cmp field entries → AllByRecursion (OfField field) rows
  of_field field rows is = subst (AllByRecursion (OfField field)) (sym is) (each_of_key nat_cmp nat_order (λ f row. OfField f row) field entries fit.each)

  rising : (field : ℕ) (rows : List (ℕ × List X)) → rows ≡ of_key nat_cmp field entries → AreRisingFrom 0 documents rows
  rising field rows is = subst (AreRisingFrom 0 documents) (sym is) (fit.rise field)

  column_is : (group : ℕ × List (ℕ × List X)) → 0 < length group.1 → group.1 ≡ of_key nat_cmp group.0 entries → IsColumn cmp (Fits group.0) group
  column_is group some is =
      let all : AllByRecursion (OfField group.0) group.1 = of_field group.0 group.1 is in
      record {
        field = omega (arith, fit.fields, field_below group.0 group.1 some all);
        entries = entries_are group.0 group.1 (rising group.0 group.1 is) some all;
      }

  pub columns_are : (groups : List (ℕ × List (ℕ × List X))) → AreGroups nat_cmp entries groups → AllByRecursion (λ (group : ℕ × List (ℕ × List X)). IsColumn cmp (Fits group.0) group) groups
  columns_are groups are =
      each_both (λ (group : ℕ × List (ℕ × List X)). 0 < length group.1) (λ (group : ℕ × List (ℕ × List X)). group.1 ≡ of_key nat_cmp group.0 entries) (λ (group : ℕ × List (ℕ × List X)). IsColumn cmp (Fits group.0) group)
      (λ group some is. column_is group some is) groups are.ordered.some are.gather

  below_bound : (groups : List (ℕ × List (ℕ × List X))) → AreGroups nat_cmp entries groups → AllByRecursion (λ (group : ℕ × List (ℕ × List X)). group.0 < fit.bound) groups
  below_bound groups are =
      each_both (λ (group : ℕ × List (ℕ × List X)). 0 < length group.1) (λ (group : ℕ × List (ℕ × List X)). group.1 ≡ of_key nat_cmp group.0 entries) (λ (group : ℕ × List (ℕ × List X)). group.0 < fit.bound)
      (λ group some is. field_below group.0 group.1 some (of_field group.0 group.1 is)) groups are.ordered.some are.gather

  pub fewer_columns : (groups : List (ℕ × List (ℕ × List X))) → AreGroups nat_cmp entries groups → length groups < 2 ^ 32
  fewer_columns groups are = omega (arith, fit.fields, few_fields fit.bound groups are.ordered.ascending (below_bound groups are))

  pub ascending_columns : (groups : List (ℕ × List (ℕ × List X))) → AreGroups nat_cmp entries groups → IsStrictlyIncreasing (fields groups)
  ascending_columns groups are = IsStrictlyIncreasing-from_sorted (keys groups) are.ordered.ascending

-- where what fits is the same for all fields
pub column_list : {X : Type 0} (cmp : X → X → Ordering) (Fits : X → Type 0) (documents : ℕ) (entries : List (ℕ × (ℕ × List X))) → AreValueEntries cmp (λ field value. Fits value) documents entries
    → (groups : List (ℕ × List (ℕ × List X))) → AreGroups nat_cmp entries groups → AreByField (IsColumn cmp Fits) groups
column_list cmp Fits documents entries fit groups are = record {
  fewer = fewer_columns cmp (λ field value. Fits value) documents entries fit groups are;
  ascending = ascending_columns cmp (λ field value. Fits value) documents entries fit groups are;
  each = All-from_recursion (IsColumn cmp Fits) groups (columns_are cmp (λ field value. Fits value) documents entries fit groups are);
}

-- ---- rows of terms

module _ (documents : ℕ) (entries : List ((ℕ × List ℕ) × (ℕ × List ℕ))) (fit : AreTermEntries documents entries) where
  row_is : (row : TermRow) → 0 < length row.postings → row.postings ≡ of_key term_cmp row.term entries → IsRow row
  row_is row some is =
      let all : AllByRecursion (IsTermEntry row.term) row.postings = subst (AllByRecursion (IsTermEntry row.term)) (sym is) (each_of_key term_cmp term_order (λ term posting. IsTermEntry term posting) row.term entries fit.each) in
      let up : AreRisingFrom 0 documents row.postings = subst (AreRisingFrom 0 documents) (sym is) (fit.rise row.term) in
      let first = (first_is (IsTermEntry row.term) row.postings some all).1 in
      record {
        field = first.field;
        short = first.short;
        some = some;
        postings_are = record {
          documents_are = record {
            fewer = omega (arith, fit.few, rises_count 0 documents row.postings (omega arith) up, length_keys row.postings);
            ascending = rises_increase 0 documents row.postings up;
            fit = All-map (λ doc. doc < 2 ^ 32) (λ (posting : ℕ × List ℕ). posting.0) row.postings
                (All-from_recursion (λ (posting : ℕ × List ℕ). posting.0 < 2 ^ 32) row.postings (each_then (λ (posting : ℕ × List ℕ). posting.0 < documents) (λ (posting : ℕ × List ℕ). posting.0 < 2 ^ 32) (λ posting below. omega (arith, below, fit.few)) row.postings (rises_within 0 documents row.postings up)));
          };
          positions_are = All-from_recursion (λ (posting : ℕ × List ℕ). AreAscending posting.1) row.postings (each_then (IsTermEntry row.term) (λ (posting : ℕ × List ℕ). AreAscending posting.1) (λ posting own. own.positions) row.postings all);
        };
      }
    where
      length_keys : (ps : List (ℕ × List ℕ)) → length (keys ps) ≡ length ps
      length_keys [] = refl
      length_keys (p ∷ ps) = ap suc (length_keys ps)

  rows_each : (rows : List TermRow) → AllByRecursion (λ (group : (ℕ × List ℕ) × List (ℕ × List ℕ)). 0 < length group.1) (map row_group rows) → AllByRecursion (λ (group : (ℕ × List ℕ) × List (ℕ × List ℕ)). group.1 ≡ of_key term_cmp group.0 entries) (map row_group rows) → AllByRecursion IsRow rows
  rows_each [] some is = tt
  rows_each (row ∷ rows) some is = (row_is row some.0 is.0, rows_each rows some.1 is.1)

  pub each_row : (rows : List TermRow) → AreGroups term_cmp entries (map row_group rows) → AllByRecursion IsRow rows
  each_row rows are = rows_each rows are.ordered.some are.gather

  pub terms_twice : (rows : List TermRow) → keys (map row_group rows) ≡ map (λ (row : TermRow). row.term) rows
  terms_twice [] = refl
  terms_twice (row ∷ rows) = ap (λ rest. row.term ∷ rest) (terms_twice rows)

  pub rows_are : (rows : List TermRow) → length rows < 2 ^ 64 → AreGroups term_cmp entries (map row_group rows) → AreRows rows
  rows_are rows few are = record {
    fewer = few;
    ascending = subst (IsStrictlySortedBy term_cmp) (terms_twice rows) are.ordered.ascending;
    rows_are = All-from_recursion IsRow rows (rows_each rows are.ordered.some are.gather);
  }

-- ---- text fields

module _ (documents : ℕ) (entries : List (ℕ × ℕ)) (fit : AreTextEntries documents entries) where
  texts_of : (group : ℕ × List ℕ) → group.1 ≡ of_key nat_cmp group.0 entries → AllByRecursion (λ doc. (group.0 < fit.bound) × (doc < documents)) group.1
  texts_of group is = subst (AllByRecursion (λ doc. (group.0 < fit.bound) × (doc < documents))) (sym is) (each_of_key nat_cmp nat_order (λ field doc. (field < fit.bound) × (doc < documents)) group.0 entries fit.each)

  pub docs_within : (groups : List (ℕ × List ℕ)) → AreGroups nat_cmp entries groups → All (λ (group : ℕ × List ℕ). All (λ doc. doc < documents) group.1) groups
  docs_within groups are =
      All-from_recursion (λ (group : ℕ × List ℕ). All (λ doc. doc < documents) group.1) groups
      (each_then (λ (group : ℕ × List ℕ). group.1 ≡ of_key nat_cmp group.0 entries) (λ (group : ℕ × List ℕ). All (λ doc. doc < documents) group.1)
      (λ group is. All-from_recursion (λ doc. doc < documents) group.1 (each_then (λ doc. (group.0 < fit.bound) × (doc < documents)) (λ doc. doc < documents) (λ doc both. both.1) group.1 (texts_of group is)))
      groups are.gather)

  below_fields : (groups : List (ℕ × List ℕ)) → AreGroups nat_cmp entries groups → AllByRecursion (λ (group : ℕ × List ℕ). group.0 < fit.bound) groups
  below_fields groups are =
      each_both (λ (group : ℕ × List ℕ). 0 < length group.1) (λ (group : ℕ × List ℕ). group.1 ≡ of_key nat_cmp group.0 entries) (λ (group : ℕ × List ℕ). group.0 < fit.bound)
      (λ group some is. (first_is (λ doc. (group.0 < fit.bound) × (doc < documents)) group.1 some (texts_of group is)).1.0) groups are.ordered.some are.gather

  marked_keys : (groups : List (ℕ × List ℕ)) → keys (marked_groups documents groups) ≡ keys groups
  marked_keys [] = refl
  marked_keys (group ∷ groups) = ap (λ rest. group.0 ∷ rest) (marked_keys groups)

  marked_count : (groups : List (ℕ × List ℕ)) → length (marked_groups documents groups) ≡ length groups
  marked_count [] = refl
  marked_count (group ∷ groups) = ap suc (marked_count groups)

  marked_each : (groups : List (ℕ × List ℕ)) → AllByRecursion (λ (group : ℕ × List ℕ). group.0 < fit.bound) groups → AllByRecursion (IsPresence documents) (marked_groups documents groups)
  marked_each [] all = tt
  marked_each (group ∷ groups) all = (record { field = omega (arith, all.0, fit.fields); long = length_marks documents group.1 }, marked_each groups all.1)

  pub presence_list : (groups : List (ℕ × List ℕ)) → AreGroups nat_cmp entries groups → AreByField (IsPresence documents) (marked_groups documents groups)
  presence_list groups are = record {
    fewer = omega (arith, fit.fields, few_fields fit.bound groups are.ordered.ascending (below_fields groups are), marked_count groups);
    ascending = subst IsStrictlyIncreasing (sym (marked_keys groups)) (IsStrictlyIncreasing-from_sorted (keys groups) are.ordered.ascending);
    each = All-from_recursion (IsPresence documents) (marked_groups documents groups) (marked_each groups (below_fields groups are));
  }
