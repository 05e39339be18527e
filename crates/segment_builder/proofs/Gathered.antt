-- Columns that have at each key what documents carry there, and whose groups are in order, are made of it.
use Rattle.std.proofs.Common.{◌≡◌, ℕ, ◌<◌, List, [], ◌∷◌, length, map, Option, Some, None, refl, sym, ap, subst, ◌∙◌, arith}
use Rattle.std.specs.List.{AllByRecursion}
use Rattle.std.specs.List.Sorted.{IsStrictlySortedBy}
use Rattle.std.proofs.lemmas.List.{length-map}
use Rattle.std.specs.Ordering.{nat_cmp}
use Rattle.segment_parts.specs.Lists.{terms_of}
use Rattle.segment_parts.specs.declared.columns.Columns.{Columns}
use Rattle.term_table.specs.Terms.{term_cmp}
use Rattle.segment_builder.specs.ByKey.{AreByKey}
use Rattle.segment_builder.specs.Columns.{column_terms, named, named_group, named_row}
use Rattle.segment_builder.specs.Entries.{EntriesState}
use Rattle.segment_builder.specs.Groups.{AreOrdered, in_groups, keys, of_key}
use Rattle.segment_builder.specs.Made.{IsMade, all_terms}
use Rattle.segment_builder.specs.Terms.{row_group}
use Rattle.segment_builder.proofs.AtFields.{in_mapped}
use Rattle.segment_builder.proofs.InOrder.{are_groups, own_groups}
use Rattle.segment_builder.proofs.Orders.{nat_order, term_order}

-- ---- keywords by the terms that they are

abbrev bytes_named : Option (ℕ × List ℕ) → List ℕ
bytes_named None = []
bytes_named (Some term) = term.1

abbrev row_bytes : ℕ × List (Option (ℕ × List ℕ)) → ℕ × List (List ℕ)
row_bytes row = (row.0, map bytes_named row.1)

abbrev group_bytes : ℕ × List (ℕ × List (Option (ℕ × List ℕ))) → ℕ × List (ℕ × List (List ℕ))
group_bytes group = (group.0, map row_bytes group.1)

values_back : (field : ℕ) (values : List (List ℕ)) → map bytes_named (named field values) ≡ values
values_back field [] = refl
values_back field (value ∷ values) = ap (λ rest. value ∷ rest) (values_back field values)

rows_back : (field : ℕ) (rows : List (ℕ × List (List ℕ))) → map row_bytes (map (named_row field) rows) ≡ rows
rows_back field [] = refl
rows_back field (row ∷ rows) = rw (values_back field row.1, rows_back field rows) refl

module _ (entries : List (ℕ × (ℕ × List (List ℕ)))) (there : List (ℕ × List (ℕ × List (Option (ℕ × List ℕ))))) (have : (field : ℕ) → in_groups nat_cmp field there ≡ map (named_row field) (of_key nat_cmp field entries)) where
  groups_back : (groups : List (ℕ × List (ℕ × List (Option (ℕ × List ℕ))))) → AllByRecursion (λ (group : ℕ × List (ℕ × List (Option (ℕ × List ℕ)))). in_groups nat_cmp group.0 there ≡ group.1) groups → groups ≡ map named_group (map group_bytes groups)
  groups_back [] own = refl
  groups_back (group ∷ groups) own =
      let is : group.1 ≡ map (named_row group.0) (of_key nat_cmp group.0 entries) = sym own.0 ∙ have group.0 in
      let back : map (named_row group.0) (map row_bytes group.1) ≡ group.1 =
      ap (λ rows. map (named_row group.0) (map row_bytes rows)) is ∙ ap (map (named_row group.0)) (rows_back group.0 (of_key nat_cmp group.0 entries)) ∙ sym is in
      ap (λ rows. (group.0, rows) ∷ groups) (sym back) ∙ ap (λ rest. named_group (group_bytes group) ∷ rest) (groups_back groups own.1)

  have_bytes : (field : ℕ) → in_groups nat_cmp field (map group_bytes there) ≡ of_key nat_cmp field entries
  have_bytes field = in_mapped nat_cmp row_bytes field there ∙ ap (map row_bytes) (have field) ∙ rows_back field (of_key nat_cmp field entries)

  keys_back : (groups : List (ℕ × List (ℕ × List (Option (ℕ × List ℕ))))) → keys (map group_bytes groups) ≡ keys groups
  keys_back [] = refl
  keys_back (group ∷ groups) = ap (λ rest. group.0 ∷ rest) (keys_back groups)

  some_back : (groups : List (ℕ × List (ℕ × List (Option (ℕ × List ℕ))))) → AllByRecursion (λ (group : ℕ × List (ℕ × List (Option (ℕ × List ℕ)))). 0 < length group.1) groups → AllByRecursion (λ (group : ℕ × List (ℕ × List (List ℕ))). 0 < length group.1) (map group_bytes groups)
  some_back [] some = tt
  some_back (group ∷ groups) some = (omega (arith, some.0, length-map group.1 row_bytes), some_back groups some.1)

  ordered_back : AreOrdered nat_cmp there → AreOrdered nat_cmp (map group_bytes there)
  ordered_back up = record {
    ascending = subst (IsStrictlySortedBy nat_cmp) (sym (keys_back there)) up.ascending;
    some = some_back there up.some;
  }

-- ---- all of it

pub made_by_key : (it : EntriesState) (columns : Columns) → AreByKey it columns → IsMade it columns
made_by_key it columns are =
    let named_columns = map (column_terms (terms_of columns)) columns.ordinals in
    record {
      documents = are.documents;
      scopes = are.scopes;
      within = are.within;
      greatest = are.greatest;
      rows = are_groups term_cmp term_order.total (all_terms it) (map row_group columns.terms) are.keys.terms_are are.terms_ordered;
      numbers = are_groups nat_cmp nat_order.total it.numbers columns.numbers are.keys.numbers_are are.numbers_ordered;
      keywords = map group_bytes named_columns;
      keyword_groups = are_groups nat_cmp nat_order.total it.keywords (map group_bytes named_columns) (have_bytes it.keywords named_columns are.keys.keywords_are) (ordered_back it.keywords named_columns are.keys.keywords_are are.keywords_ordered);
      ordinals = groups_back it.keywords named_columns are.keys.keywords_are named_columns (own_groups nat_cmp nat_order.total named_columns are.keywords_ordered.ascending);
      texts = are.texts;
      text_groups = are_groups nat_cmp nat_order.total it.texts are.texts are.keys.texts_are are.texts_ordered;
      present = are.present;
    }
