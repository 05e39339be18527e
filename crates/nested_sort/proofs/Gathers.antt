-- Values that are gathered from documents, and the keys that are made of them.
use Rattle.std.specs.Prelude.{◌≡◌, ℕ, ◌==◌, ℤ, true, false, List, [], ◌∷◌, ◌++◌, map, Option, Some, None, IfSome, is_some, option_map, refl}
use Rattle.std.specs.List.{All, AllByRecursion, flat_map}
use Rattle.std.proofs.Common.{ap, sym, subst, ◌∙◌}
use Rattle.std.proofs.lemmas.Bool.{eqb-true, false≢true}
use Rattle.std.proofs.lemmas.List.{map-append}
use Rattle.std.proofs.lemmas.List.Elements.{All-from_recursion, recursion_from_All}
use Rattle.doc_values.specs.Values.{values_of}
use Rattle.hit_order.specs.Table.{number_or_null, text_or_null}
use Rattle.query_ast.specs.SortKey.{key_or_missing, mode_value}
use Rattle.query_ast.specs.declared.sort.Chain.{Chain}
use Rattle.query_ast.specs.declared.sort.Missing.{Missing}
use Rattle.query_ast.specs.declared.sort.SortMode.{SortMode}
use Rattle.query_eval.specs.Folds.{scopes_in}
use Rattle.segment.specs.Flat.{bytes_at, flat_of}
use Rattle.segment.specs.Shows.{column_values}
use Rattle.segment_parts.specs.Agree.{AreColumns, HaveOrdinals, IsOrdinalAt}
use Rattle.segment_parts.specs.Fields.{column_of}
use Rattle.segment_parts.specs.Lists.{postings_of, terms_of}
use Rattle.segment_parts.specs.declared.columns.Columns.{Columns}
use Rattle.nested_sort.specs.Inside.{chain_docs}
use Rattle.nested_sort.specs.Documents.{IsTermOf, number_value, numbers_at, ordinals_at, term_value, text_value, texts_at, values_at}
use Rattle.nested_sort.proofs.Alike.{by_test}
use Rattle.nested_sort.proofs.Documents.{map_map}

flat_same : {D A : Type 0} (f g : D → List A) → ((d : D) → f d ≡ g d) → (ds : List D) → flat_map f ds ≡ flat_map g ds
flat_same f g same [] = refl
flat_same f g same (d ∷ ds) = ap (λ xs. xs ++ flat_map f ds) (same d) ∙ ap (λ xs. g d ++ xs) (flat_same f g same ds)

flat_none : {D A : Type 0} (f : D → List A) → ((d : D) → f d ≡ []) → (ds : List D) → flat_map f ds ≡ []
flat_none f none [] = refl
flat_none f none (d ∷ ds) = ap (λ xs. xs ++ flat_map f ds) (none d) ∙ flat_none f none ds

pub map_flat : {D A B : Type 0} (h : A → B) (f : D → List A) (ds : List D) → map h (flat_map f ds) ≡ flat_map (λ d. map h (f d)) ds
map_flat h f [] = refl
map_flat h f (d ∷ ds) = map-append h (f d) (flat_map f ds) ∙ ap (λ xs. map h (f d) ++ xs) (map_flat h f ds)

-- ---- the one number of a document that no chain leads on from

module _ (c : Columns) (f : ℕ) where
  own_key : (place scope d : ℕ) (mode : SortMode) (missing : Missing) (chain : List Chain) (filters : List (List (List (Option ℕ)))) (number : ℤ) → chain ≡ [] → numbers_at c f d ≡ number ∷ [] → mode_value mode (number_value number ∷ []) ≡ Some (number_value number)
      → number_or_null (Some number) ≡ key_or_missing missing (mode_value mode (flat_map (values_at false c f) (chain_docs place (scopes_in c) chain filters scope d)))
  own_key place scope d mode missing [] filters number none only one =
      ap (key_or_missing missing) (sym one ∙ ap (mode_value mode) (sym (ap (λ values. map number_value values ++ []) only)))
  own_key place scope d mode missing (step ∷ chain) filters number none only one = absurd (let no : ⊥ = cc in no)

  pub own_some : (place scope d : ℕ) (mode : SortMode) (missing : Missing) (chain : List Chain) (filters : List (List (List (Option ℕ)))) (own : Option ℤ) → IfSome own (λ number. chain ≡ []) → IfSome own (λ number. numbers_at c f d ≡ number ∷ [])
      → IfSome own (λ number. mode_value mode (number_value number ∷ []) ≡ Some (number_value number)) → is_some own ≡ true
      → number_or_null own ≡ key_or_missing missing (mode_value mode (flat_map (values_at false c f) (chain_docs place (scopes_in c) chain filters scope d)))
  own_some place scope d mode missing chain filters None none only one there = absurd (false≢true there)
  own_some place scope d mode missing chain filters (Some number) none only one there = own_key place scope d mode missing chain filters number none only one

module _ (c : Columns) (f : ℕ) (docs : List ℕ) where
  -- ---- numbers

  pub numbers_some : (rows : List (ℕ × List ℤ)) → ((field doc : ℕ) → values_of field (flat_of c doc).numbers ≡ column_values doc (column_of field c.numbers)) → Some rows ≡ column_of f c.numbers
      → flat_map (λ inside. values_of inside rows) docs ≡ flat_map (numbers_at c f) docs
  numbers_some rows law is = flat_same (λ inside. values_of inside rows) (numbers_at c f) (λ d. sym (law f d ∙ ap (column_values d) (sym is))) docs

  pub numbers_none : ((field doc : ℕ) → values_of field (flat_of c doc).numbers ≡ column_values doc (column_of field c.numbers)) → None ≡ column_of f c.numbers → [] ≡ flat_map (numbers_at c f) docs
  numbers_none law is = sym (flat_none (numbers_at c f) (λ d. law f d ∙ ap (column_values d) (sym is)) docs)

  pub numbers_key : (values : List ℤ) (mode : SortMode) (missing : Missing) (found key : Option ℤ) → values ≡ flat_map (numbers_at c f) docs → option_map number_value found ≡ mode_value mode (map number_value values)
      → number_or_null key ≡ key_or_missing missing (option_map number_value found) → number_or_null key ≡ key_or_missing missing (mode_value mode (flat_map (values_at false c f) docs))
  numbers_key values mode missing found key are is own =
      own ∙ ap (key_or_missing missing) (is ∙ ap (λ vs. mode_value mode (map number_value vs)) are ∙ ap (mode_value mode) (map_flat number_value (numbers_at c f) docs))

  -- ---- texts

  pub ordinals_some : (rows : List (ℕ × List ℕ)) → Some rows ≡ column_of f c.ordinals → flat_map (λ inside. values_of inside rows) docs ≡ flat_map (ordinals_at c f) docs
  ordinals_some rows is = flat_same (λ inside. values_of inside rows) (ordinals_at c f) (λ d. ap (column_values d) is) docs

  pub ordinals_none : None ≡ column_of f c.ordinals → [] ≡ flat_map (ordinals_at c f) docs
  ordinals_none is = sym (flat_none (ordinals_at c f) (λ d. ap (column_values d) (sym is)) docs)

  texts_are : ((field doc : ℕ) → values_of field (flat_of c doc).keywords ≡ map (bytes_at (terms_of c)) (column_values doc (column_of field c.ordinals))) → map (bytes_at (terms_of c)) (flat_map (ordinals_at c f) docs) ≡ flat_map (texts_at c f) docs
  texts_are law =
      map_flat (bytes_at (terms_of c)) (ordinals_at c f) docs
      ∙ flat_same (λ d. map (bytes_at (terms_of c)) (ordinals_at c f d)) (texts_at c f) (λ d. sym (law f d)) docs

  pub texts_key : (terms : List (ℕ × List ℕ)) (ordinals found_in : List ℕ) (mode : SortMode) (missing : Missing) (found : Option ℕ) (key : Option (List ℕ))
      → ((field doc : ℕ) → values_of field (flat_of c doc).keywords ≡ map (bytes_at (terms_of c)) (column_values doc (column_of field c.ordinals)))
      → terms ≡ terms_of c → ordinals ≡ flat_map (ordinals_at c f) docs → found_in ≡ ordinals
      → option_map (term_value terms) found ≡ mode_value mode (map (term_value terms) found_in)
      → text_or_null key ≡ key_or_missing missing (option_map (term_value terms) found) → text_or_null key ≡ key_or_missing missing (mode_value mode (flat_map (values_at true c f) docs))
  texts_key terms ordinals found_in mode missing found key law all are same is own =
      own
      ∙ ap (key_or_missing missing)
      (is
      ∙ ap (λ ts. mode_value mode (map (term_value ts) found_in)) all
      ∙ ap (λ os. mode_value mode (map (term_value (terms_of c)) os)) (same ∙ are)
      ∙ ap (mode_value mode)
      (sym (map_map text_value (bytes_at (terms_of c)) (flat_map (ordinals_at c f) docs))
      ∙ ap (map text_value) (texts_are law)
      ∙ map_flat text_value (texts_at c f) docs))

  -- ---- the ordinals of a column are those of its field's terms

  column_has : {X : Type 0} (P : ℕ × X → Type 0) (columns : List (ℕ × X)) (x : X) → AllByRecursion P columns → Some x ≡ column_of f columns → P (f, x)
  column_has P [] x all is = absurd (let no : ⊥ = cc in no)
  column_has P (column ∷ columns) x all is =
      by_test (column.0 == f)
      (λ same.
      let field : column.0 ≡ f = eqb-true column.0 f same in
      let own : Some x ≡ Some column.1 = rw same at is in
      let value : x ≡ column.1 = cc in
      subst (λ g. P (g, x)) field (subst (λ y. P (column.0, y)) (sym value) all.0))
      (λ other. column_has P columns x all.1 (rw other at is))

  row_terms : (ordinals : List ℕ) (doc : ℕ) → AllByRecursion (λ ordinal. IsOrdinalAt (terms_of c) (postings_of c) f doc ordinal) ordinals → AllByRecursion (IsTermOf (terms_of c) f) ordinals
  row_terms [] doc all = tt
  row_terms (o ∷ ordinals) doc all = (all.0.of_field, row_terms ordinals doc all.1)

  values_terms : (rows : List (ℕ × List ℕ)) (doc : ℕ) → AllByRecursion (λ (row : ℕ × List ℕ). All (λ ordinal. IsOrdinalAt (terms_of c) (postings_of c) f row.0 ordinal) row.1) rows → AllByRecursion (IsTermOf (terms_of c) f) (values_of doc rows)
  values_terms [] doc all = tt
  values_terms (row ∷ rows) doc all =
      by_test (row.0 == doc)
      (λ same. rw same (row_terms row.1 row.0 (recursion_from_All (λ ordinal. IsOrdinalAt (terms_of c) (postings_of c) f row.0 ordinal) row.1 all.0)))
      (λ other. rw other (values_terms rows doc all.1))

  all_append : (xs ys : List ℕ) → AllByRecursion (IsTermOf (terms_of c) f) xs → AllByRecursion (IsTermOf (terms_of c) f) ys → AllByRecursion (IsTermOf (terms_of c) f) (xs ++ ys)
  all_append [] ys one other = other
  all_append (x ∷ xs) ys one other = (one.0, all_append xs ys one.1 other)

  column_terms : AreColumns c → (doc : ℕ) (o : Option (List (ℕ × List ℕ))) → o ≡ column_of f c.ordinals → AllByRecursion (IsTermOf (terms_of c) f) (column_values doc o)
  column_terms agree doc None is = tt
  column_terms agree doc (Some rows) is =
      let own : HaveOrdinals (terms_of c) (postings_of c) (f, rows) = column_has (HaveOrdinals (terms_of c) (postings_of c)) c.ordinals rows (recursion_from_All (HaveOrdinals (terms_of c) (postings_of c)) c.ordinals agree.terms.ordinals) is in
      values_terms rows doc (recursion_from_All (λ (row : ℕ × List ℕ). All (λ ordinal. IsOrdinalAt (terms_of c) (postings_of c) f row.0 ordinal) row.1) rows own)

  flat_terms : AreColumns c → (ds : List ℕ) → AllByRecursion (IsTermOf (terms_of c) f) (flat_map (ordinals_at c f) ds)
  flat_terms agree [] = tt
  flat_terms agree (d ∷ ds) = all_append (ordinals_at c f d) (flat_map (ordinals_at c f) ds) (column_terms agree d (column_of f c.ordinals) refl) (flat_terms agree ds)

  pub terms_are : (terms : List (ℕ × List ℕ)) (ordinals found_in : List ℕ) → AreColumns c → terms ≡ terms_of c → ordinals ≡ flat_map (ordinals_at c f) docs → found_in ≡ ordinals → All (IsTermOf terms f) found_in
  terms_are terms ordinals found_in agree all are same =
      subst (λ ts. All (IsTermOf ts f) found_in) (sym all)
      (subst (All (IsTermOf (terms_of c) f)) (sym (same ∙ are)) (All-from_recursion (IsTermOf (terms_of c) f) (flat_map (ordinals_at c f) docs) (flat_terms agree docs)))

pub ruleset gathers = (numbers_some, numbers_none, ordinals_some, ordinals_none)
