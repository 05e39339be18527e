-- The documents of a term are those that show its text.
use Rattle.std.proofs.Common.{◌≡◌, ℕ, ◌==◌, Bool, true, false, ◌&&◌, ◌||◌, List, [], ◌∷◌, length, map, get_or, slice_get, Option, Some, None, refl, sym, ap, ◌∙◌}
use Rattle.std.specs.Prelude.{Contains, IsSomeAnd}
use Rattle.std.specs.List.{list_any}
use Rattle.std.proofs.lemmas.Bool.{eq-eqb, eqb-true, false≢true}
use Rattle.std.proofs.lemmas.Option.{get_or_from_slice_get, slice_get_within}
use Rattle.doc_values.specs.Values.{values_of}
use Rattle.mapping_body.specs.declared.kind.Kind.{Kind}
use Rattle.query_ast.specs.Compare.{is_same_value, value_cmp}
use Rattle.query_ast.specs.Uses.{is_written}
use Rattle.segment.specs.Flat.{bytes_at, flat_of}
use Rattle.segment.specs.Shows.{column_values}
use Rattle.segment_parts.specs.Agree.{AreColumns}
use Rattle.segment_parts.specs.Fields.{column_of}
use Rattle.segment_parts.specs.Lists.{postings_of, terms_of}
use Rattle.segment_parts.specs.declared.columns.Columns.{Columns}
use Rattle.term_table.specs.Terms.{AreAscending}
use Rattle.tree_objects.specs.declared.field_value.FieldValue.TheVariants.{Written}
use Rattle.bucket_aggs.specs.Counts.{IsShownSet, IsTermSet, has_ordinal, shows}
use Rattle.query_ast.proofs.Keys.{same_itself}
use Rattle.bucket_aggs.proofs.Listed.{posted_same, rows_have}
use Rattle.query_ast.proofs.Elements.{Each, by_test}
use Rattle.bucket_aggs.proofs.Lists.{and_false}
use Rattle.bucket_aggs.proofs.Numbered.{HaveKeywords, shown_text}
use Rattle.bucket_aggs.proofs.Termed.{IsOf, TermList, one_place, ordinals_of}
use Rattle.query_ast.proofs.Values.{value_exact, value_total}
use Rattle.bucket_aggs.proofs.Weights.{same_key}

same_bytes : {a b : List ℕ} → Written a ≡ Written b → a ≡ b
same_bytes {a} {b} is = cc

-- the term of an ordinal of the field
term_at : (terms : TermList) (f ordinal : ℕ) → IsOf terms f ordinal → slice_get terms ordinal ≡ Some (f, bytes_at terms ordinal)
term_at terms f ordinal is = by (slice_get terms ordinal) refl is
  where
    by : (x : Option (ℕ × List ℕ)) → slice_get terms ordinal ≡ x → IsSomeAnd x (λ (term : ℕ × List ℕ). term.0 ≡ f) → slice_get terms ordinal ≡ Some (f, bytes_at terms ordinal)
    by None own has = absurd has
    by (Some term) own has =
        let here : get_or terms ordinal (0, []) ≡ term = get_or_from_slice_get terms ordinal term (0, []) own in
        own ∙ ap (λ (n : ℕ). Some (n, term.1)) has ∙ ap (λ (t : ℕ × List ℕ). Some (f, t.1)) (sym here)

module _ (terms : TermList) (f : ℕ) (text : List ℕ) where
  abbrev pub shows_text : List ℕ → Bool
  shows_text ordinals = list_any (is_same_value (Written text)) (map Written (map (bytes_at terms) ordinals))

  abbrev is_text : ℕ → Bool
  is_text ordinal = is_same_value (Written text) (Written (bytes_at terms ordinal))

  -- an ordinal with this text is that of the term
  text_term : (ordinal : ℕ) → IsOf terms f ordinal → is_text ordinal ≡ true → slice_get terms ordinal ≡ Some (f, text)
  text_term ordinal of held =
      let bytes : text ≡ bytes_at terms ordinal = same_bytes (same_key (Written text) (Written (bytes_at terms ordinal)) held) in
      term_at terms f ordinal of ∙ ap (λ (b : List ℕ). Some (f, b)) (sym bytes)

  module _ (o : ℕ) (up : AreAscending terms) (is : slice_get terms o ≡ Some (f, text)) where
    text_one : (ordinal : ℕ) → IsOf terms f ordinal → is_text ordinal ≡ (ordinal == o)
    text_one ordinal of =
        by_test (ordinal == o)
        (λ held.
        let same : ordinal ≡ o = eqb-true ordinal o held in
        let own : bytes_at terms o ≡ text = ap (λ (t : ℕ × List ℕ). t.1) (get_or_from_slice_get terms o (f, text) (0, []) is) in
        ap (λ (i : ℕ). is_same_value (Written text) (Written (bytes_at terms i))) same
        ∙ ap (λ (b : List ℕ). is_same_value (Written text) (Written b)) own
        ∙ same_itself value_cmp value_total value_exact (Written text)
        ∙ sym held)
        (λ failed. by_test (is_text ordinal)
        (λ held. absurd (false≢true (sym failed ∙ eq-eqb ordinal o (one_place terms ordinal o (f, text) up (text_term ordinal of held) is))))
        (λ other. other ∙ sym failed))

    text_ordinals : (ordinals : List ℕ) → Each (IsOf terms f) ordinals → has_ordinal o ordinals ≡ shows_text ordinals
    text_ordinals [] all = refl
    text_ordinals (ordinal ∷ ordinals) all =
        ap (λ (b : Bool). b || has_ordinal o ordinals) (sym (text_one ordinal all.0))
        ∙ ap (λ (b : Bool). is_text ordinal || b) (text_ordinals ordinals all.1)

  text_nowhere : ¬ Contains terms (f, text) → (ordinals : List ℕ) → Each (IsOf terms f) ordinals → shows_text ordinals ≡ false
  text_nowhere none [] all = refl
  text_nowhere none (ordinal ∷ ordinals) all =
      let other : is_text ordinal ≡ false =
      by_test (is_text ordinal)
      (λ held.
      let at : slice_get terms ordinal ≡ Some (f, text) = text_term ordinal all.0 held in
      absurd (none (ordinal, slice_get_within terms ordinal (f, text) at, get_or_from_slice_get terms ordinal (f, text) (f, text) at)))
      (λ failed. failed) in
      ap (λ (b : Bool). b || shows_text ordinals) other ∙ text_nowhere none ordinals all.1

module _ (columns : Columns) (kind : Kind) (f : ℕ) (text : List ℕ) (written : is_written kind ≡ true) (law : HaveKeywords columns) where
  abbrev Own : List Bool → List Bool → Type 0
  Own flags own = IsShownSet columns kind f (Written text) flags own

  shown_by : (found : List (ℕ × List ℕ)) → column_of f columns.ordinals ≡ Some found → (doc : ℕ) → shows kind f (Written text) (flat_of columns doc) ≡ shows_text (terms_of columns) f text (values_of doc found)
  shown_by found is doc =
      ap (list_any (is_same_value (Written text))) (shown_text columns kind f written law doc ∙ ap (λ (c : Option (List (ℕ × List ℕ))). map Written (map (bytes_at (terms_of columns)) (column_values doc c))) is)

  -- nothing is shown
  none_shown : (flags own : List Bool) → length own ≡ length flags → ((doc : ℕ) → get_or own doc false ≡ false) → ((doc : ℕ) → shows kind f (Written text) (flat_of columns doc) ≡ false) → Own flags own
  none_shown flags own long none never = record {
    long = long;
    marked = λ doc low. none doc ∙ sym (ap (λ (b : Bool). get_or flags doc false && b) (never doc) ∙ and_false (get_or flags doc false));
  }

  pub no_column : (flags own : List Bool) → length own ≡ length flags → ((doc : ℕ) → get_or own doc false ≡ false) → column_of f columns.ordinals ≡ None → Own flags own
  no_column flags own long none is =
      none_shown flags own long none
      (λ doc. ap (list_any (is_same_value (Written text))) (shown_text columns kind f written law doc ∙ ap (λ (c : Option (List (ℕ × List ℕ))). map Written (map (bytes_at (terms_of columns)) (column_values doc c))) is))

  module _ (found : List (ℕ × List ℕ)) (are : AreColumns columns) (is : column_of f columns.ordinals ≡ Some found) where
    pub no_term : (flags own : List Bool) → length own ≡ length flags → ((doc : ℕ) → get_or own doc false ≡ false) → ¬ Contains (terms_of columns) (f, text) → Own flags own
    no_term flags own long none absent =
        none_shown flags own long none (λ doc. shown_by found is doc ∙ text_nowhere (terms_of columns) f text absent (values_of doc found) (ordinals_of columns f doc found are is))

    pub own_term : (flags own : List Bool) (o : ℕ) → AreAscending (terms_of columns) → slice_get (terms_of columns) o ≡ Some (f, text) → IsTermSet columns flags o own → Own flags own
    own_term flags own o up at set_is = record {
      long = set_is.long;
      marked = λ doc low.
          let of : IsOf (terms_of columns) f o = own_is (slice_get (terms_of columns) o) at in
          set_is.marked doc low
          ∙ ap (λ (b : Bool). get_or flags doc false && b)
          (sym (rows_have o doc (get_or (postings_of columns) o []))
          ∙ posted_same columns f found flags are is o of doc
          ∙ text_ordinals (terms_of columns) f text o up at (values_of doc found) (ordinals_of columns f doc found are is)
          ∙ sym (shown_by found is doc));
    }
      where
        own_is : (x : Option (ℕ × List ℕ)) → x ≡ Some (f, text) → IsSomeAnd x (λ (term : ℕ × List ℕ). term.0 ≡ f)
        own_is None same = absurd (let no : ⊥ = cc in no)
        own_is (Some term) same = let own : term ≡ (f, text) = cc in ap (λ (t : ℕ × List ℕ). t.0) own
