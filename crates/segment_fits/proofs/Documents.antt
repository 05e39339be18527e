-- A document is one of its generation exactly where its scope is known and the columns that it stands in are shown to it.
use Rattle.std.proofs.Common.{◌≡◌, ℕ, ◌<◌, ◌≤◌, Bool, List, [], ◌∷◌, length, map, get_or, slice_get, Some, sym, ap, subst, ◌∙◌, arith}
use Rattle.std.specs.Prelude.{ℤ}
use Rattle.std.specs.List.{All, AllByRecursion}
use Rattle.std.proofs.lemmas.List.{get_or_default, get_or-map, length-map}
use Rattle.std.proofs.lemmas.List.Elements.{All-from_recursion, recursion_from_All}
use Rattle.std.proofs.lemmas.List.FromFn.{get_or-map-range_with_len, length-map-range_with_len}
use Rattle.std.proofs.lemmas.Option.{slice_get-get_or}
use Rattle.doc_values.specs.Values.{documents}
use Rattle.flattener.specs.Fits.{IsDocument, IsFieldAt}
use Rattle.mapping.specs.Mapping.{Mapping, scope_at}
use Rattle.segment.specs.Flat.{bytes_at, flat_of, values_at}
use Rattle.segment_parts.specs.Agree.{AreColumns, IsTermOf}
use Rattle.segment_parts.specs.Fields.{column_of}
use Rattle.segment_parts.specs.Lists.{terms_of, postings_of}
use Rattle.segment_parts.specs.declared.columns.Columns.{Columns}
use Rattle.term_table.specs.declared.rows.TermRow.{TermRow}
use Rattle.segment_fits.specs.Tested.{generation_at, standing_of, standings_of, no_standing, standing_at, has_form, AreColumnsShown, AreScopesKnown, IsField, IsShownTo, IsTextColumn, IsValueColumn}
use Rattle.segment_fits.specs.declared.form.Form.{Form}
use Rattle.segment_fits.specs.declared.form.Form.TheVariants.{Numbers, Keywords, Words}
use Rattle.segment_fits.specs.declared.standing.Standing.{Standing}
use Rattle.segment_fits.proofs.Columned.{OfMark, OfRows, OfWord, AreFull, from_texts, from_values, to_texts, to_values, to_words, word_of}
use Rattle.segment_fits.proofs.Loops.{doc_within}
use Rattle.segment_fits.proofs.Marked.{marked_some}

all_mapped : {A B : Type 0} (P : B → Type 0) (f : A → B) (xs : List A) → AllByRecursion (λ x. P (f x)) xs → AllByRecursion P (map f xs)
all_mapped P f [] all = tt
all_mapped P f (x ∷ xs) all = (all.0, all_mapped P f xs all.1)

of_mapped : {A B : Type 0} (P : B → Type 0) (f : A → B) (xs : List A) → AllByRecursion P (map f xs) → AllByRecursion (λ x. P (f x)) xs
of_mapped P f [] all = tt
of_mapped P f (x ∷ xs) all = (all.0, of_mapped P f xs all.1)

all_then : {A : Type 0} (P Q : A → Type 0) → ((x : A) → P x → Q x) → (xs : List A) → AllByRecursion P xs → AllByRecursion Q xs
all_then P Q weaker [] all = tt
all_then P Q weaker (x ∷ xs) all = (weaker x all.0, all_then P Q weaker xs all.1)

module _ (m : Mapping) (c : Columns) (own : AreColumns c) where
  abbrev pub standings : List Standing
  standings = standings_of c

  pub standing_is : (doc : ℕ) (d : Standing) → doc < c.documents → get_or standings doc d ≡ standing_of c doc
  standing_is doc d h = get_or-map-range_with_len (standing_of c) 0 c.documents doc doc d h (omega arith)

  -- what each document asks of a field of a form
  abbrev pub At : Form → ℕ → ℕ → Type 0
  At form field doc = IsFieldAt m (generation_at c doc) (has_form form) (flat_of c doc).scope field

  abbrev pub IsOne : ℕ → Type 0
  IsOne doc = IsDocument m (generation_at c doc) (flat_of c doc)

  is_at : (form : Form) (field doc : ℕ) → doc < c.documents → IsField m form field → IsShownTo m field (standing_at standings doc) → At form field doc
  is_at form field doc h of_form shown = record {
    in_range = of_form.in_range;
    kind = of_form.kind;
    shown = subst (IsShownTo m field) (standing_is doc no_standing h) shown;
  }

  at_is : (form : Form) (field doc : ℕ) → doc < c.documents → At form field doc → IsShownTo m field (standing_at standings doc)
  at_is form field doc h at = subst (IsShownTo m field) (sym (standing_is doc no_standing h)) at.shown

  of_field : (form : Form) (field doc : ℕ) → At form field doc → IsField m form field
  of_field form field doc at = record { in_range = at.in_range; kind = at.kind }

  -- ---- columns of values

  row_within : {X : Type 0} (rows : List (ℕ × List X)) (row : ℕ) → All (λ (r : ℕ × List X). r.0 < c.documents) rows → row < length rows → get_or (documents rows) row 0 < c.documents
  row_within rows row within h = doc_within rows c.documents row within h

  to_rows : {X : Type 0} (form : Form) (column : ℕ × List (ℕ × List X)) → All (λ (r : ℕ × List X). r.0 < c.documents) column.1 → IsValueColumn m standings form column → OfRows (At form) column
  to_rows form column within is = λ row h. is_at form column.0 (get_or (documents column.1) row 0) (row_within column.1 row within h) is.of_form (is.shown row h)

  from_rows : {X : Type 0} (form : Form) (column : ℕ × List (ℕ × List X)) → 0 < length column.1 → All (λ (r : ℕ × List X). r.0 < c.documents) column.1 → OfRows (At form) column → IsValueColumn m standings form column
  from_rows form column some within of = record {
    of_form = of_field form column.0 (get_or (documents column.1) 0 0) (of 0 some);
    shown = λ row h. at_is form column.0 (get_or (documents column.1) row 0) (row_within column.1 row within h) (of row h);
  }

  full : {X : Type 0} (column : ℕ × List (ℕ × List X)) → All (λ (r : ℕ × List X). 0 < length r.1) column.1 → All (λ (r : ℕ × List X). r.0 < c.documents) column.1 → AreFull (At Numbers) c.documents column
  full {X} column some within = record {
    some = recursion_from_All (λ (r : ℕ × List X). 0 < length r.1) column.1 some;
    within = λ k d h.
        let long : k < length column.1 = omega (arith, h, length-map column.1 (λ (r : ℕ × List X). r.0)) in
        let same : get_or (documents column.1) k d ≡ get_or (documents column.1) k 0 = get_or_default (documents column.1) k d 0 h in
        omega (arith, same, row_within column.1 k within long);
  }

  -- ---- from what is tested to the documents

  number_rows : AreColumnsShown m c standings → AllByRecursion (OfRows (At Numbers)) c.numbers
  number_rows shown =
      recursion_from_All (OfRows (At Numbers)) c.numbers (λ k d h. to_rows Numbers (get_or c.numbers k d) (own.fields.numbers_within k d h) (shown.numbers k d h))

  keyword_rows : AreColumnsShown m c standings → AllByRecursion (OfRows (At Keywords)) c.ordinals
  keyword_rows shown =
      recursion_from_All (OfRows (At Keywords)) c.ordinals (λ k d h. to_rows Keywords (get_or c.ordinals k d) (own.fields.ordinals_within k d h) (shown.keywords k d h))

  marks : AreColumnsShown m c standings → (doc : ℕ) → doc < c.documents → AllByRecursion (OfMark (At Words) doc) c.present
  marks shown doc inside =
      recursion_from_All (OfMark (At Words) doc) c.present
      (λ k d h set.
      let column = get_or c.present k d in
      let long : length column.1 ≡ c.documents = (own.parts.present_are.each k d h).long in
      is_at Words column.0 doc inside (shown.texts k d h).of_form ((shown.texts k d h).shown doc (omega (arith, long, inside)) set))

  term_row : (doc : ℕ) → AllByRecursion (OfMark (At Words) doc) c.present → (k : ℕ) (d : TermRow) → k < length c.terms → OfWord (At Words) doc (get_or c.terms k d)
  term_row doc all k d h =
      let row = get_or c.terms k d in
      let long : k < length (terms_of c) = omega (arith, h, length-map c.terms (λ (r : TermRow). r.term)) in
      let is : get_or (terms_of c) k row.term ≡ row.term = get_or-map (λ (r : TermRow). r.term) c.terms k d row.term h in
      let there : slice_get (terms_of c) k ≡ Some row.term = slice_get-get_or (terms_of c) k row.term long ∙ ap (λ (t : ℕ × List ℕ). Some t) is in
      let postings : get_or (postings_of c) k [] ≡ row.postings = get_or-map (λ (r : TermRow). r.postings) c.terms k d [] h in
      let at = own.terms.terms k row.term there in
      word_of (At Words) doc row c.present (column_of row.term.0 c.ordinals) (column_of row.term.0 c.numbers) k all
      (subst (λ (ps : List (ℕ × List ℕ)). IsTermOf (column_of row.term.0 c.present) (column_of row.term.0 c.ordinals) (column_of row.term.0 c.numbers) k row.term.1 ps) postings at.is)

  pub to_documents : AreScopesKnown m standings → ((doc : ℕ) → doc < c.documents → (flat_of c doc).scope < length m.scopes) → AreColumnsShown m c standings → (doc : ℕ) → doc < c.documents → IsOne doc
  to_documents known within shown doc inside =
      let long : doc < length standings = omega (arith, inside, length-map-range_with_len (standing_of c) 0 c.documents) in
      let fs = marks shown doc inside in
      record {
        scope = within doc inside;
        known = subst (λ (it : Standing). (scope_at m it.scope).since ≤ it.generation) (standing_is doc no_standing inside) (known doc no_standing long);
        numbers = All-from_recursion (λ (pair : ℕ × List ℤ). At Numbers pair.0 doc) _ (to_values (At Numbers) doc c.numbers (number_rows shown));
        keywords = All-from_recursion (λ (pair : ℕ × List (List ℕ)). At Keywords pair.0 doc) _
            (all_mapped (λ (pair : ℕ × List (List ℕ)). At Keywords pair.0 doc) (λ (pair : ℕ × List ℕ). (pair.0, map (bytes_at (terms_of c)) pair.1)) (values_at doc c.ordinals)
            (to_values (At Keywords) doc c.ordinals (keyword_rows shown)));
        words = All-from_recursion (λ (word : (ℕ × List ℕ) × List ℕ). At Words word.0.0 doc) _ (to_words (At Words) doc c.terms (recursion_from_All (OfWord (At Words) doc) c.terms (term_row doc fs)));
        texts = All-from_recursion (λ (field : ℕ). At Words field doc) _ (to_texts (At Words) doc c.present fs);
      }

  -- ---- and back

  pub to_known : ((doc : ℕ) → doc < c.documents → IsOne doc) → AreScopesKnown m standings
  to_known each = λ k d h.
      let inside : k < c.documents = omega (arith, h, length-map-range_with_len (standing_of c) 0 c.documents) in
      subst (λ (it : Standing). (scope_at m it.scope).since ≤ it.generation) (sym (standing_is k d inside)) (each k inside).known

  number_columns : ((doc : ℕ) → doc < c.documents → IsOne doc) → AllByRecursion (OfRows (At Numbers)) c.numbers
  number_columns each =
      from_values (At Numbers) c.documents c.numbers
      (recursion_from_All (AreFull (At Numbers) c.documents) c.numbers (λ k d h. full (get_or c.numbers k d) (λ i e l. ((own.parts.numbers_are.each k d h).entries.rows_are.valued i e l).some) (own.fields.numbers_within k d h)))
      (λ doc inside. recursion_from_All (λ (pair : ℕ × List ℤ). At Numbers pair.0 doc) (values_at doc c.numbers) (each doc inside).numbers)

  keyword_columns : ((doc : ℕ) → doc < c.documents → IsOne doc) → AllByRecursion (OfRows (At Keywords)) c.ordinals
  keyword_columns each =
      from_values (At Keywords) c.documents c.ordinals
      (recursion_from_All (AreFull (At Keywords) c.documents) c.ordinals
      (λ k d h.
      let it = full (get_or c.ordinals k d) (λ i e l. ((own.parts.ordinals_are.each k d h).entries.rows_are.valued i e l).some) (own.fields.ordinals_within k d h) in
      record { some = it.some; within = it.within }))
      (λ doc inside.
      of_mapped (λ (pair : ℕ × List (List ℕ)). At Keywords pair.0 doc) (λ (pair : ℕ × List ℕ). (pair.0, map (bytes_at (terms_of c)) pair.1)) (values_at doc c.ordinals)
      (recursion_from_All (λ (pair : ℕ × List (List ℕ)). At Keywords pair.0 doc) _ (each doc inside).keywords))

  text_column : ((doc : ℕ) → doc < c.documents → IsOne doc) → (k : ℕ) (d : ℕ × List Bool) → k < length c.present → IsTextColumn m standings (get_or c.present k d)
  text_column each k d h =
      let column = get_or c.present k d in
      let long : length column.1 ≡ c.documents = (own.parts.present_are.each k d h).long in
      let of : (doc : ℕ) → doc < c.documents → OfMark (At Words) doc column =
      λ doc inside. All-from_recursion (OfMark (At Words) doc) c.present (from_texts (At Words) doc c.present (recursion_from_All (λ (field : ℕ). At Words field doc) _ (each doc inside).texts)) k d h in
      let some = marked_some column.1 (own.fields.present_some k d h) in
      record {
        of_form = of_field Words column.0 some.0 (of some.0 (omega (arith, long, some.1)) some.2);
        shown = λ doc within set. at_is Words column.0 doc (omega (arith, long, within)) (of doc (omega (arith, long, within)) set);
      }

  pub to_shown : ((doc : ℕ) → doc < c.documents → IsOne doc) → AreColumnsShown m c standings
  to_shown each = record {
    numbers = λ k d h.
        from_rows Numbers (get_or c.numbers k d) (own.parts.numbers_are.each k d h).entries.some (own.fields.numbers_within k d h)
        (All-from_recursion (OfRows (At Numbers)) c.numbers (number_columns each) k d h);
    keywords = λ k d h.
        from_rows Keywords (get_or c.ordinals k d) (own.parts.ordinals_are.each k d h).entries.some (own.fields.ordinals_within k d h)
        (All-from_recursion (OfRows (At Keywords)) c.ordinals (keyword_columns each) k d h);
    texts = text_column each;
  }
