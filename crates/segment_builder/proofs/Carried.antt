-- What fields carry at a term, from what their groups carry at the field.
use Rattle.std.proofs.Common.{◌≡◌, ℕ, ℤ, Bool, true, cond, List, [], ◌∷◌, ◌++◌, map, refl, sym, ap, ◌∙◌, append_assoc, Vec}
use Rattle.std.proofs.lemmas.List.{map-append}
use Rattle.std.specs.List.{AllByRecursion}
use Rattle.std.specs.Ordering.{eq_by_cmp, nat_cmp}
use Rattle.term_table.specs.Keys.{number_key}
use Rattle.term_table.specs.Terms.{term_cmp}
use Rattle.segment_builder.specs.Groups.{groups_seen, in_groups, keys, of_key}
use Rattle.segment_builder.specs.Members.{by_field, carried}
use Rattle.segment_builder.specs.Terms.{at_field, entries_at, fields_seen, keyword_entries, keyword_terms, number_entries, number_terms, once, terms_at, value_entries}
use Rattle.segment_builder.proofs.Fielded.{bytes_cmp, term_is, Entry, Terms}
use Rattle.segment_builder.proofs.Grown.{of_append}
use Rattle.segment_builder.proofs.Keys.{split}

-- words
pub words_carry : (f : ℕ) (b : List ℕ) (terms : Terms) → of_key bytes_cmp b (of_key nat_cmp f (by_field terms)) ≡ of_key term_cmp (f, b) terms
words_carry f b [] = refl
words_carry f b (term ∷ terms) =
    rw (term_is f term.0.0 b term.0.1)
    (split (eq_by_cmp nat_cmp f term.0.0)
    (λ is.
    rw is
    (split (eq_by_cmp bytes_cmp b term.0.1)
    (λ same. rw (same, words_carry f b terms) refl)
    (λ other. rw (other, words_carry f b terms) refl)))
    (λ isnt. rw (isnt, words_carry f b terms) refl))

at_terms : (f g : ℕ) (b : List ℕ) (doc : ℕ) (values : List (List ℕ)) → of_key term_cmp (f, b) (terms_at g doc values) ≡ cond (eq_by_cmp nat_cmp f g) (of_key bytes_cmp b (entries_at doc values)) []
at_terms f g b doc [] = split (eq_by_cmp nat_cmp f g) (λ is. rw is refl) (λ isnt. rw isnt refl)
at_terms f g b doc (value ∷ values) =
    rw (term_is f g b value, at_terms f g b doc values)
    (split (eq_by_cmp nat_cmp f g)
    (λ is. rw is refl)
    (λ isnt. rw isnt refl))

-- values
module _ {X : Type 0} (get : X → List (List ℕ)) where
  value_more : (xs ys : List (ℕ × X)) → value_entries get (xs ++ ys) ≡ value_entries get xs ++ value_entries get ys
  value_more [] ys = refl
  value_more (x ∷ xs) ys =
      ap (λ rest. entries_at x.0 (once (get x.1)) ++ rest) (value_more xs ys) ∙ sym (append_assoc (entries_at x.0 (once (get x.1))) (value_entries get xs) (value_entries get ys))

  values_carry : (terms : List (ℕ × (ℕ × X)) → Terms) → terms [] ≡ [] → ((e : ℕ × (ℕ × X)) (es : List (ℕ × (ℕ × X))) → terms (e ∷ es) ≡ terms_at e.0 e.1.0 (once (get e.1.1)) ++ terms es)
      → (f : ℕ) (b : List ℕ) (entries : List (ℕ × (ℕ × X))) → of_key bytes_cmp b (value_entries get (of_key nat_cmp f entries)) ≡ of_key term_cmp (f, b) (terms entries)
  values_carry terms none more f b [] = sym (ap (of_key term_cmp (f, b)) none)
  values_carry terms none more f b (e ∷ es) =
      let behind = values_carry terms none more f b es in
      let own : of_key term_cmp (f, b) (terms (e ∷ es)) ≡ cond (eq_by_cmp nat_cmp f e.0) (of_key bytes_cmp b (entries_at e.1.0 (once (get e.1.1)))) [] ++ of_key term_cmp (f, b) (terms es) =
      ap (of_key term_cmp (f, b)) (more e es)
      ∙ of_append term_cmp (f, b) (terms_at e.0 e.1.0 (once (get e.1.1))) (terms es)
      ∙ ap (λ front. front ++ of_key term_cmp (f, b) (terms es)) (at_terms f e.0 b e.1.0 (once (get e.1.1))) in
      rw own
      (split (eq_by_cmp nat_cmp f e.0)
      (λ is. rw is (of_append bytes_cmp b (entries_at e.1.0 (once (get e.1.1))) (value_entries get (of_key nat_cmp f es)) ∙ ap (λ last. of_key bytes_cmp b (entries_at e.1.0 (once (get e.1.1))) ++ last) behind))
      (λ isnt. rw isnt behind))

  pub at_values : {E A : Type 0} (seen : E → ℕ × X) (f : ℕ) (b : List ℕ) (groups : List (ℕ × Vec E A))
      → at_field f b (fields_seen (λ (rows : Vec E A). value_entries get (map seen rows.items)) groups) ≡ of_key bytes_cmp b (value_entries get (carried seen groups f))
  at_values seen f b [] = refl
  at_values {E} {A} seen f b (group ∷ groups) =
      let behind = at_values seen f b groups in
      let rest = in_groups nat_cmp f (groups_seen groups) in
      let own = value_entries get (map seen group.1.items) in
      let others = in_groups nat_cmp f (fields_seen (λ (rows : Vec E A). value_entries get (map seen rows.items)) groups) in
      split (eq_by_cmp nat_cmp f group.0)
      (λ is.
      rw is
      (of_append bytes_cmp b own others
      ∙ ap (λ last. of_key bytes_cmp b own ++ last) behind
      ∙ sym (ap (λ rows. of_key bytes_cmp b (value_entries get rows)) (map-append seen group.1.items rest) ∙ ap (of_key bytes_cmp b) (value_more (map seen group.1.items) (map seen rest)) ∙ of_append bytes_cmp b own (value_entries get (map seen rest)))))
      (λ isnt. rw isnt behind)

pub keywords_carry : (f : ℕ) (b : List ℕ) (entries : List (ℕ × (ℕ × List (List ℕ)))) → of_key bytes_cmp b (keyword_entries (of_key nat_cmp f entries)) ≡ of_key term_cmp (f, b) (keyword_terms entries)
keywords_carry = values_carry (λ values. values) keyword_terms refl (λ e es. refl)

pub numbers_carry : (f : ℕ) (b : List ℕ) (entries : List (ℕ × (ℕ × List ℤ))) → of_key bytes_cmp b (number_entries (of_key nat_cmp f entries)) ≡ of_key term_cmp (f, b) (number_terms entries)
numbers_carry = values_carry (λ values. map number_key values) number_terms refl (λ e es. refl)

pub field_keys : {E A : Type 0} (entries : Vec E A → List Entry) (groups : List (ℕ × Vec E A)) → keys (fields_seen entries groups) ≡ keys (groups_seen groups)
field_keys entries [] = refl
field_keys entries (group ∷ groups) = ap (λ rest. group.0 ∷ rest) (field_keys entries groups)

pub fields_by : (test : ℕ → Bool) (terms : Terms) → AllByRecursion (λ (term : (ℕ × List ℕ) × (ℕ × List ℕ)). test term.0.0 ≡ true) terms → AllByRecursion (λ (entry : ℕ × Entry). test entry.0 ≡ true) (by_field terms)
fields_by test [] all = tt
fields_by test (term ∷ terms) all = (all.0, fields_by test terms all.1)
