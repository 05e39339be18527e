-- What leaves that go by the kind of a field, and leaves on roots, ask of an object.
use Rattle.std.proofs.Common.{◌≡◌, ◌≢◌, ℕ, ◌+◌, ◌<◌, Bool, true, false, ◌&&◌, ◌||◌, List, [], ◌∷◌, ◌++◌, length, map, filter, All, Option, Some, None, refl, sym, ap, subst, ◌∙◌, inl, inr, arith, nat_eq, nat_lt}
use Rattle.std.specs.Prelude.{is_some}
use Rattle.std.specs.List.{list_any, flat_map, range_with_len}
use Rattle.std.specs.Str.{bytes_eq}
use Rattle.std.proofs.lemmas.Bool.{cases_Bool, true≢false}
use Rattle.std.proofs.lemmas.Bool.Decides.{nat_tests}
use Rattle.std.proofs.lemmas.List.Elements.{All-head, All-tail}
use Rattle.std.proofs.lemmas.List.FromFn.{get_or-range_with_len, length-range_with_len}
use Rattle.std.proofs.lemmas.List.Folds.{list_any-append}
use Rattle.std.proofs.lemmas.Slice.Eq.{bytes_eq-Decides}
use Rattle.analysis.specs.Words.{words}
use Rattle.mapping_body.specs.Names.{lies_above}
use Rattle.mapping_body.specs.declared.kind.Kind.{Kind}
use Rattle.mapping_body.specs.declared.kind.Kind.TheVariants.{Text, Keyword, Long, Boolean, Date, Object as Plain, Nested, Join}
use Rattle.mapping.specs.Mapping.{Mapping, field_at, home_of, kind_at}
use Rattle.query_ast.specs.Joined.{is_root, has_relation, names_parent}
use Rattle.query_ast.specs.Leaf.{field_exists, has_phrase_in, has_run, is_any, is_text as is_text_kind, shows_inside, terms_of}
use Rattle.segment.specs.Flat.{has_some}
use Rattle.tree_objects.specs.Enclosing.{stands_at as is_at_scope}
use Rattle.tree_objects.specs.Object.{Object, root, inside}
use Rattle.tree_objects.specs.Values.{Joined, values}
use Rattle.tree_objects.specs.declared.field_value.FieldValue.{FieldValue}
use Rattle.tree_objects.specs.declared.field_value.FieldValue.TheVariants.{Number, Written}
use Rattle.flattener.specs.Flat.{flat_of, fields_of, is_text, text_field, texts_in, tokens, token_cmp, together, grouped, field_words, ascending}
use Rattle.leaf_search.specs.Roots.{is_joined, is_child_of}
use Rattle.segment.specs.Shows.{has_text, has_term, has_word_at, is_word_at}
use Rattle.flattener.specs.Block.{kept_join, join_by}
use Rattle.leaf_search.specs.Values.{always, shows_inner, shows_part, shows_value}
use Rattle.leaf_search.specs.Words.{run_stands, shows_phrase}
use Rattle.leaf_search.proofs.Queries.{any_value, always_agrees, is_any_true}
use Rattle.leaf_search.proofs.Runs.{run_in, phrase_in, begins_run, phrase_tokens}
use Rattle.leaf_search.proofs.Shown.{IsOf, IsWritten, any_ascending, fields_any, values_are}
use Rattle.leaf_search.proofs.TermShown.{Fit, own_terms, term_shown}
use Rattle.leaf_search.proofs.Tests.{and_false, and_true, any_agree, any_same, any-filter, any-flat_map, any-map}

-- ---- exists

and_back : (a b : Bool) → (a && b) ≡ (b && a)
and_back true b = sym (and_true b)
and_back false b = sym (and_false b)

text_marks : (m : Mapping) (o : Object) (f : ℕ) → f < length m.fields → has_text f (flat_of m o) ≡ (is_text (kind_at m f) && nat_lt 0 (length (texts_in (values m f o))))
unfolding has_text
text_marks m o f known =
    any-map (λ (own : ℕ). nat_eq own f) (λ (field : ℕ × List (List ℕ)). field.0) (filter has_some (map (text_field m o) (fields_of is_text m)))
    ∙ any-filter (λ (field : ℕ × List (List ℕ)). nat_eq field.0 f) has_some (map (text_field m o) (fields_of is_text m))
    ∙ any-map (λ (field : ℕ × List (List ℕ)). has_some field && nat_eq field.0 f) (text_field m o) (fields_of is_text m)
    ∙ any_same (λ (g : ℕ). has_some (text_field m o g) && nat_eq g f) (λ (g : ℕ). nat_eq g f && nat_lt 0 (length (texts_in (values m g o)))) (λ g. and_back (nat_lt 0 (length (texts_in (values m g o)))) (nat_eq g f)) (fields_of is_text m)
    ∙ fields_any m is_text f (λ (g : ℕ). nat_lt 0 (length (texts_in (values m g o)))) known

positive : {X : Type 0} (x : X) (xs : List X) → nat_lt 0 (length (x ∷ xs)) ≡ true
positive x xs = grind (arith, nat_tests)

some_text : (vs : List FieldValue) → All IsWritten vs → nat_lt 0 (length (texts_in vs)) ≡ is_any vs
some_text [] all = refl
some_text (Number z ∷ vs) all = absurd (All-head IsWritten (Number z) vs all)
some_text (Written s ∷ vs) all = positive s (texts_in vs)

none_any : (vs : List FieldValue) → All (λ (v : FieldValue). ⊥) vs → false ≡ is_any vs
none_any [] all = refl
none_any (v ∷ vs) all = absurd (All-head (λ (v : FieldValue). ⊥) v vs all)

term_any : (m : Mapping) (f : ℕ) (o : Object) → f < length m.fields → Fit (flat_of m o) → is_text_kind (kind_at m f) ≡ false → has_term f always (flat_of m o) ≡ is_any (values m f o)
term_any m f o known fit other =
    term_shown m f o always any_value known fit (always_agrees (kind_at m f))
    ∙ ap (λ (b : Bool). list_any any_value (flat_map (terms_of b) (values m f o))) other
    ∙ own_terms any_value (values m f o)
    ∙ is_any_true (values m f o)

-- by the kind, which the equation names
any_at : (m : Mapping) (f : ℕ) (o : Object) (kind : Kind) → kind_at m f ≡ kind → f < length m.fields → Fit (flat_of m o) → shows_value f kind (flat_of m o) ≡ is_any (values m f o)
any_at m f o Text is known fit =
    text_marks m o f known
    ∙ ap (λ (k : Kind). is_text k && nat_lt 0 (length (texts_in (values m f o)))) is
    ∙ some_text (values m f o) (subst (λ (k : Kind). All (IsOf k) (values m f o)) is (values_are m f o))
any_at m f o Keyword is known fit = term_any m f o known fit (ap is_text_kind is)
any_at m f o Long is known fit = term_any m f o known fit (ap is_text_kind is)
any_at m f o Boolean is known fit = term_any m f o known fit (ap is_text_kind is)
any_at m f o Date is known fit = term_any m f o known fit (ap is_text_kind is)
any_at m f o Plain is known fit = none_any (values m f o) (subst (λ (k : Kind). All (IsOf k) (values m f o)) is (values_are m f o))
any_at m f o Nested is known fit = none_any (values m f o) (subst (λ (k : Kind). All (IsOf k) (values m f o)) is (values_are m f o))
any_at m f o Join is known fit = none_any (values m f o) (subst (λ (k : Kind). All (IsOf k) (values m f o)) is (values_are m f o))

pub value_exists : (m : Mapping) (f : ℕ) (o : Object) (kind : Kind) → kind_at m f ≡ kind → kind ≢ Plain → kind ≢ Join → f < length m.fields → Fit (flat_of m o) → shows_value f kind (flat_of m o) ≡ field_exists m f kind o
value_exists m f o Text is plain join known fit = any_at m f o Text is known fit
value_exists m f o Keyword is plain join known fit = any_at m f o Keyword is known fit
value_exists m f o Long is plain join known fit = any_at m f o Long is known fit
value_exists m f o Boolean is plain join known fit = any_at m f o Boolean is known fit
value_exists m f o Date is plain join known fit = any_at m f o Date is known fit
value_exists m f o Plain is plain join known fit = absurd (plain refl)
value_exists m f o Nested is plain join known fit = refl
value_exists m f o Join is plain join known fit = absurd (join refl)

and_parts_same : (a b x y : Bool) → x ≡ y → ((a && b) && x) ≡ (a && (b && y))
and_parts_same true b x y e = ap (λ (t : Bool). b && t) e
and_parts_same false b x y e = refl

pub part_exists : (m : Mapping) (f : ℕ) (o : Object) → Fit (flat_of m o) → shows_part m f (flat_of m o) ≡ list_any (shows_inside m f o) (range_with_len 0 (length m.fields))
part_exists m f o fit =
    any_agree (λ (g : ℕ). g < length m.fields) (shows_inner m f (flat_of m o)) (shows_inside m f o)
    (λ g known. and_parts_same (lies_above (field_at m f).path (field_at m g).path) (nat_eq (home_of m g) (home_of m f)) (shows_value g (kind_at m g) (flat_of m o)) (is_any (values m g o)) (any_at m g o (kind_at m g) refl known fit))
    (range_with_len 0 (length m.fields))
    (λ k d below.
    let inside : k < length m.fields = omega (arith, below, length-range_with_len 0 (length m.fields)) in
    omega (arith, inside, get_or-range_with_len 0 (length m.fields) k d inside))

-- ---- roots

pub not_root : (o : Object) → is_at_scope 0 o ≡ false → is_root o ≡ false
not_root (root tree) e = absurd (true≢false e)
not_root (inside outer n offset value) e = refl

pub joined_kept : (j : Option Joined) → is_joined (kept_join j) ≡ is_some j
joined_kept None = refl
joined_kept (Some j) = by_parent j.relation j.parent
  where
    by_parent : (r : ℕ) (parent : Option (List ℕ)) → is_joined (join_by r parent) ≡ true
    by_parent r None = refl
    by_parent r (Some id) = refl

pub child_kept : (r : ℕ) (id : List ℕ) (j : Option Joined) → is_child_of r id (kept_join j) ≡ (has_relation j r && names_parent j id)
child_kept r id None = refl
child_kept r id (Some j) = of_parent j.relation j.parent
  where
    of_parent : (own : ℕ) (parent : Option (List ℕ)) → is_child_of r id (join_by own parent) ≡ (nat_eq own r && names_parent (Some (record { relation = own; parent = parent })) id)
    of_parent own None = sym (and_false (nat_eq own r))
    of_parent own (Some known) = refl

-- ---- words at positions

module _ (f : ℕ) (word : List ℕ) (test : ℕ → Bool) where
  abbrev token_at : List ℕ × ℕ → Bool
  token_at token = bytes_eq token.0 word && test token.1

  put_together : (g b x y r : Bool) → (((g && b) && (x || (y || false))) || (g && r)) ≡ (((g && b) && x) || (g && ((b && y) || r)))
  put_together false b x y r = refl
  put_together true false x y r = refl
  put_together true true true y r = refl
  put_together true true false true r = refl
  put_together true true false false r = refl

  put_apart : (own g b y r : Bool) → (own || (((g && b) && (y || false)) || (g && r))) ≡ (own || (g && ((b && y) || r)))
  put_apart true g b y r = refl
  put_apart false false b y r = refl
  put_apart false true false y r = refl
  put_apart false true true true r = refl
  put_apart false true true false r = refl

  none_more : (a g : Bool) → (a || false) ≡ (a || (g && false))
  none_more a g = ap (λ (b : Bool). a || b) (sym (and_false g))

  any_together_at : (g : ℕ) (own : List ℕ) (positions : List ℕ) (ts : List (List ℕ × ℕ))
      → list_any (is_word_at f word test) (together g own positions ts) ≡ (((nat_eq g f && bytes_eq own word) && list_any test positions) || (nat_eq g f && list_any token_at ts))
  any_together_at g own positions [] = none_more ((nat_eq g f && bytes_eq own word) && list_any test positions) (nat_eq g f)
  any_together_at g own positions (token ∷ ts) = elim (cases_Bool (bytes_eq token.0 own)) [
    | inl same ↦
        let is : token.0 ≡ own = (bytes_eq-Decides token.0 own).0 same in
        rw same (any_together_at g own (positions ++ token.1 ∷ []) ts
        ∙ ap (λ (b : Bool). ((nat_eq g f && bytes_eq own word) && b) || (nat_eq g f && list_any token_at ts)) (list_any-append test positions (token.1 ∷ []))
        ∙ put_together (nat_eq g f) (bytes_eq own word) (list_any test positions) (test token.1) (list_any token_at ts)
        ∙ ap (λ (w : List ℕ). ((nat_eq g f && bytes_eq own word) && list_any test positions) || (nat_eq g f && ((bytes_eq w word && test token.1) || list_any token_at ts))) (sym is))
    | inr other ↦
        rw other (ap (λ (b : Bool). ((nat_eq g f && bytes_eq own word) && list_any test positions) || b) (any_together_at g token.0 (token.1 ∷ []) ts)
        ∙ put_apart ((nat_eq g f && bytes_eq own word) && list_any test positions) (nat_eq g f) (bytes_eq token.0 word) (test token.1) (list_any token_at ts))
  ]

  any_grouped_at : (g : ℕ) (ts : List (List ℕ × ℕ)) → list_any (is_word_at f word test) (grouped g ts) ≡ (nat_eq g f && list_any token_at ts)
  any_grouped_at g [] = sym (and_false (nat_eq g f))
  any_grouped_at g (token ∷ ts) =
      any_together_at g token.0 (token.1 ∷ []) ts
      ∙ put_apart false (nat_eq g f) (bytes_eq token.0 word) (test token.1) (list_any token_at ts)

  pub word_at : (m : Mapping) (o : Object) → f < length m.fields → is_text (kind_at m f) ≡ true → has_word_at f word test (flat_of m o) ≡ list_any token_at (tokens (texts_in (values m f o)))
  unfolding has_word_at
  word_at m o known text =
      any-flat_map (is_word_at f word test) field_words (map (text_field m o) (fields_of is_text m))
      ∙ any-map (λ (field : ℕ × List (List ℕ)). list_any (is_word_at f word test) (field_words field)) (text_field m o) (fields_of is_text m)
      ∙ any_same (λ (g : ℕ). list_any (is_word_at f word test) (field_words (text_field m o g))) (λ (g : ℕ). nat_eq g f && list_any token_at (tokens (texts_in (values m g o))))
      (λ g. any_grouped_at g (ascending token_cmp (tokens (texts_in (values m g o)))) ∙ ap (λ (b : Bool). nat_eq g f && b) (any_ascending token_at token_cmp (tokens (texts_in (values m g o))))) (fields_of is_text m)
      ∙ fields_any m is_text f (λ (g : ℕ). list_any token_at (tokens (texts_in (values m g o)))) known
      ∙ ap (λ (b : Bool). b && list_any token_at (tokens (texts_in (values m f o)))) text

-- ---- phrases

module _ (m : Mapping) (f : ℕ) (o : Object) (known : f < length m.fields) (text : is_text (kind_at m f) ≡ true) where
  own_tokens : List (List ℕ × ℕ)
  own_tokens = tokens (texts_in (values m f o))

  run_shown : (asked : List (List ℕ)) (at : ℕ) → run_stands f (flat_of m o) asked at ≡ run_in (tokens (texts_in (values m f o))) asked at
  run_shown [] at = refl
  run_shown (word ∷ asked) at = rw (word_at f word (λ p. nat_eq p at) m o known text, run_shown asked (at + 1)) refl

  phrase_of_tokens : (asked : List (List ℕ)) → shows_phrase f asked (flat_of m o) ≡ phrase_in (tokens (texts_in (values m f o))) asked
  phrase_of_tokens [] = refl
  phrase_of_tokens (word ∷ asked) =
      let ts : List (List ℕ × ℕ) = tokens (texts_in (values m f o)) in
      word_at f word (λ p. run_stands f (flat_of m o) asked (p + 1)) m o known text
      ∙ any_same (λ (token : List ℕ × ℕ). bytes_eq token.0 word && run_stands f (flat_of m o) asked (token.1 + 1)) (begins_run ts word asked)
      (λ token. ap (λ (b : Bool). bytes_eq token.0 word && b) (run_shown asked (token.1 + 1))) ts

  cut_tokens : (asked : List (List ℕ)) (texts : List (List ℕ)) → phrase_in (tokens texts) asked ≡ list_any (λ s. is_any asked && has_run asked (words s)) texts
  unfolding tokens
  cut_tokens asked texts = phrase_tokens words asked texts

  texts_any : (asked : List (List ℕ)) (vs : List FieldValue) → All IsWritten vs → list_any (λ s. is_any asked && has_run asked (words s)) (texts_in vs) ≡ list_any (has_phrase_in asked) vs
  texts_any asked [] all = refl
  texts_any asked (Number z ∷ vs) all = absurd (All-head IsWritten (Number z) vs all)
  texts_any asked (Written s ∷ vs) all = ap (λ (b : Bool). (is_any asked && has_run asked (words s)) || b) (texts_any asked vs (All-tail IsWritten (Written s) vs all))

  pub phrase_shown : (asked : List (List ℕ)) → All IsWritten (values m f o) → shows_phrase f asked (flat_of m o) ≡ list_any (has_phrase_in asked) (values m f o)
  phrase_shown asked all =
      phrase_of_tokens asked
      ∙ cut_tokens asked (texts_in (values m f o))
      ∙ texts_any asked (values m f o) all
