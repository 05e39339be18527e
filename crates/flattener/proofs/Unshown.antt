-- A field that the objects of a scope don't show adds nothing to their documents.
use Rattle.std.proofs.Common.{◌≡◌, ℕ, zero, suc, ◌+◌, ◌<◌, ◌≤◌, ◌==◌, ◌||◌, ◌&&◌, true, false, Bool, List, [], refl, sym, ap, if◌then◌else◌, Option, arith, length, subst}
use Rattle.std.proofs.lemmas.Bool.Decides.{nat_tests}
use Rattle.std.specs.List.{filter_map}
use Rattle.std.specs.Ordering.{int_cmp}
use Rattle.mapping.specs.IsMapping.{IsMapping}
use Rattle.mapping.specs.Mapping.{Mapping, Scope, home_of, included, kind_at, knows, outer, reaches, scope_at}
use Rattle.segment.specs.Flat.{FlatDocument}
use Rattle.tree_json.specs.Value.{JsonValue}
use Rattle.tree_objects.specs.Values.{convert}
use Rattle.tree_objects.specs.declared.field_value.FieldValue.{FieldValue}
use Rattle.flattener.specs.Adds.{Adds, IsBegun}
use Rattle.flattener.specs.Flat.{ascending, bytes_cmp, has_numbers, is_keyword, is_text, numbers_in, texts_in, tokens, words_of_field}
use Rattle.flattener.specs.Walked.{kept, keywords_of, numbers_of, shown_items, texts_of, valued, words_of}
use Rattle.flattener.proofs.Documents.{begun_next, nothing_more}

neither : {A : Type 0} (here knows shown : Bool) (own all : List A) → (here || shown) ≡ false → (if here then own else (if knows && shown then all else [])) ≡ []
neither true knows shown own all none = absurd (cc (none))
neither false knows true own all none = absurd (cc (none))
neither false true false own all none = refl
neither false false false own all none = refl

nothing_shown : (m : Mapping) (g f s : ℕ) (v : JsonValue) → ((home_of m f == s) || included m f s) ≡ false → shown_items m g f s v ≡ []
nothing_shown m g f s v none = neither (home_of m f == s) (knows m g f) (included m f s) _ _ none

module _ (f : ℕ) (t : JsonValue → Option FieldValue) (vs : List JsonValue) (e : vs ≡ []) where
  no_numbers : (test : Bool) → (if test then kept (f, ascending int_cmp (numbers_in (filter_map t vs))) else []) ≡ []
  no_numbers true = rw e refl
  no_numbers false = refl

  no_keywords : (test : Bool) → (if test then kept (f, ascending bytes_cmp (texts_in (filter_map t vs))) else []) ≡ []
  no_keywords true = rw e refl
  no_keywords false = refl

  no_words : (test : Bool) → (if test then words_of_field f (tokens (texts_in (filter_map t vs))) else []) ≡ []
  unfolding tokens
  no_words true = rw e refl
  no_words false = refl

  no_texts : (test : Bool) → (if test then valued f (texts_in (filter_map t vs)) else []) ≡ []
  no_texts true = rw e refl
  no_texts false = refl

pub nothing_adds : (m : Mapping) (g f s : ℕ) (v : JsonValue) (d : FlatDocument) → shown_items m g f s v ≡ [] → Adds m g s v f d d
nothing_adds m g f s v d e =
    let numbers : numbers_of m g s v f ≡ [] = no_numbers f (convert (kind_at m f)) (shown_items m g f s v) e (has_numbers (kind_at m f)) in
    let keywords : keywords_of m g s v f ≡ [] = no_keywords f (convert (kind_at m f)) (shown_items m g f s v) e (is_keyword (kind_at m f)) in
    let words : words_of m g s v f ≡ [] = no_words f (convert (kind_at m f)) (shown_items m g f s v) e (is_text (kind_at m f)) in
    let texts : texts_of m g s v f ≡ [] = no_texts f (convert (kind_at m f)) (shown_items m g f s v) e (is_text (kind_at m f)) in
    record {
      scope = refl;
      numbers = rw numbers (sym (nothing_more d.numbers));
      keywords = rw keywords (sym (nothing_more d.keywords));
      words = rw words (sym (nothing_more d.words));
      texts = rw texts (sym (nothing_more d.texts));
    }

pub unshown_adds : (m : Mapping) (g f s : ℕ) (v : JsonValue) (d : FlatDocument) → ((home_of m f == s) || included m f s) ≡ false → Adds m g s v f d d
unshown_adds m g f s v d none = nothing_adds m g f s v d (nothing_shown m g f s v none)

-- so a document has what the fields before the next one add that is shown
pub begun_over : (m : Mapping) (g s : ℕ) (v : JsonValue) (d : FlatDocument) (at count : ℕ) → at + count ≤ length m.fields → ((f : ℕ) → at ≤ f → f < at + count → shown_items m g f s v ≡ [])
    → IsBegun m g s v at d → IsBegun m g s v (at + count) d
begun_over m g s v d at zero h none begun = subst (λ (n : ℕ). IsBegun m g s v n d) (omega arith) begun
begun_over m g s v d at (suc count) h none begun =
    let next : (at + 1) + count ≡ at + suc count = omega arith in
    let own : shown_items m g at s v ≡ [] = none at (omega arith) (omega arith) in
    subst (λ (n : ℕ). IsBegun m g s v n d) next
    (begun_over m g s v d (at + 1) count (omega (arith, h)) (λ f low high. none f (omega (arith, low)) (omega (arith, high)))
    (begun_next m g s v at d d (omega (arith, h)) begun (nothing_adds m g at s v d own)))

-- ---- where a field can be included

outer_below : (m : Mapping) → IsMapping m → (n s : ℕ) → n < s → outer m n < s
outer_below m is zero s less = let none : outer m 0 ≡ 0 = ap (λ (scope : Scope). scope.around) is.root in omega (arith, none, less)
outer_below m is (suc n) s less = omega (arith, is.behind (suc n) (omega arith), less)

-- the flags of a scope lead to no scope of a greater number
none_beyond : (m : Mapping) → IsMapping m → (left n s : ℕ) → n < s → reaches m left n s ≡ false
none_beyond m is zero n s less = grind (arith, nat_tests, less)
none_beyond m is (suc left) n s less =
    let other : (n == s) ≡ false = grind (arith, nat_tests, less) in
    let nested : (s == 0) ≡ false = grind (arith, nat_tests, less) in
    rw (other, nested, none_beyond m is left (outer m n) s (outer_below m is n s less)) (neither_flag (scope_at m n).in_parent (scope_at m n).in_root)
  where
    neither_flag : (parent root : Bool) → ((parent && false) || (root && false)) ≡ false
    neither_flag true true = refl
    neither_flag true false = refl
    neither_flag false true = refl
    neither_flag false false = refl

pub never_beyond : (m : Mapping) → IsMapping m → (f s : ℕ) → home_of m f < s → ((home_of m f == s) || included m f s) ≡ false
unfolding included
never_beyond m is f s less =
    let other : (home_of m f == s) ≡ false = grind (arith, nat_tests, less) in
    rw (other, none_beyond m is (home_of m f) (home_of m f) s less) refl
