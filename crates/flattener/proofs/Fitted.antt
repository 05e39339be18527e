-- The documents of a tree have scopes and fields of the tree's generation.
use Rattle.std.proofs.Common.{◌≡◌, ℕ, zero, suc, ◌+◌, ◌<◌, ◌≤◌, ◌⊎◌, ◌==◌, inl, inr, nat_le, nat_lt, Bool, true, List, [], ◌∷◌, ◌++◌, length, map, filter, refl, sym, ap, subst, arith, ℤ}
use Rattle.std.specs.List.{AllByRecursion, flat_map, range_with_len}
use Rattle.std.specs.Ordering.{int_cmp}
use Rattle.std.proofs.lemmas.Bool.{eq-eqb, eqb-true}
use Rattle.std.proofs.lemmas.Bool.Decides.{nat_tests}
use Rattle.std.proofs.lemmas.List.Elements.{All-from_recursion}
use Rattle.mapping_body.specs.declared.kind.Kind.{Kind}
use Rattle.mapping.specs.IsMapping.{IsMapping}
use Rattle.mapping.specs.Mapping.{Mapping, kind_at, home_of, scope_at, kids, knows, shows, included, reaches}
use Rattle.mapping.proofs.Numbering.{IsKid, each_kid}
use Rattle.mapping_body.proofs.Walks.{split}
use Rattle.segment.specs.Flat.{has_some}
use Rattle.tree_json.specs.Value.{JsonValue, is_object}
use Rattle.tree_objects.specs.Object.{Object, root, inside, scope, content, items, numbered, tree_of, given, block_objects, children, objects}
use Rattle.tree_objects.specs.Tree.{Tree}
use Rattle.tree_objects.specs.Values.{values}
use Rattle.tree_objects.proofs.Inside.{each_append, each_flat, each_from}
use Rattle.flattener.specs.Fits.{IsDocument, IsFieldAt}
use Rattle.flattener.specs.Flat.{flat_of, ascending, bytes_cmp, numbers_in, texts_in, field_words, tokens, words_of_field, token_cmp, grouped, together, has_numbers, is_keyword, is_text}
use Rattle.std.specs.Str.{bytes_eq}

-- ---- every object stands at a scope of its tree's generation

pub record IsOf (m : Mapping) (tree : Tree) (o : Object) : Type 0 where
  pub tree_is : tree_of o ≡ tree
  pub in_range : scope o < length m.scopes
  pub known : (scope_at m (scope o)).since ≤ tree.generation

numbered_each : (P : Object → Type 0) (o : Object) (n k : ℕ) (vs : List JsonValue) → ((j : ℕ) (v : JsonValue) → P (inside o n j v)) → AllByRecursion P (numbered o n k vs)
numbered_each P o n k [] each = tt
numbered_each P o n k (v ∷ vs) each = (each k v, numbered_each P o n (k + 1) vs each)

-- children stand at a nested path that was there when the tree was indexed
children_known : (m : Mapping) (tree : Tree) (o : Object) (n : ℕ) (P : Object → Type 0) → tree_of o ≡ tree
    → ((scope_at m n).since ≤ tree.generation → (j : ℕ) (v : JsonValue) → P (inside o n j v)) → AllByRecursion P (children m o n)
unfolding given
children_known m tree o n P e each =
    split (nat_le (scope_at m n).since (tree_of o).generation)
    (λ held. let known : (scope_at m n).since ≤ tree.generation = rw (← e) (grind (arith, nat_tests)) in
    rw held (numbered_each P o n 0 (filter is_object (items (content o) (scope_at m n).names)) (each known)))
    (λ failed. rw failed tt)

each_of : (m : Mapping) (tree : Tree) (left : ℕ) (o : Object) → IsMapping m → IsOf m tree o → AllByRecursion (IsOf m tree) (objects m left o)
each_of m tree zero o is own = (own, tt)
each_of m tree (suc left) o is own =
    each_append (IsOf m tree) (flat_map (λ n. flat_map (λ c. objects m left c) (children m o n)) (kids m (scope o))) (o ∷ [])
    (each_flat (IsOf m tree) (λ n. flat_map (λ c. objects m left c) (children m o n)) (kids m (scope o))
    (each_from (IsKid m (scope o)) (λ (n : ℕ). AllByRecursion (IsOf m tree) (flat_map (λ c. objects m left c) (children m o n))) (λ n kid.
    each_flat (IsOf m tree) (λ c. objects m left c) (children m o n)
    (children_known m tree o n (λ (c : Object). AllByRecursion (IsOf m tree) (objects m left c)) own.tree_is (λ known j v.
    each_of m tree left (inside o n j v) is (record { tree_is = own.tree_is; in_range = kid.in_range; known = known }))))
    (kids m (scope o)) (each_kid m (scope o) is)))
    (own, tt)

pub objects_of_tree : (m : Mapping) (tree : Tree) → IsMapping m → 1 ≤ tree.generation → AllByRecursion (IsOf m tree) (block_objects m tree)
unfolding block_objects
objects_of_tree m tree is first =
    each_of m tree (length m.scopes) (root tree) is (record { tree_is = refl; in_range = is.some; known = rw is.root first })

-- ---- a field without a value has no place in a document, so each that has one is shown

reaches_itself : (m : Mapping) (left s : ℕ) → reaches m left s s ≡ true
reaches_itself m zero s = eq-eqb s s refl
reaches_itself m (suc left) s = rw (eq-eqb s s refl) refl

pub shown_or_none : (m : Mapping) (f : ℕ) (o : Object) → (shows m (tree_of o).generation f (scope o) ≡ true) ⊎ (values m f o ≡ [])
unfolding included
shown_or_none m f o =
    split (home_of m f == scope o)
    (λ home. split (knows m (tree_of o).generation f)
    (λ known. inl (let same : home_of m f ≡ scope o = eqb-true (home_of m f) (scope o) home in rw (known, ← same) (reaches_itself m (home_of m f) (home_of m f))))
    (λ unknown. inr (rw (home, unknown) refl)))
    (λ other. split (shows m (tree_of o).generation f (scope o))
    (λ shown. inl shown)
    (λ hidden. inr (rw (other, hidden) refl)))

-- the fields of a kind that have a value, by what is made of their values
fields_shown : {X : Type 0} (P : ℕ → Type 0) (t : ℕ → Bool) (f : ℕ → List X) (at count : ℕ) → ((n : ℕ) → n < at + count → t n ≡ true → (P n) ⊎ (f n ≡ []))
    → AllByRecursion (λ (p : ℕ × List X). P p.0) (filter has_some (map (λ n. (n, f n)) (filter t (range_with_len at count))))
fields_shown P t f at zero each = tt
fields_shown P t f at (suc count) each =
    let rest = fields_shown P t f (at + 1) count (λ n h. each n (omega (arith, h))) in
    split (t at)
    (λ yes. elim (each at (omega arith) yes) [
      | inl is ↦ split (nat_lt 0 (length (f at)))
          (λ some. rw (yes, some) (is, rest))
          (λ none. rw (yes, none) rest)
      | inr nothing ↦ rw (yes, nothing) rest
    ])
    (λ no. rw no rest)

-- ---- words

abbrev IsWordOf : ℕ → (ℕ × List ℕ) × List ℕ → Type 0
IsWordOf f word = word.0.0 ≡ f

together_of : (f : ℕ) (word positions : List ℕ) (ts : List (List ℕ × ℕ)) → AllByRecursion (IsWordOf f) (together f word positions ts)
together_of f word positions [] = (refl, tt)
together_of f word positions (token ∷ ts) =
    split (bytes_eq token.0 word)
    (λ same. rw same (together_of f word (positions ++ token.1 ∷ []) ts))
    (λ next. rw next (refl, together_of f token.0 (token.1 ∷ []) ts))

grouped_of : (f : ℕ) (ts : List (List ℕ × ℕ)) → AllByRecursion (IsWordOf f) (grouped f ts)
grouped_of f [] = tt
grouped_of f (token ∷ ts) = together_of f token.0 (token.1 ∷ []) ts

words_of_shown : (P : ℕ → Type 0) (f : ℕ) (ts : List (List ℕ × ℕ)) → P f → AllByRecursion (λ (word : (ℕ × List ℕ) × List ℕ). P word.0.0) (words_of_field f ts)
words_of_shown P f ts is =
    each_from (IsWordOf f) (λ (word : (ℕ × List ℕ) × List ℕ). P word.0.0) (λ word own. subst P (sym own) is) (words_of_field f ts) (grouped_of f (ascending token_cmp ts))

no_words : (f : ℕ) → field_words (f, []) ≡ []
unfolding tokens
no_words f = refl

words_shown : (P : ℕ → Type 0) (t : ℕ → Bool) (f : ℕ → List (List ℕ)) (at count : ℕ) → ((n : ℕ) → n < at + count → t n ≡ true → (P n) ⊎ (f n ≡ []))
    → AllByRecursion (λ (word : (ℕ × List ℕ) × List ℕ). P word.0.0) (flat_map field_words (map (λ n. (n, f n)) (filter t (range_with_len at count))))
words_shown P t f at zero each = tt
words_shown P t f at (suc count) each =
    let rest = words_shown P t f (at + 1) count (λ n h. each n (omega (arith, h))) in
    split (t at)
    (λ yes. rw yes (elim (each at (omega arith) yes) [
      | inl is ↦ each_append (λ (word : (ℕ × List ℕ) × List ℕ). P word.0.0) (field_words (at, f at)) _ (words_of_shown P at (tokens (f at)) is) rest
      | inr nothing ↦ rw (nothing, no_words at) rest
    ]))
    (λ no. rw no rest)

texts_shown : {X : Type 0} (P : ℕ → Type 0) (ps : List (ℕ × List X)) → AllByRecursion (λ (p : ℕ × List X). P p.0) ps → AllByRecursion P (map (λ (p : ℕ × List X). p.0) ps)
texts_shown P [] each = tt
texts_shown P (p ∷ ps) each = (each.0, texts_shown P ps each.1)

-- ---- a document

abbrev shown_at : (m : Mapping) (tree : Tree) (test : Kind → Bool) (o : Object) → IsOf m tree o → {X : Type 0} (f : ℕ → List X) → ((n : ℕ) → values m n o ≡ [] → f n ≡ [])
    → (n : ℕ) → n < 0 + length m.fields → test (kind_at m n) ≡ true → (IsFieldAt m tree.generation test (scope o) n) ⊎ (f n ≡ [])
shown_at m tree test o own f none n h kind = elim (shown_or_none m n o) [
  | inl shown ↦ inl (record { in_range = omega (arith, h); kind = kind; shown = rw own.tree_is at shown })
  | inr nothing ↦ inr (none n nothing)
]

pub document_fits : (m : Mapping) (tree : Tree) (o : Object) → IsOf m tree o → IsDocument m tree.generation (flat_of m o)
document_fits m tree o own =
    let count = length m.fields in
    let At : (Kind → Bool) → ℕ → Type 0 = λ test. IsFieldAt m tree.generation test (scope o) in
    let numbers_at : ℕ → List ℤ = λ n. ascending int_cmp (numbers_in (values m n o)) in
    let keywords_at : ℕ → List (List ℕ) = λ n. ascending bytes_cmp (texts_in (values m n o)) in
    let texts_at : ℕ → List (List ℕ) = λ n. texts_in (values m n o) in
    record {
      scope = own.in_range;
      known = own.known;
      numbers = All-from_recursion (λ (field : ℕ × List ℤ). At has_numbers field.0) _
          (fields_shown (At has_numbers) (λ n. has_numbers (kind_at m n)) numbers_at 0 count (shown_at m tree has_numbers o own numbers_at (λ n e. ap (λ vs. ascending int_cmp (numbers_in vs)) e)));
      keywords = All-from_recursion (λ (field : ℕ × List (List ℕ)). At is_keyword field.0) _
          (fields_shown (At is_keyword) (λ n. is_keyword (kind_at m n)) keywords_at 0 count (shown_at m tree is_keyword o own keywords_at (λ n e. ap (λ vs. ascending bytes_cmp (texts_in vs)) e)));
      words = All-from_recursion (λ (word : (ℕ × List ℕ) × List ℕ). At is_text word.0.0) _
          (words_shown (At is_text) (λ n. is_text (kind_at m n)) texts_at 0 count (shown_at m tree is_text o own texts_at (λ n e. ap texts_in e)));
      texts = All-from_recursion (At is_text) _
          (texts_shown (At is_text) _ (fields_shown (At is_text) (λ n. is_text (kind_at m n)) texts_at 0 count (shown_at m tree is_text o own texts_at (λ n e. ap texts_in e))));
    }
