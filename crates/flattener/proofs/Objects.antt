-- The walk by contents meets the objects of a tree, and each of them with its values.
use Rattle.std.proofs.Common.{◌≡◌, ℕ, zero, suc, ◌+◌, ◌==◌, ℤ, Bool, Option, List, [], ◌∷◌, ◌++◌, length, map, filter, cond, refl, sym, ap, ◌∙◌, nat_le, nat_lt}
use Rattle.std.proofs.lemmas.List.{map-append, length-map}
use Rattle.std.proofs.lemmas.List.Concat.{flat_map-append}
use Rattle.std.proofs.lemmas.List.Elements.{filter_map-append}
use Rattle.std.specs.Ordering.{int_cmp}
use Rattle.std.specs.List.{flat_map, filter_map, range_with_len}
use Rattle.mapping.specs.Mapping.{Mapping, kind_at, home_of, scope_at, kids, shows, knows}
use Rattle.segment.specs.Flat.{FlatDocument, has_some}
use Rattle.tree_json.specs.Value.{JsonValue, is_object}
use Rattle.tree_objects.specs.Object.{Object, root, inside, scope, content, tree_of, given, numbered, children, below, below_along, way, objects, block_objects, items}
use Rattle.tree_objects.specs.Tree.{Tree}
use Rattle.tree_objects.specs.Values.{values, own_values, convert}
use Rattle.tree_objects.specs.declared.field_value.FieldValue.{FieldValue}
use Rattle.flattener.specs.Flat.{flat_of, ascending, bytes_cmp, numbers_in, texts_in, has_numbers, is_keyword, is_text, number_field, keyword_field, text_field, field_words, tokens, words_of_field}
use Rattle.flattener.specs.Block.{flats_of_tree}
use Rattle.flattener.specs.Walked.{children_at, along, walked, own_items, values_at, flat_pair, numbers_of, keywords_of, words_of, texts_of, flat_at, kept, valued}
use Rattle.mapping_body.proofs.Walks.{split}

abbrev age : Object → ℕ
age o = (tree_of o).generation

-- ---- contents below an object are those of the objects below it

numbered_walked : {A : Type 0} (f : Object → List A) (h : ℕ → JsonValue → List A) (o : Object) (n k : ℕ) (vs : List JsonValue) →
    ((j : ℕ) (v : JsonValue) → f (inside o n j v) ≡ h n v) → flat_map f (numbered o n k vs) ≡ flat_map (h n) vs
numbered_walked f h o n k [] each = refl
numbered_walked f h o n k (v ∷ vs) each = rw (each k v, numbered_walked f h o n (k + 1) vs each) refl

children_walked : {A : Type 0} (f : Object → List A) (h : ℕ → JsonValue → List A) (m : Mapping) (o : Object) (n : ℕ) →
    ((j : ℕ) (v : JsonValue) → f (inside o n j v) ≡ h n v) → flat_map f (children m o n) ≡ flat_map (h n) (children_at m (age o) n (content o))
unfolding given
children_walked f h m o n each =
    split (nat_le (scope_at m n).since (age o))
    (λ yes. rw yes (numbered_walked f h o n 0 (filter is_object (items (content o) (scope_at m n).names)) each))
    (λ no. rw no refl)

flat_flat : {A B C : Type 0} (f : B → List C) (g : A → List B) (xs : List A) → flat_map f (flat_map g xs) ≡ flat_map (λ x. flat_map f (g x)) xs
flat_flat f g [] = refl
flat_flat f g (x ∷ xs) = flat_map-append f (g x) (flat_map g xs) ∙ ap (λ ys. flat_map f (g x) ++ ys) (flat_flat f g xs)

flat_filter : {A B C : Type 0} (t : B → Option C) (g : A → List B) (xs : List A) → filter_map t (flat_map g xs) ≡ flat_map (λ x. filter_map t (g x)) xs
flat_filter t g [] = refl
flat_filter t g (x ∷ xs) = filter_map-append t (g x) (flat_map g xs) ∙ ap (λ ys. filter_map t (g x) ++ ys) (flat_filter t g xs)

abbrev own_at : Mapping → ℕ → ℕ → JsonValue → List FieldValue
own_at m g f v = filter_map (convert (kind_at m f)) (own_items m g f v)

own_walked : (m : Mapping) (f : ℕ) (o : Object) → own_values m f o ≡ own_at m (age o) f (content o)
own_walked m f o =
    split (knows m (age o) f)
    (λ yes. rw yes refl)
    (λ no. rw no refl)

along_walked : (m : Mapping) (f : ℕ) (ns : List ℕ) (o : Object) → flat_map (own_values m f) (below_along m o ns) ≡ flat_map (own_at m (age o) f) (along m (age o) ns (content o))
along_walked m f [] o = ap (λ vs. vs ++ []) (own_walked m f o)
along_walked m f (n ∷ ns) o =
    flat_flat (own_values m f) (λ c. below_along m c ns) (children m o n)
    ∙ children_walked (λ c. flat_map (own_values m f) (below_along m c ns)) (λ p v. flat_map (own_at m (age o) f) (along m (age o) ns v)) m o n (λ j v. along_walked m f ns (inside o n j v))
    ∙ sym (flat_flat (own_at m (age o) f) (along m (age o) ns) (children_at m (age o) n (content o)))

pub values_walked : (m : Mapping) (f : ℕ) (o : Object) → values m f o ≡ values_at m (age o) f (scope o) (content o)
unfolding below
values_walked m f o =
    split (home_of m f == scope o)
    (λ home. rw home (own_walked m f o))
    (λ other. rw other (split (shows m (age o) f (scope o))
    (λ shown. rw shown (along_walked m f (way m (scope o) (home_of m f)) o
    ∙ sym (flat_filter (convert (kind_at m f)) (own_items m (age o) f) (along m (age o) (way m (scope o) (home_of m f)) (content o)))))
    (λ hidden. rw hidden refl)))

-- ---- fields of one kind, as a filter and as what each adds

fields_kept : {X : Type 0} (t : ℕ → Bool) (f : ℕ → ℕ × List X) (fs : List ℕ) →
    filter has_some (map f (filter t fs)) ≡ flat_map (λ n. cond (t n) (kept (f n)) []) fs
fields_kept t f [] = refl
fields_kept t f (n ∷ fs) =
    split (t n)
    (λ yes. rw yes (split (has_some (f n))
    (λ some. rw (some, fields_kept t f fs) refl)
    (λ none. rw (none, fields_kept t f fs) refl)))
    (λ no. rw (no, fields_kept t f fs) refl)

fields_flat : {X Y : Type 0} (t : ℕ → Bool) (f : ℕ → X) (g : X → List Y) (fs : List ℕ) →
    flat_map g (map f (filter t fs)) ≡ flat_map (λ n. cond (t n) (g (f n)) []) fs
fields_flat t f g [] = refl
fields_flat t f g (n ∷ fs) =
    split (t n)
    (λ yes. rw (yes, fields_flat t f g fs) refl)
    (λ no. rw (no, fields_flat t f g fs) refl)

fields_valued : {X : Type 0} (t : ℕ → Bool) (f : ℕ → List X) (fs : List ℕ) →
    map (λ (p : ℕ × List X). p.0) (filter has_some (map (λ n. (n, f n)) (filter t fs))) ≡ flat_map (λ n. cond (t n) (valued n (f n)) []) fs
fields_valued t f [] = refl
fields_valued t f (n ∷ fs) =
    split (t n)
    (λ yes. rw yes (split (nat_lt 0 (length (f n)))
    (λ some. rw (some, fields_valued t f fs) refl)
    (λ none. rw (none, fields_valued t f fs) refl)))
    (λ no. rw (no, fields_valued t f fs) refl)

same_flat : {A B : Type 0} (f g : A → List B) → ((x : A) → f x ≡ g x) → (xs : List A) → flat_map f xs ≡ flat_map g xs
same_flat f g each [] = refl
same_flat f g each (x ∷ xs) = rw (each x, same_flat f g each xs) refl

-- ---- a document

abbrev made : ℕ → List (ℕ × List ℤ) → List (ℕ × List (List ℕ)) → List ((ℕ × List ℕ) × List ℕ) → List ℕ → FlatDocument
made s numbers keywords words texts = record { scope = s; numbers = numbers; keywords = keywords; words = words; texts = texts }

made_same : (s : ℕ) (a b : List (ℕ × List ℤ)) (c d : List (ℕ × List (List ℕ))) (e f : List ((ℕ × List ℕ) × List ℕ)) (h k : List ℕ) →
    a ≡ b → c ≡ d → e ≡ f → h ≡ k → made s a c e h ≡ made s b d f k
made_same s a b c d e f h k p q r t = rw (p, q, r, t) refl

abbrev every : Mapping → List ℕ
every m = range_with_len 0 (length m.fields)

pub flat_walked : (m : Mapping) (o : Object) → flat_of m o ≡ flat_at m (age o) (scope o) (content o)
flat_walked m o =
    made_same (scope o) _ _ _ _ _ _ _ _
    (fields_kept (λ f. has_numbers (kind_at m f)) (number_field m o) (every m)
    ∙ same_flat (λ f. cond (has_numbers (kind_at m f)) (kept (number_field m o f)) []) (numbers_of m (age o) (scope o) (content o))
    (λ f. ap (λ vs. cond (has_numbers (kind_at m f)) (kept (f, ascending int_cmp (numbers_in vs))) []) (values_walked m f o)) (every m))
    (fields_kept (λ f. is_keyword (kind_at m f)) (keyword_field m o) (every m)
    ∙ same_flat (λ f. cond (is_keyword (kind_at m f)) (kept (keyword_field m o f)) []) (keywords_of m (age o) (scope o) (content o))
    (λ f. ap (λ vs. cond (is_keyword (kind_at m f)) (kept (f, ascending bytes_cmp (texts_in vs))) []) (values_walked m f o)) (every m))
    (fields_flat (λ f. is_text (kind_at m f)) (text_field m o) field_words (every m)
    ∙ same_flat (λ f. cond (is_text (kind_at m f)) (field_words (text_field m o f)) []) (words_of m (age o) (scope o) (content o))
    (λ f. ap (λ vs. cond (is_text (kind_at m f)) (words_of_field f (tokens (texts_in vs))) []) (values_walked m f o)) (every m))
    (fields_valued (λ f. is_text (kind_at m f)) (λ f. texts_in (values m f o)) (every m)
    ∙ same_flat (λ f. cond (is_text (kind_at m f)) (valued f (texts_in (values m f o))) []) (texts_of m (age o) (scope o) (content o))
    (λ f. ap (λ vs. cond (is_text (kind_at m f)) (valued f (texts_in vs)) []) (values_walked m f o)) (every m))

-- ---- a block

map_flat : {A B C : Type 0} (f : B → C) (g : A → List B) (xs : List A) → map f (flat_map g xs) ≡ flat_map (λ x. map f (g x)) xs
map_flat f g [] = refl
map_flat f g (x ∷ xs) = map-append f (g x) (flat_map g xs) ∙ ap (λ ys. map f (g x) ++ ys) (map_flat f g xs)

objects_walked : (m : Mapping) (left : ℕ) (o : Object) →
    map (flat_of m) (objects m left o) ≡ map (flat_pair m (age o)) (walked m (age o) left (scope o) (content o))
objects_walked m zero o = ap (λ d. d ∷ []) (flat_walked m o)
objects_walked m (suc left) o =
    let at : (n : ℕ) → map (flat_of m) (flat_map (λ c. objects m left c) (children m o n)) ≡ map (flat_pair m (age o)) (flat_map (walked m (age o) left n) (children_at m (age o) n (content o))) =
    λ n. map_flat (flat_of m) (λ c. objects m left c) (children m o n)
    ∙ children_walked (λ c. map (flat_of m) (objects m left c)) (λ p v. map (flat_pair m (age o)) (walked m (age o) left p v)) m o n (λ j v. objects_walked m left (inside o n j v))
    ∙ sym (map_flat (flat_pair m (age o)) (walked m (age o) left n) (children_at m (age o) n (content o))) in
    let here : map (flat_of m) (flat_map (λ n. flat_map (λ c. objects m left c) (children m o n)) (kids m (scope o))) ≡ map (flat_pair m (age o)) (flat_map (λ n. flat_map (walked m (age o) left n) (children_at m (age o) n (content o))) (kids m (scope o))) =
    map_flat (flat_of m) (λ n. flat_map (λ c. objects m left c) (children m o n)) (kids m (scope o))
    ∙ same_flat (λ n. map (flat_of m) (flat_map (λ c. objects m left c) (children m o n))) (λ n. map (flat_pair m (age o)) (flat_map (walked m (age o) left n) (children_at m (age o) n (content o)))) at (kids m (scope o))
    ∙ sym (map_flat (flat_pair m (age o)) (λ n. flat_map (walked m (age o) left n) (children_at m (age o) n (content o))) (kids m (scope o))) in
    map-append (flat_of m) (flat_map (λ n. flat_map (λ c. objects m left c) (children m o n)) (kids m (scope o))) (o ∷ [])
    ∙ rw (here, flat_walked m o) refl
    ∙ sym (map-append (flat_pair m (age o)) (flat_map (λ n. flat_map (walked m (age o) left n) (children_at m (age o) n (content o))) (kids m (scope o))) ((scope o, content o) ∷ []))

pub tree_walked : (m : Mapping) (tree : Tree) →
    flats_of_tree m tree ≡ map (flat_pair m tree.generation) (walked m tree.generation (length m.scopes) 0 tree.source)
unfolding flats_of_tree block_objects
tree_walked m tree = objects_walked m (length m.scopes) (root tree)

pub tree_count : (m : Mapping) (tree : Tree) → length (block_objects m tree) ≡ length (walked m tree.generation (length m.scopes) 0 tree.source)
unfolding flats_of_tree
tree_count m tree =
    sym (length-map (block_objects m tree) (flat_of m)) ∙ ap length (tree_walked m tree)
    ∙ length-map (walked m tree.generation (length m.scopes) 0 tree.source) (flat_pair m tree.generation)
