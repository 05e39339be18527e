-- Further bodies of a mapping leave what a segment says of trees that were indexed before them.
use Rattle.std.proofs.Common.{◌≡◌, ℕ, zero, suc, ◌+◌, ◌<◌, ◌≤◌, nat_lt, Bool, List, [], ◌∷◌, length, map, filter, get_or, ℤ, refl, sym, ap, ◌∙◌, arith}
use Rattle.std.specs.List.{AllByRecursion, flat_map, range_with_len}
use Rattle.std.specs.Ordering.{int_cmp}
use Rattle.std.proofs.lemmas.List.{get_or_append_left, length-append}
use Rattle.mapping_body.proofs.Walks.{split}
use Rattle.mapping_body.specs.declared.kind.Kind.{Kind}
use Rattle.mapping.specs.Growth.{HasFurtherBodies}
use Rattle.mapping.specs.IsMapping.{IsMapping}
use Rattle.mapping.specs.Mapping.{Mapping, Field, field_at, kids, kind_at, no_field}
use Rattle.segment.specs.Flat.{FlatDocument, has_some}
use Rattle.segment.specs.Live.{LiveState}
use Rattle.segment_parts.specs.declared.columns.Columns.{Columns}
use Rattle.tree_json.specs.Value.{JsonValue}
use Rattle.tree_objects.specs.Fault.{first_fault}
use Rattle.tree_objects.specs.Object.{Object, root, inside, scope, tree_of, block_objects, children, objects}
use Rattle.tree_objects.specs.Tree.{Tree}
use Rattle.tree_objects.specs.Values.{join_of, values}
use Rattle.tree_objects.specs.declared.field_value.FieldValue.{FieldValue}
use Rattle.tree_objects.proofs.Inside.{children_each, each_append, each_flat}
use Rattle.flattener.specs.Block.{BlockState, block_of, block_refusal, flats_of_tree, root_of_tree}
use Rattle.flattener.specs.Fits.{BlockFits}
use Rattle.flattener.specs.Flat.{flat_of, ascending, bytes_cmp, field_words, has_numbers, is_keyword, is_text, numbers_in, texts_in, tokens}
use Rattle.flattener.specs.StandsFor.{EntryStandsFor, Marked, by_document, flat_at, live_mark}

-- trees that were indexed before further bodies have the same objects, values and relation
pub record KeepsTrees (m m2 : Mapping) : Type 0 where
  pub objects : (tree : Tree) → tree.generation ≤ length m.bodies → block_objects m2 tree ≡ block_objects m tree
  pub shown : (f : ℕ) (o : Object) → f < length m.fields → values m2 f o ≡ values m f o
  pub later : (f : ℕ) (o : Object) → (tree_of o).generation ≤ length m.bodies → length m.fields ≤ f → f < length m2.fields → values m2 f o ≡ []
  pub join : (tree : Tree) → tree.generation ≤ length m.bodies → join_of m2 tree ≡ join_of m tree
  pub faults : (g : ℕ) (source : JsonValue) → g ≤ length m.bodies → first_fault m2 g source ≡ first_fault m g source

-- ---- lists of fields, of which the later ones have nothing

-- what is made of the values of the fields from one number on, under the mapping with further fields and under the other
record AreFurther {X : Type 0} (t2 t : ℕ → Bool) (f2 f : ℕ → List X) (at count more : ℕ) : Type 0 where
  kinds : (n : ℕ) → n < at + count → t2 n ≡ t n
  same : (n : ℕ) → n < at + count → f2 n ≡ f n
  none : (n : ℕ) → at + count ≤ n → n < at + count + more → f2 n ≡ []

next_further : {X : Type 0} (t2 t : ℕ → Bool) (f2 f : ℕ → List X) (at count more : ℕ) → AreFurther t2 t f2 f at (suc count) more → AreFurther t2 t f2 f (at + 1) count more
next_further t2 t f2 f at count more are = record {
  kinds = λ n h. are.kinds n (omega (arith, h));
  same = λ n h. are.same n (omega (arith, h));
  none = λ n h k. are.none n (omega (arith, h)) (omega (arith, k));
}

start_further : {X : Type 0} (t2 t : ℕ → Bool) (f2 f : ℕ → List X) (at more : ℕ) → AreFurther t2 t f2 f at 0 more → (n : ℕ) → at ≤ n → n < at + more → f2 n ≡ []
start_further t2 t f2 f at more are n h k = are.none n (omega (arith, h)) (omega (arith, k))

-- pairs of a field with values that aren't none
abbrev with_values : {X : Type 0} → (ℕ → Bool) → (ℕ → List X) → List ℕ → List (ℕ × List X)
with_values {X} t f ns = filter has_some (map (λ n. (n, f n)) (filter t ns))

none_with_values : {X : Type 0} (t : ℕ → Bool) (f : ℕ → List X) (at more : ℕ) → ((n : ℕ) → at ≤ n → n < at + more → f n ≡ []) → with_values t f (range_with_len at more) ≡ []
none_with_values t f at zero none = refl
none_with_values t f at (suc more) none =
    let rest = none_with_values t f (at + 1) more (λ n h k. none n (omega (arith, h)) (omega (arith, k))) in
    split (t at)
    (λ held. rw (held, none at (omega arith) (omega arith)) rest)
    (λ failed. rw failed rest)

further_with_values : {X : Type 0} (t2 t : ℕ → Bool) (f2 f : ℕ → List X) (at count more : ℕ) → AreFurther t2 t f2 f at count more
    → with_values t2 f2 (range_with_len at (count + more)) ≡ with_values t f (range_with_len at count)
further_with_values t2 t f2 f at zero more are =
    let whole : zero + more ≡ more = omega arith in
    rw whole (none_with_values t2 f2 at more (start_further t2 t f2 f at more are))
further_with_values t2 t f2 f at (suc count) more are =
    let whole : suc count + more ≡ suc (count + more) = omega arith in
    let rest = further_with_values t2 t f2 f (at + 1) count more (next_further t2 t f2 f at count more are) in
    let kind = are.kinds at (omega arith) in
    let own = are.same at (omega arith) in
    rw whole (split (t at)
    (λ held. rw (kind, held, own) (split (nat_lt 0 (length (f at)))
    (λ some. rw (some, rest) refl)
    (λ none. rw (none, rest) refl)))
    (λ failed. rw (kind, failed) rest))

-- the words of fields
abbrev words_of_each : (ℕ → Bool) → (ℕ → List (List ℕ)) → List ℕ → List ((ℕ × List ℕ) × List ℕ)
words_of_each t f ns = flat_map field_words (map (λ n. (n, f n)) (filter t ns))

no_words : (f : ℕ) → field_words (f, []) ≡ []
unfolding tokens
no_words f = refl

none_words : (t : ℕ → Bool) (f : ℕ → List (List ℕ)) (at more : ℕ) → ((n : ℕ) → at ≤ n → n < at + more → f n ≡ []) → words_of_each t f (range_with_len at more) ≡ []
none_words t f at zero none = refl
none_words t f at (suc more) none =
    let rest = none_words t f (at + 1) more (λ n h k. none n (omega (arith, h)) (omega (arith, k))) in
    split (t at)
    (λ held. rw (held, none at (omega arith) (omega arith), no_words at) rest)
    (λ failed. rw failed rest)

further_words : (t2 t : ℕ → Bool) (f2 f : ℕ → List (List ℕ)) (at count more : ℕ) → AreFurther t2 t f2 f at count more
    → words_of_each t2 f2 (range_with_len at (count + more)) ≡ words_of_each t f (range_with_len at count)
further_words t2 t f2 f at zero more are =
    let whole : zero + more ≡ more = omega arith in
    rw whole (none_words t2 f2 at more (start_further t2 t f2 f at more are))
further_words t2 t f2 f at (suc count) more are =
    let whole : suc count + more ≡ suc (count + more) = omega arith in
    let rest = further_words t2 t f2 f (at + 1) count more (next_further t2 t f2 f at count more are) in
    let kind = are.kinds at (omega arith) in
    let own = are.same at (omega arith) in
    rw whole (split (t at)
    (λ held. rw (kind, held, own, rest) refl)
    (λ failed. rw (kind, failed) rest))

-- ---- the fields of both mappings

field_same : (m m2 : Mapping) → HasFurtherBodies m m2 → (f : ℕ) → f < length m.fields → field_at m2 f ≡ field_at m f
field_same m m2 has f h = ap (λ (fs : List Field). get_or fs f no_field) has.fields.is ∙ get_or_append_left m.fields has.fields.more no_field f h

abbrev IsUpTo : ℕ → Object → Type 0
IsUpTo g o = (tree_of o).generation ≤ g

-- what is made of values, where nothing is made of none
are_further : {X : Type 0} (m m2 : Mapping) (test : Kind → Bool) (made : List FieldValue → List X) (o : Object) (more : ℕ) → HasFurtherBodies m m2 → KeepsTrees m m2 → IsUpTo (length m.bodies) o → made [] ≡ []
    → length m2.fields ≡ length m.fields + more → AreFurther (λ n. test (kind_at m2 n)) (λ n. test (kind_at m n)) (λ n. made (values m2 n o)) (λ n. made (values m n o)) 0 (length m.fields) more
are_further m m2 test made o more has keeps old nothing long = record {
  kinds = λ n h. ap (λ (f : Field). test f.kind) (field_same m m2 has n (omega (arith, h)));
  same = λ n h. ap made (keeps.shown n o (omega (arith, h)));
  none = λ n h k. ap made (keeps.later n o old (omega (arith, h)) (omega (arith, k, long))) ∙ nothing;
}

-- ---- a document

abbrev made_of : ℕ → List (ℕ × List ℤ) → List (ℕ × List (List ℕ)) → List ((ℕ × List ℕ) × List ℕ) → List ℕ → FlatDocument
made_of s numbers keywords words texts = record { scope = s; numbers = numbers; keywords = keywords; words = words; texts = texts }

same_made : (s : ℕ) (a b : List (ℕ × List ℤ)) (c d : List (ℕ × List (List ℕ))) (e f : List ((ℕ × List ℕ) × List ℕ)) (h k : List ℕ) →
    a ≡ b → c ≡ d → e ≡ f → h ≡ k → made_of s a c e h ≡ made_of s b d f k
same_made s a b c d e f h k p q r t = rw (p, q, r, t) refl

pub flat_same : (m m2 : Mapping) (o : Object) → HasFurtherBodies m m2 → KeepsTrees m m2 → IsUpTo (length m.bodies) o → flat_of m2 o ≡ flat_of m o
flat_same m m2 o has keeps old =
    let count = length m.fields in
    let more = length has.fields.more in
    let long : length m2.fields ≡ count + more = ap length has.fields.is ∙ length-append m.fields has.fields.more in
    let numbers_by : List FieldValue → List ℤ = λ vs. ascending int_cmp (numbers_in vs) in
    let keywords_by : List FieldValue → List (List ℕ) = λ vs. ascending bytes_cmp (texts_in vs) in
    let texts = further_with_values (λ n. is_text (kind_at m2 n)) (λ n. is_text (kind_at m n)) (λ n. texts_in (values m2 n o)) (λ n. texts_in (values m n o)) 0 count more
    (are_further m m2 is_text texts_in o more has keeps old refl long) in
    rw long (same_made (scope o) _ _ _ _ _ _ _ _
    (further_with_values (λ n. has_numbers (kind_at m2 n)) (λ n. has_numbers (kind_at m n)) (λ n. numbers_by (values m2 n o)) (λ n. numbers_by (values m n o)) 0 count more
    (are_further m m2 has_numbers numbers_by o more has keeps old refl long))
    (further_with_values (λ n. is_keyword (kind_at m2 n)) (λ n. is_keyword (kind_at m n)) (λ n. keywords_by (values m2 n o)) (λ n. keywords_by (values m n o)) 0 count more
    (are_further m m2 is_keyword keywords_by o more has keeps old refl long))
    (further_words (λ n. is_text (kind_at m2 n)) (λ n. is_text (kind_at m n)) (λ n. texts_in (values m2 n o)) (λ n. texts_in (values m n o)) 0 count more
    (are_further m m2 is_text texts_in o more has keeps old refl long))
    (ap (map (λ (field : ℕ × List (List ℕ)). field.0)) texts))

-- ---- the documents of trees

abbrev IsIn : Tree → Object → Type 0
IsIn tree o = tree_of o ≡ tree

each_kid_in : (m : Mapping) (tree : Tree) (left : ℕ) (o : Object) → IsIn tree o → (ns : List ℕ) → ((c : Object) → IsIn tree c → AllByRecursion (IsIn tree) (objects m left c))
    → AllByRecursion (λ (n : ℕ). AllByRecursion (IsIn tree) (flat_map (λ c. objects m left c) (children m o n))) ns
each_kid_in m tree left o own [] each = tt
each_kid_in m tree left o own (n ∷ ns) each = (
  each_flat (IsIn tree) (λ c. objects m left c) (children m o n)
      (children_each (λ (c : Object). AllByRecursion (IsIn tree) (objects m left c)) m o n (λ j v. each (inside o n j v) own)),
  each_kid_in m tree left o own ns each,
)

each_in : (m : Mapping) (tree : Tree) (left : ℕ) (o : Object) → IsIn tree o → AllByRecursion (IsIn tree) (objects m left o)
each_in m tree zero o own = (own, tt)
each_in m tree (suc left) o own =
    each_append (IsIn tree) (flat_map (λ n. flat_map (λ c. objects m left c) (children m o n)) (kids m (scope o))) (o ∷ [])
    (each_flat (IsIn tree) (λ n. flat_map (λ c. objects m left c) (children m o n)) (kids m (scope o))
    (each_kid_in m tree left o own (kids m (scope o)) (λ c e. each_in m tree left c e)))
    (own, tt)

tree_in : (m : Mapping) (tree : Tree) → AllByRecursion (IsIn tree) (block_objects m tree)
unfolding block_objects
tree_in m tree = each_in m tree (length m.scopes) (root tree) refl

mapped_same : {A B : Type 0} (P : A → Type 0) (f g : A → B) → ((x : A) → P x → f x ≡ g x) → (xs : List A) → AllByRecursion P xs → map f xs ≡ map g xs
mapped_same P f g same [] each = refl
mapped_same P f g same (x ∷ xs) each = rw (same x each.0, mapped_same P f g same xs each.1) refl

-- what a document shows that is the same under both mappings
by_document_same : {A : Type 0} (m m2 : Mapping) (f g : Bool → Object → A) (trees : List (Marked Tree)) → KeepsTrees m m2 → ((live : Bool) (o : Object) → IsUpTo (length m.bodies) o → f live o ≡ g live o)
    → AllByRecursion (λ (t : Marked Tree). t.item.generation ≤ length m.bodies) trees → by_document m2 f trees ≡ by_document m g trees
by_document_same m m2 f g [] keeps same old = refl
by_document_same m m2 f g (t ∷ trees) keeps same old =
    rw (
      keeps.objects t.item old.0,
      mapped_same (IsIn t.item) (f t.live) (g t.live) (λ o own. same t.live o (rw own old.0)) (block_objects m t.item) (tree_in m t.item),
      by_document_same m m2 f g trees keeps same old.1,
    ) refl

root_same : (m m2 : Mapping) (tree : Tree) → KeepsTrees m m2 → tree.generation ≤ length m.bodies → root_of_tree m2 tree ≡ root_of_tree m tree
unfolding root_of_tree
root_same m m2 tree keeps old = rw (keeps.join tree old) refl

roots_same : (m m2 : Mapping) (trees : List (Marked Tree)) → KeepsTrees m m2 → AllByRecursion (λ (t : Marked Tree). t.item.generation ≤ length m.bodies) trees
    → map (λ (t : Marked Tree). root_of_tree m2 t.item) trees ≡ map (λ (t : Marked Tree). root_of_tree m t.item) trees
roots_same m m2 [] keeps old = refl
roots_same m m2 (t ∷ trees) keeps old = rw (root_same m m2 t.item keeps old.0, roots_same m m2 trees keeps old.1) refl

pub entry_same : (m m2 : Mapping) (columns : Columns) (bits : LiveState) (trees : List (Marked Tree)) → IsMapping m2 → HasFurtherBodies m m2 → KeepsTrees m m2
    → AllByRecursion (λ (t : Marked Tree). t.item.generation ≤ length m.bodies) trees → EntryStandsFor m columns bits trees → EntryStandsFor m2 columns bits trees
entry_same m m2 columns bits trees is has keeps old stands = record {
  mapping = is;
  flats = stands.flats ∙ sym (by_document_same m m2 (flat_at m2) (flat_at m) trees keeps (λ live o own. flat_same m m2 o has keeps own) old);
  roots = stands.roots ∙ sym (roots_same m m2 trees keeps old);
  live = stands.live ∙ sym (by_document_same m m2 live_mark live_mark trees keeps (λ live o own. refl) old);
  live_roots = stands.live_roots;
}

-- ---- a block

flats_same : (m m2 : Mapping) (tree : Tree) → HasFurtherBodies m m2 → KeepsTrees m m2 → tree.generation ≤ length m.bodies → flats_of_tree m2 tree ≡ flats_of_tree m tree
unfolding flats_of_tree
flats_same m m2 tree has keeps old =
    ap (map (flat_of m2)) (keeps.objects tree old)
    ∙ mapped_same (IsIn tree) (flat_of m2) (flat_of m) (λ o own. flat_same m m2 o has keeps (rw own old)) (block_objects m tree) (tree_in m tree)

refusal_same : (m m2 : Mapping) (tree : Tree) → KeepsTrees m m2 → tree.generation ≤ length m.bodies → block_refusal m2 tree ≡ block_refusal m tree
unfolding block_refusal
refusal_same m m2 tree keeps old = rw (keeps.faults tree.generation tree.source old, keeps.objects tree old) refl

pub block_of_same : (m m2 : Mapping) (tree : Tree) → HasFurtherBodies m m2 → KeepsTrees m m2 → tree.generation ≤ length m.bodies → block_of m2 tree ≡ block_of m tree
block_of_same m m2 tree has keeps old = rw (flats_same m m2 tree has keeps old, root_same m m2 tree keeps old) refl

pub block_same : (m m2 : Mapping) (block : BlockState) → HasFurtherBodies m m2 → KeepsTrees m m2 → BlockFits m block → BlockFits m2 block
block_same m m2 block has keeps fits =
    let old = fits.given.last in
    record {
      tree = fits.tree;
      given = record { id = fits.given.id; source = fits.given.source; first = fits.given.first; last = omega (arith, old, has.bodies) };
      accepted = refusal_same m m2 fits.tree keeps old ∙ fits.accepted;
      number = fits.number;
      is = fits.is ∙ sym (block_of_same m m2 fits.tree has keeps old);
    }
