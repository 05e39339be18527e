-- The definitions of inner hits of a body that is read and not refused are resolved at the objects that own them.
use Rattle.std.specs.Prelude.{⊤}
use Rattle.std.proofs.Common.{◌≡◌, ℕ, zero, suc, ◌+◌, ◌<◌, ◌≤◌, ◌==◌, ◌⊎◌, inl, inr, List as Seq, [], ◌∷◌, ◌++◌, length, Bool, true, false, ◌&&◌, ◌||◌, not, pos, nat_lt, nat_le, Option, Some, None, is_some, refl, sym, ap, ◌∙◌, subst, arith, bytes_eq, codes}
use Rattle.std.proofs.lemmas.Bool.{and_parts, and_from, false≢true, eqb-true, ltb-false, leb-false}
use Rattle.std.proofs.lemmas.Slice.Eq.{bytes_eq-Decides}
use Rattle.std.specs.List.{list_any, list_all}
use Rattle.tree_json.specs.Value.{JsonValue, null, bool, whole, text, list, object, Elements, no_elements, element, Members, no_members, member, member_of}
use Rattle.mapping_body.specs.Names.{dot, lies_above, goes_on}
use Rattle.mapping.specs.Mapping.{Mapping, scope_at, is_above, IsAbove}
use Rattle.query_ast.specs.Definition.{Definition, definitions_of}
use Rattle.query_ast.specs.Inner.{Inner}
use Rattle.query_ast.specs.Resolved.{IsResolved, AreSorts, IsBelow, IsChildRelation, IsParentRelation, IsInner, scope_over, AreInnerDefinitions}
use Rattle.query_ast.specs.declared.inner.InnerOver.{InnerOver}
use Rattle.query_ast.specs.declared.inner.InnerOver.TheVariants.{Below, Children, Parents, Ignored}
use Rattle.search_form.specs.declared.form.Form.{Form}
use Rattle.search_form.specs.declared.form.Form.TheVariants.{Body, Query, Nested, ToChild, HasChild, HasParent, Sort, SortNested, InnerHits, Buckets, Bucket, NestedBucket, ReverseNestedBucket, JoinBucket, Queries, Name, Whole, Flag}
use Rattle.search_form.specs.declared.form.Presence.{Presence}
use Rattle.search_form.specs.declared.form.Presence.TheVariants.{Optional}
use Rattle.search_form.specs.Table.{lines_of, other_of, element_of, single_of}
use Rattle.search_form.specs.Form.{form_at, line_in, line_among, chosen, has, suits, suits_list, allows_inner, has_form, all_have_form, each_has_form}
use Rattle.search_walk.specs.Fault.{below_fault, ignores}
use Rattle.search_walk.specs.Names.{text_of, text_under, nested_scope, nested_under, child_under, parent_under, root_if, path_or_root, bucket_scope, bucket_scope_in, scope_inside}
use Rattle.search_walk.specs.Node.{Node, node_here, nodes_at, nodes_in, nodes_among, level_under}
use Rattle.search_walk.specs.Refusal.{natural_or, window, has_large_window}
use Rattle.search_walk.specs.declared.refusal.SearchRefusal.TheVariants.{PathOutOfScope}
use Rattle.query_parser.specs.InnerHits.{below_if, children_if, parents_if, inner_of, held_by, owned_by, inner_at, inner_in, inner_among}
use Rattle.query_parser.specs.Queries.{clause_under}
use Rattle.query_parser.specs.Readings.{natural_of, up_to, number_under, child_in, parent_in}
use Rattle.query_parser.specs.Sorts.{sorts_under}
use Rattle.query_parser.proofs.Clauses.{under_is}
use Rattle.query_parser.proofs.Faults.{Clean, node, clean_head, clean_parts}
use Rattle.query_parser.proofs.Formed.{suits_parts, member_formed, member_clean}
use Rattle.query_parser.proofs.Found.{by_test, by_option, nested_found, child_found, parent_found}
use Rattle.query_parser.proofs.SortClauses.{sorts_under_are}

-- ---- a scope above another is above what lies below that

goes_trans : (a b c : Seq ℕ) → goes_on a b ≡ true → goes_on b c ≡ true → goes_on a c ≡ true
goes_trans [] [] c h g = absurd (false≢true h)
goes_trans [] (y ∷ b) [] h g = absurd (false≢true g)
goes_trans [] (y ∷ b) (z ∷ c) h g =
    let same : y ≡ z = eqb-true y z (and_parts (y == z) (goes_on b c) g).0 in
    subst (λ n. (n == dot) ≡ true) same h
goes_trans (x ∷ a) [] c h g = absurd (false≢true h)
goes_trans (x ∷ a) (y ∷ b) [] h g = absurd (false≢true g)
goes_trans (x ∷ a) (y ∷ b) (z ∷ c) h g =
    let one = and_parts (x == y) (goes_on a b) h in
    let two = and_parts (y == z) (goes_on b c) g in
    let same : y ≡ z = eqb-true y z two.0 in
    and_from (x == z) (goes_on a c) (subst (λ n. (x == n) ≡ true) same one.0) (goes_trans a b c one.1 two.1)

lies_trans : (a b c : Seq ℕ) → lies_above a b ≡ true → lies_above b c ≡ true → lies_above a c ≡ true
lies_trans [] [] c h g = absurd (false≢true h)
lies_trans [] (y ∷ b) [] h g = absurd (false≢true g)
lies_trans [] (y ∷ b) (z ∷ c) h g = refl
lies_trans (x ∷ a) [] c h g = absurd (false≢true h)
lies_trans (x ∷ a) (y ∷ b) c h g = goes_trans (x ∷ a) (y ∷ b) c h g

above_trans : (m : Mapping) (a b c : ℕ) → IsAbove m a b → IsAbove m b c → IsAbove m a c
above_trans m a b c h g =
    let one = and_parts (nat_lt a (length m.scopes)) (lies_above (scope_at m a).path (scope_at m b).path) h in
    let two = and_parts (nat_lt b (length m.scopes)) (lies_above (scope_at m b).path (scope_at m c).path) g in
    and_from (nat_lt a (length m.scopes)) (lies_above (scope_at m a).path (scope_at m c).path) one.0 (lies_trans (scope_at m a).path (scope_at m b).path (scope_at m c).path one.1 two.1)

-- ---- parts that pass: not refused, with no large window of inner hits

pub record Passes (m : Mapping) (nodes : Seq Node) : Type 0 where
  pub clean : Clean m nodes
  pub small : list_any has_large_window nodes ≡ false

small_parts : (xs ys : Seq Node) → list_any has_large_window (xs ++ ys) ≡ false → (list_any has_large_window xs ≡ false) × (list_any has_large_window ys ≡ false)
small_parts [] ys e = (refl, e)
small_parts (n ∷ xs) ys e =
    by_test (has_large_window n)
    (λ held. absurd (false≢true (sym (rw held at e))))
    (λ failed.
    let more = small_parts xs ys (rw failed at e) in
    (rw failed more.0, more.1))

pub passes_parts : (m : Mapping) (xs ys : Seq Node) → Passes m (xs ++ ys) → Passes m xs × Passes m ys
passes_parts m xs ys p =
    let clean = clean_parts m xs ys p.clean in
    let small = small_parts xs ys p.small in
    (record { clean = clean.0; small = small.0 }, record { clean = clean.1; small = small.1 })

member_passes : (m : Mapping) (scope : Option ℕ) (level : ℕ) (form : Form) (name : Seq ℕ) (ms : Members) (d : JsonValue) → Passes m (nodes_among m scope level form ms) → member_of ms name ≡ Some d
    → list_any has_large_window (nodes_at m scope (level_under form (form_at form name) level) (form_at form name) d) ≡ false
member_passes m scope level form name no_members d p e = cc
member_passes m scope level form name (member k v ms) d p e =
    let parts = passes_parts m (nodes_at m scope (level_under form (form_at form k) level) (form_at form k) v) (nodes_among m scope level form ms) p in
    by_test (bytes_eq k name)
    (λ same.
    let one : Some v ≡ Some d = rw same at e in
    let is : v ≡ d = cc in
    let named : k ≡ name = (bytes_eq-Decides k name).0 same in
    subst (λ n. list_any has_large_window (nodes_at m scope (level_under form (form_at form n) level) (form_at form n) d) ≡ false) named
    (subst (λ x. list_any has_large_window (nodes_at m scope (level_under form (form_at form k) level) (form_at form k) x) ≡ false) is parts.0.small))
    (λ other. member_passes m scope level form name ms d parts.1 (rw other at e))

pub no_more : (most default : ℕ) (o : Option JsonValue) → default ≤ most → up_to most default (natural_of o) ≤ natural_or default o
no_more most default None h = omega arith
no_more most default (Some (whole (pos n))) h =
    by_test (nat_le n most)
    (λ held. rw held (omega arith))
    (λ failed. let more : most < n = leb-false n most failed in rw failed (omega arith))
no_more most default (Some v) h = omega arith

-- ---- only buckets hold buckets

abbrev is_bucketing : Form → Bool
is_bucketing Body = true
is_bucketing Buckets = true
is_bucketing Bucket = true
is_bucketing form = false

abbrev are_plain : Seq (Seq ℕ × Presence × Form) → Bool
are_plain lines = list_all (λ l. not (is_bucketing l.2)) lines

abbrev are_plain_if : Option (Seq (Seq ℕ × Presence × Form)) → Bool
are_plain_if None = true
are_plain_if (Some lines) = are_plain lines

among_plain : (name : Seq ℕ) (lines : Seq (Seq ℕ × Presence × Form)) (other : Presence × Form) → are_plain lines ≡ true → is_bucketing other.1 ≡ false → is_bucketing (line_among name lines other).1 ≡ false
among_plain name [] other h g = g
among_plain name (l ∷ lines) other h g =
    let parts = and_parts (not (is_bucketing l.2)) (are_plain lines) h in
    by_test (bytes_eq name l.0) (λ same. rw same (unset (is_bucketing l.2) parts.0)) (λ apart. rw apart (among_plain name lines other parts.1 g))
  where
    unset : (b : Bool) → not b ≡ true → b ≡ false
    unset true e = absurd (false≢true e)
    unset false e = refl

in_plain : (name : Seq ℕ) (lines : Option (Seq (Seq ℕ × Presence × Form))) (other : Presence × Form) → are_plain_if lines ≡ true → is_bucketing other.1 ≡ false → is_bucketing (line_in lines name other).1 ≡ false
in_plain name None other h g = g
in_plain name (Some lines) other h g = among_plain name lines other h g

lines_plain : (form : Form) → is_bucketing form ≡ false → are_plain_if (lines_of form) ≡ true
lines_plain Body h = absurd (false≢true (sym h))
lines_plain Buckets h = absurd (false≢true (sym h))
lines_plain Bucket h = absurd (false≢true (sym h))
lines_plain form h = refl

other_plain : (form : Form) (name : Seq ℕ) → is_bucketing form ≡ false → is_bucketing (other_of form name).1 ≡ false
other_plain Body name h = absurd (false≢true (sym h))
other_plain Buckets name h = absurd (false≢true (sym h))
other_plain Bucket name h = absurd (false≢true (sym h))
other_plain form name h = refl

part_plain : (form : Form) (name : Seq ℕ) → is_bucketing form ≡ false → is_bucketing (form_at form name) ≡ false
part_plain form name h = in_plain name (lines_of form) (other_of form name) (lines_plain form h) (other_plain form name h)

element_plain : (form : Form) → is_bucketing (element_of form) ≡ false
element_plain Queries = refl
element_plain form = refl

single_bucketing : (form : Form) → is_bucketing (single_of form) ≡ true → is_bucketing form ≡ true
single_bucketing Queries h = h
single_bucketing Sort h = h
single_bucketing form h = h

-- ---- where inner hits may not stand there are none

allows_none : (form : Form) (ms : Members) → allows_inner false form ms ≡ false
allows_none ToChild ms = refl
allows_none HasChild ms = refl
allows_none HasParent ms = refl
allows_none form ms = refl

abbrev hit_lines : Seq (Seq ℕ × Presence × Form)
hit_lines =
    (codes "name", Optional, Name)
    ∷ (codes "from", Optional, Whole)
    ∷ (codes "size", Optional, Whole)
    ∷ (codes "sort", Optional, Sort)
    ∷ (codes "_source", Optional, Flag) ∷ []

no_inner_hits : (v : JsonValue) → has_form false InnerHits v ≡ true → ⊥
no_inner_hits null h = false≢true h
no_inner_hits (bool b) h = false≢true h
no_inner_hits (whole z) h = false≢true h
no_inner_hits (text s) h = false≢true h
no_inner_hits (list ds) h = false≢true h
no_inner_hits (object ms) h =
    let parts = and_parts (suits false InnerHits ms) (each_has_form false InnerHits ms) h in
    false≢true (suits_parts false InnerHits hit_lines ms parts.0).3

module _ (m : Mapping) where
  none_held : (inside : Option ℕ) (over : InnerOver) (default : Seq ℕ) (form : Form) (ms : Members) → form_at form (codes "inner_hits") ≡ InnerHits → each_has_form false form ms ≡ true → held_by m inside over default ms (member_of ms (codes "inner_hits")) [] ≡ []
  none_held inside over default form ms line h =
      by_option (λ o. held_by m inside over default ms o [] ≡ []) (member_of ms (codes "inner_hits"))
      (λ is. refl)
      (λ d is. absurd (no_inner_hits d (subst (λ f. has_form false f d ≡ true) line (member_formed false form (codes "inner_hits") ms d h is))))

  none_owned : (scope : Option ℕ) (form : Form) (ms : Members) → each_has_form false form ms ≡ true → owned_by m scope form ms [] ≡ []
  none_owned scope Nested ms h = none_held (scope_inside m scope Nested ms) (below_if (scope_inside m scope Nested ms)) (text_under ms (codes "path")) Nested ms refl h
  none_owned scope HasChild ms h = none_held (scope_inside m scope HasChild ms) (children_if (child_in m scope ms)) (text_under ms (codes "type")) HasChild ms refl h
  none_owned scope HasParent ms h = none_held (scope_inside m scope HasParent ms) (parents_if (parent_in m scope ms)) (text_under ms (codes "parent_type")) HasParent ms refl h
  none_owned scope form ms h = refl

  mutual
    none_at : (scope : Option ℕ) (form : Form) (v : JsonValue) → has_form false form v ≡ true → inner_at m scope form v ≡ []
    none_at scope form null h = refl
    none_at scope form (bool b) h = refl
    none_at scope form (whole z) h = refl
    none_at scope form (text s) h = refl
    none_at scope form (list ds) h = none_in scope (element_of form) ds (and_parts (suits_list form ds) (all_have_form false (element_of form) ds) h).1
    none_at scope form (object ms) h =
        let formed = (and_parts (suits false (single_of form) ms) (each_has_form (allows_inner false (single_of form) ms) (single_of form) ms) h).1 in
        let plain = subst (λ b. each_has_form b (single_of form) ms ≡ true) (allows_none (single_of form) ms) formed in
        ap (owned_by m scope (single_of form) ms) (none_among (scope_inside m scope (single_of form) ms) (single_of form) ms plain) ∙ none_owned scope (single_of form) ms plain

    none_in : (scope : Option ℕ) (form : Form) (ds : Elements) → all_have_form false form ds ≡ true → inner_in m scope form ds ≡ []
    none_in scope form no_elements h = refl
    none_in scope form (element d ds) h =
        let parts = and_parts (has_form false form d) (all_have_form false form ds) h in
        rw (none_at scope form d parts.0) (none_in scope form ds parts.1)

    none_among : (scope : Option ℕ) (form : Form) (ms : Members) → each_has_form false form ms ≡ true → inner_among m scope form ms ≡ []
    none_among scope form no_members h = refl
    none_among scope form (member k v ms) h =
        let parts = and_parts (has_form false (form_at form k) v) (each_has_form false form ms) h in
        rw (none_at scope (form_at form k) v parts.0) (none_among scope form ms parts.1)

-- ---- definitions

module _ (m : Mapping) (root : (n : ℕ) → 0 < n → n < length m.scopes → IsAbove m 0 n) where
  -- the owner's scope is a scope, or lies above it
  abbrev Reaches : ℕ → Option ℕ → Type 0
  Reaches s None = ⊤
  Reaches s (Some p) = (s ≡ p) ⊎ IsAbove m s p

  reaches_below : (s p q : ℕ) → Reaches s (Some p) → IsAbove m p q → IsAbove m s q
  reaches_below s p q (inl same) h = subst (λ n. IsAbove m n q) (sym same) h
  reaches_below s p q (inr above) h = above_trans m s p q above h

  from_root : (n : ℕ) → n < length m.scopes → Reaches 0 (Some n)
  from_root zero h = inl refl
  from_root (suc n) h = inr (root (suc n) (omega arith) h)

  down_reaches : (s p : ℕ) (ignored : Bool) (o : Option ℕ) → Reaches s (Some p) → below_fault m p ignored o ≡ None → Reaches s o
  down_reaches s p ignored None r e = tt
  down_reaches s p ignored (Some q) r e =
      by_test (is_above m p q)
      (λ held. inr (reaches_below s p q r held))
      (λ failed. let none : Some PathOutOfScope ≡ None = rw failed at e in cc)

  bucket_reaches : (s p : ℕ) (ms : Members) → s ≡ 0 → Reaches s (Some p) → Reaches s (scope_inside m (Some p) Bucket ms)
  bucket_reaches s p ms zero_s r =
      by_option (λ o. Reaches s (bucket_scope m p o)) (chosen Bucket ms) (λ is. r) (λ c is. go c.1 c.2)
    where
      named : (path : Seq ℕ) → Reaches s (nested_scope m path)
      named path =
          by_option (Reaches s) (nested_scope m path) (λ is. tt) (λ q is. subst (λ n. Reaches n (Some q)) (sym zero_s) (from_root q (nested_found m path q is)))

      go : (form : Form) (v : JsonValue) → Reaches s (bucket_scope_in m p form v)
      go NestedBucket (object ns) = named (text_under ns (codes "path"))
      go NestedBucket v = r
      go ReverseNestedBucket (object ns) = by_option (λ o. Reaches s (path_or_root m o)) (member_of ns (codes "path")) (λ is. inl zero_s) (λ d is. named (text_of (Some d)))
      go ReverseNestedBucket v = r
      go JoinBucket v = inl zero_s
      go form v = r

  pub append_are : (s : ℕ) (xs ys : Seq (Definition Inner)) → AreInnerDefinitions m s (definitions_of xs) → AreInnerDefinitions m s (definitions_of ys) → AreInnerDefinitions m s (definitions_of (xs ++ ys))
  append_are s [] ys h g = g
  append_are s (d ∷ xs) ys h g = (h.0, append_are s xs ys h.1 g)

  -- ---- a definition

  abbrev inside_of : InnerOver → Option ℕ
  inside_of (Below p) = Some p
  inside_of (Children r) = Some 0
  inside_of (Parents r) = Some 0
  inside_of Ignored = None

  abbrev IsOver : ℕ → InnerOver → Type 0
  IsOver s (Below p) = IsBelow m s p
  IsOver s (Children r) = IsChildRelation m r
  IsOver s (Parents r) = IsParentRelation m r
  IsOver s Ignored = ⊤

  hits_are : (inner : Bool) (s level : ℕ) (form : Form) (over : InnerOver) (default : Seq ℕ) (ms hits : Members) → form_at form (codes "inner_hits") ≡ InnerHits → form_at form (codes "query") ≡ Query → IsOver s over
      → each_has_form inner form ms ≡ true → Passes m (nodes_among m (inside_of over) level form ms) → member_of ms (codes "inner_hits") ≡ Some (object hits)
      → IsInner m s over (inner_of m (inside_of over) over default ms hits)
  hits_are inner s level form over default ms hits line query is h p e = go over is p.clean hit_formed.1
    where
      formed : has_form inner InnerHits (object hits) ≡ true
      formed = subst (λ f. has_form inner f (object hits) ≡ true) line (member_formed inner form (codes "inner_hits") ms (object hits) h e)

      hit_formed : (suits inner InnerHits hits ≡ true) × (each_has_form inner InnerHits hits ≡ true)
      hit_formed = and_parts (suits inner InnerHits hits) (each_has_form inner InnerHits hits) formed

      sorted : (q : ℕ) → Clean m (nodes_among m (Some q) level form ms) → each_has_form inner InnerHits hits ≡ true → AreSorts m q (sorts_under m (Some q) hits)
      sorted q clean f =
          let hit_clean = subst (λ g. Clean m (nodes_at m (Some q) (level_under form (form_at form (codes "inner_hits")) level) g (object hits))) line
          (member_clean m (Some q) level form (codes "inner_hits") ms (object hits) clean e) in
          sorts_under_are m inner q (level_under form (form_at form (codes "inner_hits")) level) InnerHits hits refl f
          (clean_head m (node (Some q) (level_under form (form_at form (codes "inner_hits")) level) InnerHits (object hits))
          (nodes_among m (Some q) (level_under form (form_at form (codes "inner_hits")) level) InnerHits hits) hit_clean).1

      asked : (q : ℕ) → Clean m (nodes_among m (Some q) level form ms) → IsResolved m q (clause_under m (Some q) (codes "query") ms)
      asked q clean = under_is m inner q level form (codes "query") ms query h clean

      go : (o : InnerOver) → IsOver s o → Clean m (nodes_among m (inside_of o) level form ms) → each_has_form inner InnerHits hits ≡ true → IsInner m s o (inner_of m (inside_of o) o default ms hits)
      go (Below q) below clean f = (below, asked q clean, sorted q clean f)
      go (Children r) child clean f = (child, asked 0 clean, sorted 0 clean f)
      go (Parents r) parent clean f = (parent, asked 0 clean, sorted 0 clean f)
      go Ignored over clean f = refl

  hits_fit : (inner : Bool) (s level : ℕ) (form : Form) (inside : Option ℕ) (ms hits : Members) → form_at form (codes "inner_hits") ≡ InnerHits → Passes m (nodes_among m inside level form ms) → member_of ms (codes "inner_hits") ≡ Some (object hits)
      → number_under 100 0 hits (codes "from") + number_under 100 3 hits (codes "size") ≤ 100
  hits_fit inner s level form inside ms hits line p e =
      let small = subst (λ g. list_any has_large_window (nodes_at m inside (level_under form (form_at form (codes "inner_hits")) level) g (object hits)) ≡ false) line
      (member_passes m inside level form (codes "inner_hits") ms (object hits) p e) in
      let node = (either_false (nat_lt 100 (window 3 hits)) (list_any has_large_window (nodes_among m (scope_inside m inside InnerHits hits) (level_under form (form_at form (codes "inner_hits")) level) InnerHits hits)) small) in
      let total : window 3 hits ≤ 100 = ltb-false 100 (window 3 hits) node in
      omega (arith, total, no_more 100 0 (member_of hits (codes "from")) (omega arith), no_more 100 3 (member_of hits (codes "size")) (omega arith))
    where
      either_false : (x y : Bool) → (x || y) ≡ false → x ≡ false
      either_false true y e = e
      either_false false y e = refl

  -- what a clause that may have inner hits gives
  held_are : (inner : Bool) (s level : ℕ) (form : Form) (over : InnerOver) (default : Seq ℕ) (ms : Members) (owned : Seq (Definition Inner)) → form_at form (codes "inner_hits") ≡ InnerHits → form_at form (codes "query") ≡ Query → IsOver s over
      → each_has_form inner form ms ≡ true → Passes m (nodes_among m (inside_of over) level form ms)
      → AreInnerDefinitions m (scope_over s over) (definitions_of owned)
      → (member_of ms (codes "inner_hits") ≡ None → AreInnerDefinitions m s (definitions_of owned))
      → AreInnerDefinitions m s (definitions_of (held_by m (inside_of over) over default ms (member_of ms (codes "inner_hits")) owned))
  held_are inner s level form over default ms owned line query is h p there apart =
      by_option (λ o. member_of ms (codes "inner_hits") ≡ o → AreInnerDefinitions m s (definitions_of (held_by m (inside_of over) over default ms o owned))) (member_of ms (codes "inner_hits"))
      (λ none e. apart e)
      (λ d some e. go d e (subst (λ f. has_form inner f d ≡ true) line (member_formed inner form (codes "inner_hits") ms d h e)))
      refl
    where
      go : (d : JsonValue) → member_of ms (codes "inner_hits") ≡ Some d → has_form inner InnerHits d ≡ true → AreInnerDefinitions m s (definitions_of (held_by m (inside_of over) over default ms (Some d) owned))
      go (object hits) e f =
          ((hits_are inner s level form over default ms hits line query is h p e, hits_fit inner s level form (inside_of over) ms hits line p e, there), tt)
      go null e f = absurd (false≢true f)
      go (bool b) e f = absurd (false≢true f)
      go (whole z) e f = absurd (false≢true f)
      go (text t) e f = absurd (false≢true f)
      go (list ds) e f = absurd (false≢true f)

  -- ---- an object

  not_bucketing : {G : Type 0} → false ≡ true → G
  not_bucketing h = absurd (false≢true h)

  -- what is proved of what stands inside an object
  abbrev InsideAre : Form → Option ℕ → Members → Type 0
  InsideAre form inside ms = (t : ℕ) → (is_bucketing form ≡ true → t ≡ 0) → Reaches t inside → AreInnerDefinitions m t (definitions_of (inner_among m inside form ms))

  abbrev ObjectPasses : Option ℕ → ℕ → Form → Members → Type 0
  ObjectPasses scope level form ms = Passes m (node_here scope level form (object ms) ++ nodes_among m (scope_inside m scope form ms) level form ms)

  rest_passes : (scope : Option ℕ) (level : ℕ) (form : Form) (ms : Members) → ObjectPasses scope level form ms → Passes m (nodes_among m (scope_inside m scope form ms) level form ms)
  rest_passes scope level form ms p = (passes_parts m (node_here scope level form (object ms)) (nodes_among m (scope_inside m scope form ms) level form ms) p).1

  and_never : (b : Bool) → (b && false) ≡ false
  and_never true = refl
  and_never false = refl

  none_inside : (inner : Bool) (inside : Option ℕ) (s : ℕ) (form : Form) (ms : Members) → each_has_form (inner && has ms (codes "inner_hits")) form ms ≡ true → member_of ms (codes "inner_hits") ≡ None → AreInnerDefinitions m s (definitions_of (inner_among m inside form ms))
  none_inside inner inside s form ms h e =
      let missing : has ms (codes "inner_hits") ≡ false = ap (λ (o : Option JsonValue). is_some o) e in
      let never : (inner && has ms (codes "inner_hits")) ≡ false = ap (λ b. inner && b) missing ∙ and_never inner in
      let empty = none_among m inside form ms (subst (λ b. each_has_form b form ms ≡ true) never h) in
      subst (λ (ds : Seq (Definition Inner)). AreInnerDefinitions m s (definitions_of ds)) (sym empty) tt

  nested_object : (inner : Bool) (s p level : ℕ) (ms : Members) → Reaches s (Some p) → each_has_form inner Nested ms ≡ true → ObjectPasses (Some p) level Nested ms → InsideAre Nested (nested_under m ms) ms
      → AreInnerDefinitions m s (definitions_of (owned_by m (Some p) Nested ms (inner_among m (nested_under m ms) Nested ms)))
  nested_object inner s p level ms r h passes under =
      let parts = clean_head m (node (Some p) level Nested (object ms)) (nodes_among m (nested_under m ms) level Nested ms) passes.clean in
      go (nested_under m ms) refl parts.0 (rest_passes (Some p) level Nested ms passes) under
    where
      go : (o : Option ℕ) → nested_under m ms ≡ o → below_fault m p (ignores ms) o ≡ None → Passes m (nodes_among m o level Nested ms) → InsideAre Nested o ms
          → AreInnerDefinitions m s (definitions_of (held_by m o (below_if o) (text_under ms (codes "path")) ms (member_of ms (codes "inner_hits")) (inner_among m o Nested ms)))
      go None is f rest under =
          held_are inner s level Nested Ignored (text_under ms (codes "path")) ms (inner_among m None Nested ms) refl refl tt h rest (under s not_bucketing tt) (λ e. under s not_bucketing tt)
      go (Some q) is f rest under =
          let below : IsAbove m p q = by_test (is_above m p q) (λ held. held) (λ failed. let none : Some PathOutOfScope ≡ None = rw failed at f in cc) in
          let above : IsAbove m s q = reaches_below s p q r below in
          held_are inner s level Nested (Below q) (text_under ms (codes "path")) ms (inner_among m (Some q) Nested ms) refl refl (above, nested_found m (text_under ms (codes "path")) q is) h rest
          (under q not_bucketing (inl refl)) (λ e. under s not_bucketing (inr above))

  child_object : (inner : Bool) (s p level : ℕ) (ms : Members) → each_has_form (allows_inner inner HasChild ms) HasChild ms ≡ true → Passes m (nodes_among m (root_if (child_under m ms)) level HasChild ms) → InsideAre HasChild (root_if (child_under m ms)) ms
      → AreInnerDefinitions m s (definitions_of (owned_by m (Some p) HasChild ms (inner_among m (root_if (child_under m ms)) HasChild ms)))
  child_object inner s p level ms h rest under = go (child_under m ms) refl rest under
    where
      go : (o : Option ℕ) → child_under m ms ≡ o → Passes m (nodes_among m (root_if o) level HasChild ms) → InsideAre HasChild (root_if o) ms
          → AreInnerDefinitions m s (definitions_of (held_by m (root_if o) (children_if o) (text_under ms (codes "type")) ms (member_of ms (codes "inner_hits")) (inner_among m (root_if o) HasChild ms)))
      go None is rest under =
          held_are (allows_inner inner HasChild ms) s level HasChild Ignored (text_under ms (codes "type")) ms (inner_among m None HasChild ms) refl refl tt h rest (under s not_bucketing tt) (λ e. under s not_bucketing tt)
      go (Some q) is rest under =
          held_are (allows_inner inner HasChild ms) s level HasChild (Children q) (text_under ms (codes "type")) ms (inner_among m (Some 0) HasChild ms) refl refl (child_found m (text_under ms (codes "type")) q is) h rest
          (under 0 not_bucketing (inl refl)) (none_inside inner (Some 0) s HasChild ms h)

  parent_object : (inner : Bool) (s p level : ℕ) (ms : Members) → each_has_form (allows_inner inner HasParent ms) HasParent ms ≡ true → Passes m (nodes_among m (root_if (parent_under m ms)) level HasParent ms) → InsideAre HasParent (root_if (parent_under m ms)) ms
      → AreInnerDefinitions m s (definitions_of (owned_by m (Some p) HasParent ms (inner_among m (root_if (parent_under m ms)) HasParent ms)))
  parent_object inner s p level ms h rest under = go (parent_under m ms) refl rest under
    where
      go : (o : Option ℕ) → parent_under m ms ≡ o → Passes m (nodes_among m (root_if o) level HasParent ms) → InsideAre HasParent (root_if o) ms
          → AreInnerDefinitions m s (definitions_of (held_by m (root_if o) (parents_if o) (text_under ms (codes "parent_type")) ms (member_of ms (codes "inner_hits")) (inner_among m (root_if o) HasParent ms)))
      go None is rest under =
          held_are (allows_inner inner HasParent ms) s level HasParent Ignored (text_under ms (codes "parent_type")) ms (inner_among m None HasParent ms) refl refl tt h rest (under s not_bucketing tt) (λ e. under s not_bucketing tt)
      go (Some q) is rest under =
          held_are (allows_inner inner HasParent ms) s level HasParent (Parents q) (text_under ms (codes "parent_type")) ms (inner_among m (Some 0) HasParent ms) refl refl (parent_found m (text_under ms (codes "parent_type")) q is) h rest
          (under 0 not_bucketing (inl refl)) (none_inside inner (Some 0) s HasParent ms h)

  object_is : (form : Form) (inner : Bool) (s : ℕ) (scope : Option ℕ) (level : ℕ) (ms : Members) → (is_bucketing form ≡ true → s ≡ 0) → Reaches s scope → each_has_form (allows_inner inner form ms) form ms ≡ true → ObjectPasses scope level form ms → InsideAre form (scope_inside m scope form ms) ms
      → AreInnerDefinitions m s (definitions_of (owned_by m scope form ms (inner_among m (scope_inside m scope form ms) form ms)))
  object_is Nested inner s None level ms b r h p under =
      held_are inner s level Nested Ignored (text_under ms (codes "path")) ms (inner_among m None Nested ms) refl refl tt h (rest_passes None level Nested ms p) (under s not_bucketing tt) (λ e. under s not_bucketing tt)
  object_is Nested inner s (Some q) level ms b r h p under = nested_object inner s q level ms r h p under
  object_is HasChild inner s None level ms b r h p under =
      held_are (allows_inner inner HasChild ms) s level HasChild Ignored (text_under ms (codes "type")) ms (inner_among m None HasChild ms) refl refl tt h (rest_passes None level HasChild ms p) (under s not_bucketing tt) (λ e. under s not_bucketing tt)
  object_is HasChild inner s (Some q) level ms b r h p under = child_object inner s q level ms h (rest_passes (Some q) level HasChild ms p) under
  object_is HasParent inner s None level ms b r h p under =
      held_are (allows_inner inner HasParent ms) s level HasParent Ignored (text_under ms (codes "parent_type")) ms (inner_among m None HasParent ms) refl refl tt h (rest_passes None level HasParent ms p) (under s not_bucketing tt) (λ e. under s not_bucketing tt)
  object_is HasParent inner s (Some q) level ms b r h p under = parent_object inner s q level ms h (rest_passes (Some q) level HasParent ms p) under
  object_is ToChild inner s scope level ms b r h p under =
      subst (λ (ds : Seq (Definition Inner)). AreInnerDefinitions m s (definitions_of ds)) (sym (none_among m (scope_inside m scope ToChild ms) ToChild ms h)) tt
  object_is SortNested inner s None level ms b r h p under = under s b tt
  object_is SortNested inner s (Some q) level ms b r h p under =
      under s b (down_reaches s q false (nested_under m ms) r (clean_head m (node (Some q) level SortNested (object ms)) (nodes_among m (nested_under m ms) level SortNested ms) p.clean).0)
  object_is Bucket inner s None level ms b r h p under = under s b tt
  object_is Bucket inner s (Some q) level ms b r h p under = under s b (bucket_reaches s q ms (b refl) r)
  object_is form inner s None level ms b r h p under = under s b tt
  object_is form inner s (Some q) level ms b r h p under = under s b r

  -- ---- all parts

  part_bucketing : (s : ℕ) (form : Form) (k : Seq ℕ) → (is_bucketing form ≡ true → s ≡ 0) → is_bucketing (form_at form k) ≡ true → s ≡ 0
  part_bucketing s form k b h =
      by_test (is_bucketing form) b (λ plain. absurd (false≢true (sym (part_plain form k plain) ∙ h)))

  mutual
    pub at_inner : (inner : Bool) (s : ℕ) (scope : Option ℕ) (level : ℕ) (form : Form) (v : JsonValue) → (is_bucketing form ≡ true → s ≡ 0) → Reaches s scope → has_form inner form v ≡ true → Passes m (nodes_at m scope level form v) → AreInnerDefinitions m s (definitions_of (inner_at m scope form v))
    at_inner inner s scope level form null b r h p = tt
    at_inner inner s scope level form (bool c) b r h p = tt
    at_inner inner s scope level form (whole z) b r h p = tt
    at_inner inner s scope level form (text t) b r h p = tt
    at_inner inner s scope level form (list ds) b r h p =
        in_inner inner s scope level (element_of form) ds (λ e. absurd (false≢true (sym (element_plain form) ∙ e))) r (and_parts (suits_list form ds) (all_have_form inner (element_of form) ds) h).1 p
    at_inner inner s scope level form (object ms) b r h p =
        let formed = (and_parts (suits inner (single_of form) ms) (each_has_form (allows_inner inner (single_of form) ms) (single_of form) ms) h).1 in
        let single = λ (e : is_bucketing (single_of form) ≡ true). b (single_bucketing form e) in
        object_is (single_of form) inner s scope level ms single r formed p
        (λ t c q. among_inner (allows_inner inner (single_of form) ms) t (scope_inside m scope (single_of form) ms) level (single_of form) ms c q formed (rest_passes scope level (single_of form) ms p))

    in_inner : (inner : Bool) (s : ℕ) (scope : Option ℕ) (level : ℕ) (form : Form) (ds : Elements) → (is_bucketing form ≡ true → s ≡ 0) → Reaches s scope → all_have_form inner form ds ≡ true → Passes m (nodes_in m scope level form ds) → AreInnerDefinitions m s (definitions_of (inner_in m scope form ds))
    in_inner inner s scope level form no_elements b r h p = tt
    in_inner inner s scope level form (element d ds) b r h p =
        let formed = and_parts (has_form inner form d) (all_have_form inner form ds) h in
        let parts = passes_parts m (nodes_at m scope level form d) (nodes_in m scope level form ds) p in
        append_are s (inner_at m scope form d) (inner_in m scope form ds) (at_inner inner s scope level form d b r formed.0 parts.0) (in_inner inner s scope level form ds b r formed.1 parts.1)

    among_inner : (inner : Bool) (s : ℕ) (scope : Option ℕ) (level : ℕ) (form : Form) (ms : Members) → (is_bucketing form ≡ true → s ≡ 0) → Reaches s scope → each_has_form inner form ms ≡ true → Passes m (nodes_among m scope level form ms) → AreInnerDefinitions m s (definitions_of (inner_among m scope form ms))
    among_inner inner s scope level form no_members b r h p = tt
    among_inner inner s scope level form (member k v ms) b r h p =
        let formed = and_parts (has_form inner (form_at form k) v) (each_has_form inner form ms) h in
        let parts = passes_parts m (nodes_at m scope (level_under form (form_at form k) level) (form_at form k) v) (nodes_among m scope level form ms) p in
        append_are s (inner_at m scope (form_at form k) v) (inner_among m scope form ms)
        (at_inner inner s scope (level_under form (form_at form k) level) (form_at form k) v (part_bucketing s form k b) r formed.0 parts.0)
        (among_inner inner s scope level form ms b r formed.1 parts.1)
