-- Where no clause has inner hits, there are no definitions of inner hits.
use Rattle.std.proofs.Common.{◌≡◌, ℕ, ◌+◌, Bool, true, false, ◌&&◌, if◌then◌else◌, bytes_eq, List as Seq, [], ◌∷◌, ◌++◌, length, codes, Option, Some, None, refl, ap, ◌∙◌, arith}
use Rattle.std.proofs.lemmas.Bool.{false≢true}
use Rattle.std.proofs.lemmas.List.{length-append}
use Rattle.std.proofs.lemmas.List.Elements.{filter_map-append}
use Rattle.std.specs.List.{filter_map}
use Rattle.tree_json.specs.Value.{JsonValue, null, bool, whole, text, list, object, Elements, no_elements, element, Members, no_members, member, member_of}
use Rattle.mapping.specs.Mapping.{Mapping}
use Rattle.query_ast.specs.declared.inner.InnerOver.{InnerOver}
use Rattle.search_form.specs.declared.form.Form.{Form}
use Rattle.search_form.specs.declared.form.Form.TheVariants.{Query, Nested, HasChild, HasParent, Sort, Buckets}
use Rattle.search_form.specs.Form.{form_at}
use Rattle.search_form.specs.Table.{element_of, single_of}
use Rattle.search_walk.specs.Names.{text_under, scope_inside, buckets_in}
use Rattle.search_walk.specs.Node.{Node, node_here, level_under, nodes_at, nodes_in, nodes_among, nodes_if, after_nodes, nodes_of}
use Rattle.search_walk.specs.Refusal.{inner_name_in, inner_name_at, inner_names, inner_count}
use Rattle.query_parser.specs.Flat.{is_single, is_flat}
use Rattle.query_parser.specs.InnerHits.{below_if, children_if, parents_if, held_by, owned_by, inner_at, inner_in, inner_among, inner_if, inner_of_body}
use Rattle.query_parser.specs.Readings.{child_in, parent_in}

-- how many of some parts are clauses with inner hits
abbrev count : Seq Node → ℕ
count nodes = length (inner_names nodes)

count_parts : (xs ys : Seq Node) → count (xs ++ ys) ≡ count xs + count ys
count_parts xs ys =
    ap length (filter_map-append (λ n. inner_name_at n.form n.value) xs ys) ∙ length-append (inner_names xs) (inner_names ys)

none_before : (xs ys : Seq Node) → count (xs ++ ys) ≡ 0 → count xs ≡ 0
none_before xs ys h = omega (arith, h, count_parts xs ys)

none_behind : (xs ys : Seq Node) → count (xs ++ ys) ≡ 0 → count ys ≡ 0
none_behind xs ys h = omega (arith, h, count_parts xs ys)

module _ (m : Mapping) where
  holds_none : (inside : Option ℕ) (over : InnerOver) (default : Seq ℕ) (clause : Members) (o : Option JsonValue)
      → length (filter_map (λ (name : Option (Seq ℕ)). name) (inner_name_in default o ∷ [])) ≡ 0 → held_by m inside over default clause o [] ≡ []
  holds_none inside over default clause None h = refl
  holds_none inside over default clause (Some null) h = refl
  holds_none inside over default clause (Some (bool b)) h = refl
  holds_none inside over default clause (Some (whole z)) h = refl
  holds_none inside over default clause (Some (text s)) h = refl
  holds_none inside over default clause (Some (list ds)) h = refl
  holds_none inside over default clause (Some (object ms)) h = absurd (omega (arith, h))

  owns_none : (scope : Option ℕ) (level : ℕ) (form : Form) (ms : Members)
      → count (node_here scope level form (object ms)) ≡ 0 → owned_by m scope form ms [] ≡ []
  owns_none scope level Nested ms h =
      holds_none (scope_inside m scope Nested ms) (below_if (scope_inside m scope Nested ms)) (text_under ms (codes "path")) ms (member_of ms (codes "inner_hits")) h
  owns_none scope level HasChild ms h =
      holds_none (scope_inside m scope HasChild ms) (children_if (child_in m scope ms)) (text_under ms (codes "type")) ms (member_of ms (codes "inner_hits")) h
  owns_none scope level HasParent ms h =
      holds_none (scope_inside m scope HasParent ms) (parents_if (parent_in m scope ms)) (text_under ms (codes "parent_type")) ms (member_of ms (codes "inner_hits")) h
  owns_none scope level form ms h = refl

  mutual
    none_at : (scope : Option ℕ) (level : ℕ) (form : Form) (v : JsonValue) → count (nodes_at m scope level form v) ≡ 0 → inner_at m scope form v ≡ []
    none_at scope level form null h = refl
    none_at scope level form (bool b) h = refl
    none_at scope level form (whole z) h = refl
    none_at scope level form (text s) h = refl
    none_at scope level form (list ds) h = none_in scope level (element_of form) ds h
    none_at scope level form (object ms) h =
        let single = single_of form in
        let inside = scope_inside m scope single ms in
        let here = node_here scope level single (object ms) in
        let below = nodes_among m inside level single ms in
        ap (owned_by m scope single ms) (none_among inside level single ms (none_behind here below h))
        ∙ owns_none scope level single ms (none_before here below h)

    none_in : (scope : Option ℕ) (level : ℕ) (form : Form) (ds : Elements) → count (nodes_in m scope level form ds) ≡ 0 → inner_in m scope form ds ≡ []
    none_in scope level form no_elements h = refl
    none_in scope level form (element d ds) h =
        let first = nodes_at m scope level form d in
        let more = nodes_in m scope level form ds in
        rw (none_at scope level form d (none_before first more h)) (none_in scope level form ds (none_behind first more h))

    none_among : (scope : Option ℕ) (level : ℕ) (form : Form) (ms : Members) → count (nodes_among m scope level form ms) ≡ 0 → inner_among m scope form ms ≡ []
    none_among scope level form no_members h = refl
    none_among scope level form (member k v ms) h =
        let part = form_at form k in
        let first = nodes_at m scope (level_under form part level) part v in
        let more = nodes_among m scope level form ms in
        rw (none_at scope (level_under form part level) part v (none_before first more h)) (none_among scope level form ms (none_behind first more h))

  none_if : (form : Form) (o : Option JsonValue) → count (nodes_if m form o) ≡ 0 → inner_if m form o ≡ []
  none_if form None h = refl
  none_if form (Some v) h = none_at (Some 0) 1 form v h

pub no_inner_hits : (m : Mapping) (body : Members) → inner_count m (object body) ≡ 0 → inner_of_body m body ≡ []
unfolding nodes_of
no_inner_hits m body h =
    let query = nodes_if m Query (member_of body (codes "query")) in
    let sort = nodes_if m Sort (member_of body (codes "sort")) in
    let after = after_nodes body in
    let buckets = nodes_if m Buckets (buckets_in body) in
    let hits = none_before (query ++ (sort ++ after)) buckets h in
    rw (none_if m Query (member_of body (codes "query")) (none_before query (sort ++ after) hits))
    (rw (none_if m Sort (member_of body (codes "sort")) (none_before sort after (none_behind query (sort ++ after) hits)))
    (none_if m Buckets (buckets_in body) (none_behind (query ++ (sort ++ after)) buckets h)))

-- nor are there where no part of an object is judged
pub no_inner_among : (m : Mapping) (scope : Option ℕ) (form : Form) (ms : Members) → ((level : ℕ) → nodes_among m scope level form ms ≡ []) → inner_among m scope form ms ≡ []
no_inner_among m scope form ms none = none_among m scope 0 form ms (ap count (none 0))

-- nor in an object in which no object and no list stands

first_of : (a b : Bool) → (a && b) ≡ true → a ≡ true
first_of true b h = refl
first_of false b h = absurd (false≢true h)

second_of : (a b : Bool) → (a && b) ≡ true → b ≡ true
second_of true b h = h
second_of false b h = absurd (false≢true h)

module _ (m : Mapping) where
  single_none : (scope : Option ℕ) (form : Form) (d : JsonValue) → is_single d ≡ true → inner_at m scope form d ≡ []
  single_none scope form null h = refl
  single_none scope form (bool b) h = refl
  single_none scope form (whole z) h = refl
  single_none scope form (text s) h = refl
  single_none scope form (list ds) h = absurd (false≢true h)
  single_none scope form (object ms) h = absurd (false≢true h)

  flat_among : (scope : Option ℕ) (form : Form) (ms : Members) → is_flat ms ≡ true → inner_among m scope form ms ≡ []
  flat_among scope form no_members h = refl
  flat_among scope form (member k d ms) h =
      rw (single_none scope (form_at form k) d (first_of (is_single d) (is_flat ms) h)) (flat_among scope form ms (second_of (is_single d) (is_flat ms) h))

  module _ (inside : Option ℕ) (over : InnerOver) (default : Seq ℕ) (clause : Members) where
    single_holds : (d : JsonValue) → is_single d ≡ true → held_by m inside over default clause (Some d) [] ≡ []
    single_holds null h = refl
    single_holds (bool b) h = refl
    single_holds (whole z) h = refl
    single_holds (text s) h = refl
    single_holds (list ds) h = absurd (false≢true h)
    single_holds (object ms) h = absurd (false≢true h)

    flat_holds : (ms : Members) (name : Seq ℕ) → is_flat ms ≡ true → held_by m inside over default clause (member_of ms name) [] ≡ []
    flat_holds no_members name h = refl
    flat_holds (member k d ms) name h =
        by (bytes_eq k name) (single_holds d (first_of (is_single d) (is_flat ms) h)) (flat_holds ms name (second_of (is_single d) (is_flat ms) h))
      where
        by : (b : Bool) → held_by m inside over default clause (Some d) [] ≡ [] → held_by m inside over default clause (member_of ms name) [] ≡ []
            → held_by m inside over default clause (if b then Some d else member_of ms name) [] ≡ []
        by true one other = one
        by false one other = other

  flat_owns : (scope : Option ℕ) (form : Form) (ms : Members) → is_flat ms ≡ true → owned_by m scope form ms [] ≡ []
  flat_owns scope Nested ms h = flat_holds (scope_inside m scope Nested ms) (below_if (scope_inside m scope Nested ms)) (text_under ms (codes "path")) ms ms (codes "inner_hits") h
  flat_owns scope HasChild ms h = flat_holds (scope_inside m scope HasChild ms) (children_if (child_in m scope ms)) (text_under ms (codes "type")) ms ms (codes "inner_hits") h
  flat_owns scope HasParent ms h = flat_holds (scope_inside m scope HasParent ms) (parents_if (parent_in m scope ms)) (text_under ms (codes "parent_type")) ms ms (codes "inner_hits") h
  flat_owns scope form ms h = refl

pub flat_none : (m : Mapping) (scope : Option ℕ) (form : Form) (ms : Members) → is_flat ms ≡ true → inner_at m scope form (object ms) ≡ []
flat_none m scope form ms h =
    ap (owned_by m scope (single_of form) ms) (flat_among m (scope_inside m scope (single_of form) ms) (single_of form) ms h)
    ∙ flat_owns m scope (single_of form) ms h

pub ruleset no_inner = (no_inner_hits)

pub ruleset flat = (flat_none)
