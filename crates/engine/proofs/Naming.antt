-- No two pages of inner hits that stand in one hit have one name, since a search whose inner hits have a name twice is refused.
use Rattle.std.proofs.Common.{◌≡◌, ℕ, Bool, true, false, ◌||◌, if◌then◌else◌, bytes_eq, List as Seq, [], ◌∷◌, ◌++◌, map, codes, Option, Some, None, refl, sym, ap, ◌∙◌, append_assoc}
use Rattle.std.proofs.lemmas.Bool.{false≢true}
use Rattle.std.proofs.lemmas.List.{append-nil}
use Rattle.std.proofs.lemmas.List.Elements.{filter_map-append}
use Rattle.std.specs.List.{AllByRecursion, filter_map, list_any}
use Rattle.std.specs.Option.{option_or}
use Rattle.mapping.specs.Mapping.{Mapping}
use Rattle.query_ast.specs.Definition.{Definition, definition, Definitions, no_definitions, with_definition, definitions_of}
use Rattle.query_ast.specs.Inner.{Inner}
use Rattle.query_ast.specs.InnerHits.{hit_by, inner_pages}
use Rattle.query_ast.specs.Pages.{PagePart, hits_of, pages_of}
use Rattle.query_ast.specs.Rows.{Row, paged}
use Rattle.query_ast.specs.Search.{found_rows, hit_of, hit_page}
use Rattle.query_ast.specs.declared.hit.Hit.{Hit}
use Rattle.query_ast.specs.declared.inner.InnerOver.{InnerOver}
use Rattle.query_ast.specs.declared.search.SearchBody.{SearchBody}
use Rattle.query_parser.specs.InnerHits.{below_if, children_if, parents_if, held_by, owned_by, inner_at, inner_in, inner_among, inner_if, inner_of_body}
use Rattle.query_parser.specs.Readings.{child_in, parent_in}
use Rattle.query_parser.specs.Search.{search_of}
use Rattle.reply_text.specs.Weight.{AreApart, AreApartInside, ArePagesApart, IsNew, page_names}
use Rattle.search_form.specs.Form.{form_at}
use Rattle.search_form.specs.Table.{element_of, single_of}
use Rattle.search_form.specs.declared.form.Form.{Form}
use Rattle.search_form.specs.declared.form.Form.TheVariants.{Query, Nested, HasChild, HasParent, Sort, Buckets}
use Rattle.search_walk.specs.Fault.{first_fault}
use Rattle.search_walk.specs.Names.{buckets_in, scope_inside, text_under}
use Rattle.search_walk.specs.Node.{Node, after_nodes, after_nodes_if, is_judged, level_under, node_here, nodes_among, nodes_at, nodes_if, nodes_in, nodes_of}
use Rattle.search_walk.specs.Refusal.{first_refusal, has_twice, inner_name_at, inner_name_in, inner_names, limit_refusal}
use Rattle.search_walk.specs.declared.refusal.SearchRefusal.{SearchRefusal}
use Rattle.search_walk.specs.declared.refusal.SearchRefusal.TheVariants.{DuplicateInnerName}
use Rattle.tree_json.specs.Value.{JsonValue, null, bool, whole, text, list, object, Elements, no_elements, element, Members, no_members, member, member_of}
use Rattle.tree_objects.specs.Object.{Object}
use Rattle.tree_objects.specs.Tree.{Tree}

-- ---- the names of definitions and of those that they own, in order

abbrev mutual
  names_of : Definition Inner → Seq (Seq ℕ)
  names_of (definition def owned) = def.name ∷ names_among owned

  names_among : Definitions Inner → Seq (Seq ℕ)
  names_among no_definitions = []
  names_among (with_definition d ds) = names_of d ++ names_among ds

abbrev names_in : Seq (Definition Inner) → Seq (Seq ℕ)
names_in ds = names_among (definitions_of ds)

names_parts : (xs ys : Seq (Definition Inner)) → names_in (xs ++ ys) ≡ names_in xs ++ names_in ys
names_parts [] ys = refl
names_parts (d ∷ xs) ys = ap (λ (l : Seq (Seq ℕ)). names_of d ++ l) (names_parts xs ys) ∙ sym (append_assoc (names_of d) (names_in xs) (names_in ys))

nodes_parts : (xs ys : Seq Node) → inner_names (xs ++ ys) ≡ inner_names xs ++ inner_names ys
nodes_parts xs ys = filter_map-append (λ (n : Node). inner_name_at n.form n.value) xs ys

-- ---- they are those that the walk finds

module _ (m : Mapping) where
  holds : (inside : Option ℕ) (over : InnerOver) (default : Seq ℕ) (clause : Members) (o : Option JsonValue) (owned : Seq (Definition Inner))
      → names_in (held_by m inside over default clause o owned) ≡ filter_map (λ (name : Option (Seq ℕ)). name) (inner_name_in default o ∷ []) ++ names_in owned
  holds inside over default clause None owned = refl
  holds inside over default clause (Some null) owned = refl
  holds inside over default clause (Some (bool b)) owned = refl
  holds inside over default clause (Some (whole z)) owned = refl
  holds inside over default clause (Some (text s)) owned = refl
  holds inside over default clause (Some (list ds)) owned = refl
  holds inside over default clause (Some (object ms)) owned = append-nil _

  owns : (scope : Option ℕ) (level : ℕ) (form : Form) (ms : Members) (owned : Seq (Definition Inner))
      → names_in (owned_by m scope form ms owned) ≡ inner_names (node_here scope level form (object ms)) ++ names_in owned
  owns scope level Nested ms owned =
      holds (scope_inside m scope Nested ms) (below_if (scope_inside m scope Nested ms)) (text_under ms (codes "path")) ms (member_of ms (codes "inner_hits")) owned
  owns scope level HasChild ms owned =
      holds (scope_inside m scope HasChild ms) (children_if (child_in m scope ms)) (text_under ms (codes "type")) ms (member_of ms (codes "inner_hits")) owned
  owns scope level HasParent ms owned =
      holds (scope_inside m scope HasParent ms) (parents_if (parent_in m scope ms)) (text_under ms (codes "parent_type")) ms (member_of ms (codes "inner_hits")) owned
  owns scope level form ms owned = refl

  single : (scope : Option ℕ) (level : ℕ) (form : Form) (v : JsonValue) → inner_name_at form v ≡ None → [] ≡ inner_names (node_here scope level form v)
  single scope level form v none = by (is_judged form)
    where
      by : (judged : Bool) → [] ≡ inner_names (if judged then record { scope = scope; level = level; form = form; value = v } ∷ [] else [])
      by true = rw none refl
      by false = refl

  mutual
    names_at : (scope : Option ℕ) (level : ℕ) (form : Form) (v : JsonValue) → names_in (inner_at m scope form v) ≡ inner_names (nodes_at m scope level form v)
    names_at scope level form null = single scope level (single_of form) null refl
    names_at scope level form (bool b) = single scope level (single_of form) (bool b) refl
    names_at scope level form (whole z) = single scope level (single_of form) (whole z) refl
    names_at scope level form (text s) = single scope level (single_of form) (text s) refl
    names_at scope level form (list ds) = names_each scope level (element_of form) ds
    names_at scope level form (object ms) =
        let inside = scope_inside m scope (single_of form) ms in
        let here = node_here scope level (single_of form) (object ms) in
        owns scope level (single_of form) ms (inner_among m inside (single_of form) ms)
        ∙ ap (λ (l : Seq (Seq ℕ)). inner_names here ++ l) (names_under inside level (single_of form) ms)
        ∙ sym (nodes_parts here (nodes_among m inside level (single_of form) ms))

    names_each : (scope : Option ℕ) (level : ℕ) (form : Form) (ds : Elements) → names_in (inner_in m scope form ds) ≡ inner_names (nodes_in m scope level form ds)
    names_each scope level form no_elements = refl
    names_each scope level form (element d ds) =
        names_parts (inner_at m scope form d) (inner_in m scope form ds)
        ∙ ap (λ (l : Seq (Seq ℕ)). l ++ names_in (inner_in m scope form ds)) (names_at scope level form d)
        ∙ ap (λ (l : Seq (Seq ℕ)). inner_names (nodes_at m scope level form d) ++ l) (names_each scope level form ds)
        ∙ sym (nodes_parts (nodes_at m scope level form d) (nodes_in m scope level form ds))

    names_under : (scope : Option ℕ) (level : ℕ) (form : Form) (ms : Members) → names_in (inner_among m scope form ms) ≡ inner_names (nodes_among m scope level form ms)
    names_under scope level form no_members = refl
    names_under scope level form (member k v ms) =
        let part = form_at form k in
        let deep = level_under form part level in
        names_parts (inner_at m scope part v) (inner_among m scope form ms)
        ∙ ap (λ (l : Seq (Seq ℕ)). l ++ names_in (inner_among m scope form ms)) (names_at scope deep part v)
        ∙ ap (λ (l : Seq (Seq ℕ)). inner_names (nodes_at m scope deep part v) ++ l) (names_under scope level form ms)
        ∙ sym (nodes_parts (nodes_at m scope deep part v) (nodes_among m scope level form ms))

  names_if : (form : Form) (o : Option JsonValue) → names_in (inner_if m form o) ≡ inner_names (nodes_if m form o)
  names_if form None = refl
  names_if form (Some v) = names_at (Some 0) 1 form v

  no_names_after : (body : Members) → inner_names (after_nodes body) ≡ []
  no_names_after body = by (member_of body (codes "search_after"))
    where
      by : (o : Option JsonValue) → inner_names (after_nodes_if body o) ≡ []
      by None = refl
      by (Some keys) = refl

  names_of_body : (body : Members) → names_in (inner_of_body m body) ≡ inner_names (nodes_of m body)
  unfolding nodes_of
  names_of_body body =
      let queries = inner_if m Query (member_of body (codes "query")) in
      let sorts = inner_if m Sort (member_of body (codes "sort")) in
      let aggs = inner_if m Buckets (buckets_in body) in
      let query = nodes_if m Query (member_of body (codes "query")) in
      let sort = nodes_if m Sort (member_of body (codes "sort")) in
      let after = after_nodes body in
      let buckets = nodes_if m Buckets (buckets_in body) in
      let behind : inner_names (sort ++ after) ≡ names_in sorts =
      nodes_parts sort after ∙ ap (λ (l : Seq (Seq ℕ)). inner_names sort ++ l) (no_names_after body) ∙ append-nil (inner_names sort) ∙ sym (names_if Sort (member_of body (codes "sort"))) in
      let hits : inner_names (query ++ (sort ++ after)) ≡ names_in queries ++ names_in sorts =
      nodes_parts query (sort ++ after) ∙ ap (λ (l : Seq (Seq ℕ)). inner_names query ++ l) behind
      ∙ ap (λ (l : Seq (Seq ℕ)). l ++ names_in sorts) (sym (names_if Query (member_of body (codes "query")))) in
      names_parts queries (sorts ++ aggs)
      ∙ ap (λ (l : Seq (Seq ℕ)). names_in queries ++ l) (names_parts sorts aggs)
      ∙ sym (append_assoc (names_in queries) (names_in sorts) (names_in aggs))
      ∙ ap (λ (l : Seq (Seq ℕ)). l ++ names_in aggs) (sym hits)
      ∙ ap (λ (l : Seq (Seq ℕ)). inner_names (query ++ (sort ++ after)) ++ l) (names_if Buckets (buckets_in body))
      ∙ sym (nodes_parts (query ++ (sort ++ after)) buckets)

-- ---- none of which comes twice

limits_of : (fault limit : Option SearchRefusal) → option_or fault limit ≡ None → limit ≡ None
limits_of None limit is = is
limits_of (Some why) limit is = cc

once : (twice : Bool) (other : Option SearchRefusal) → (if twice then Some DuplicateInnerName else other) ≡ None → twice ≡ false
once true other is = cc
once false other is = refl

names_once : (m : Mapping) (v : JsonValue) → first_refusal m v ≡ None → has_twice (names_in (search_of m v).inner) ≡ false
unfolding first_refusal search_of
names_once m null is = refl
names_once m (bool b) is = refl
names_once m (whole z) is = refl
names_once m (text s) is = refl
names_once m (list ds) is = refl
names_once m (object body) is = ap has_twice (names_of_body m body) ∙ once (has_twice (inner_names (nodes_of m body))) _ (limits_of (first_fault m (nodes_of m body)) (limit_refusal body (nodes_of m body)) is)

-- ---- so definitions that one owner has have different names

first_of : (a b : Bool) → (a || b) ≡ false → a ≡ false
first_of false b h = refl
first_of true b h = absurd (false≢true (sym h))

second_of : (a b : Bool) → (a || b) ≡ false → b ≡ false
second_of false b h = h
second_of true b h = absurd (false≢true (sym h))

none_behind : (p : Seq ℕ → Bool) (xs ys : Seq (Seq ℕ)) → list_any p (xs ++ ys) ≡ false → list_any p ys ≡ false
none_behind p [] ys h = h
none_behind p (x ∷ xs) ys h = none_behind p xs ys (second_of (p x) (list_any p (xs ++ ys)) h)

none_before : (p : Seq ℕ → Bool) (xs ys : Seq (Seq ℕ)) → list_any p (xs ++ ys) ≡ false → list_any p xs ≡ false
none_before p [] ys h = refl
none_before p (x ∷ xs) ys h = rw (first_of (p x) (list_any p (xs ++ ys)) h) (none_before p xs ys (second_of (p x) (list_any p (xs ++ ys)) h))

once_before : (xs ys : Seq (Seq ℕ)) → has_twice (xs ++ ys) ≡ false → has_twice xs ≡ false
once_before [] ys h = refl
once_before (x ∷ xs) ys h =
    rw (none_before (bytes_eq x) xs ys (first_of (list_any (bytes_eq x) (xs ++ ys)) (has_twice (xs ++ ys)) h))
    (once_before xs ys (second_of (list_any (bytes_eq x) (xs ++ ys)) (has_twice (xs ++ ys)) h))

once_behind : (xs ys : Seq (Seq ℕ)) → has_twice (xs ++ ys) ≡ false → has_twice ys ≡ false
once_behind [] ys h = h
once_behind (x ∷ xs) ys h = once_behind xs ys (second_of (list_any (bytes_eq x) (xs ++ ys)) (has_twice (xs ++ ys)) h)

-- ---- and so have pages that one hit has

module _ (m : Mapping) (live : Seq Tree) where
  new_among : (name : Seq ℕ) (ds : Definitions Inner) (o : Object) → list_any (bytes_eq name) (names_among ds) ≡ false → IsNew name (page_names (pages_of (inner_pages m live ds o)))
  new_among name no_definitions o none = tt
  new_among name (with_definition (definition def owned) ds) o none =
      let more = none_behind (bytes_eq name) (names_among owned) (names_among ds) (second_of (bytes_eq name def.name) (list_any (bytes_eq name) (names_among owned ++ names_among ds)) none) in (
        first_of (bytes_eq name def.name) (list_any (bytes_eq name) (names_among owned ++ names_among ds)) none,
        new_among name ds o more,
      )

  hits_apart : (source : Bool) (pages : Object → Seq PagePart) → ((o : Object) → AreApart (pages_of (pages o))) → (rows : Seq Row) → AreApartInside (hits_of (map (hit_by m source pages) rows))
  hits_apart source pages apart [] = tt
  hits_apart source pages apart (row ∷ rows) = (apart row.object, hits_apart source pages apart rows)

  pages_apart : (ds : Definitions Inner) (o : Object) → has_twice (names_among ds) ≡ false → AreApart (pages_of (inner_pages m live ds o))
  pages_apart no_definitions o h = tt
  pages_apart (with_definition (definition def owned) ds) o h =
      let rest = names_among owned ++ names_among ds in
      let more = second_of (list_any (bytes_eq def.name) rest) (has_twice rest) h in (
        new_among def.name ds o (none_behind (bytes_eq def.name) (names_among owned) (names_among ds) (first_of (list_any (bytes_eq def.name) rest) (has_twice rest) h)),
        hits_apart def.source (inner_pages m live owned) (λ inside. pages_apart owned inside (once_before (names_among owned) (names_among ds) more)) _,
        pages_apart ds o (once_behind (names_among owned) (names_among ds) more),
      )

  page_apart : (body : SearchBody) → has_twice (names_in body.inner) ≡ false → ArePagesApart (hit_page m live body)
  unfolding hit_page
  page_apart body h = each (paged body.sort body.after body.from body.size (found_rows m live body))
    where
      each : (rows : Seq Row) → AllByRecursion (λ (hit : Hit). AreApart (pages_of hit.inner)) (map (hit_of m live body) rows)
      each [] = tt
      each (row ∷ rows) = (pages_apart (definitions_of body.inner) row.object h, each rows)

pub found_apart : (m : Mapping) (v : JsonValue) (live : Seq Tree) → first_refusal m v ≡ None → ArePagesApart (hit_page m live (search_of m v))
found_apart m v live is = page_apart m live (search_of m v) (names_once m v is)
