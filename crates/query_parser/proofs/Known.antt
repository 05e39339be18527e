-- What was built of an object was built of its parts.
use Rattle.std.specs.Prelude.{IfSome}
use denote.Ref.{Bor}
use Rattle.std.proofs.Common.{◌≡◌, ◌∙◌, ℕ, zero, suc, ◌<◌, ◌≤◌, List as Seq, [], ◌∷◌, length, map, get_or, Bool, true, false, if◌then◌else◌, Option, Some, None, refl, sym, ap, subst, arith, bytes_eq, codes, Less, nat_cmp}
use Rattle.std.proofs.lemmas.Bool.{false≢true}
use Rattle.std.proofs.lemmas.Map.Text.{is_eq-slice_cmp}
use Rattle.std.proofs.lemmas.Slice.Eq.{bytes_eq-Decides}
use Rattle.std.specs.Cmp.Lexicographic.{slice_cmp}
use Rattle.std.specs.Ordering.{is_eq}
use Rattle.std.specs.List.{AllByRecursion}
use Rattle.std.specs.List.Sorted.{IsStrictlySortedBy}
use Rattle.tree_json.specs.Names.{IsAscending}
use Rattle.tree_json.specs.Value.{JsonValue, list, object, elements_of, Members, no_members, member, members_of, member_of}
use Rattle.tree_json.specs.View.{view, values, entries}
use Rattle.tree_json.specs.declared.value.Json.{Json}
use Rattle.mapping.specs.Mapping.{Mapping}
use Rattle.query_ast.specs.Clause.{Clause, Clauses, Leaf, leaf, clauses_of}
use Rattle.query_ast.specs.Clause.View.{clause_of}
use Rattle.query_ast.specs.declared.query.Query.{Query}
use Rattle.search_form.specs.declared.form.Form.{Form}
use Rattle.search_form.specs.declared.form.Form.TheVariants.{Query as QueryForm, MatchAll, MatchNone, Ids, Exists, ParentId, BoolQuery, ConstantScore, DisMax, Nested, ToChild, HasChild, HasParent}
use Rattle.search_form.specs.declared.form.Presence.{Presence}
use Rattle.search_form.specs.Form.{form_at, line_in, line_among, chosen}
use Rattle.search_form.specs.Table.{lines_of, other_of, element_of, single_of}
use Rattle.search_walk.specs.Names.{scope_inside}
use Rattle.query_parser.specs.Queries.{clause_at, clause_under, clauses_under, clauses_in, clause_named, clause_by, leaf_named, field_leaf, form_named}
use Rattle.query_parser.specs.Known.{Known, unknown, of_clause, of_query, of_queries, query_at, part_under, known_in, own_query_of, own_query, IsOf, IsOfOnly, IsOfObject, IsOfElements, IsOfMembers}
use Rattle.query_parser.proofs.Found.{by_test}
use Rattle.query_parser.proofs.Members.{clause_there, clauses_there}

-- ---- elements

pub query_found : (qs : Seq Query) (i : ℕ) (d : Query) → i < length qs → query_at (clauses_of (map clause_of qs)) i ≡ of_query (clause_of (get_or qs i d))
query_found [] i d h = absurd (omega arith)
query_found (q ∷ qs) zero d h = refl
query_found (q ∷ qs) (suc i) d h = let more : i < length qs = omega arith in query_found qs i d more

pub query_absent : (qs : Seq Query) (i : ℕ) → length qs ≤ i → query_at (clauses_of (map clause_of qs)) i ≡ unknown
query_absent [] i h = refl
query_absent (q ∷ qs) zero h = absurd (omega arith)
query_absent (q ∷ qs) (suc i) h = let more : length qs ≤ i = omega arith in query_absent qs i more

-- ---- an entry stands under its name

abbrev Entry : Type 0
Entry = Seq ℕ × Json

after_at : (k : Seq ℕ) (ms : Seq Entry) (i : ℕ) (e : Entry) → AllByRecursion (λ y. slice_cmp nat_cmp k y ≡ Less) (map (λ m. m.0) (entries ms)) → i < length ms → e ≡ get_or ms i e
    → slice_cmp nat_cmp k e.0 ≡ Less
after_at k [] i e all h is = absurd (omega arith)
after_at k (x ∷ ms) zero e all h is = subst (λ (p : Entry). slice_cmp nat_cmp k p.0 ≡ Less) (sym is) all.0
after_at k (x ∷ ms) (suc i) e all h is = let more : i < length ms = omega arith in after_at k ms i e all.1 more is

entry_there : (ms : Seq Entry) (i : ℕ) (e : Entry) → IsAscending (entries ms) → i < length ms → e ≡ get_or ms i e → member_of (members_of (entries ms)) e.0 ≡ Some (view e.1)
unfolding IsStrictlySortedBy
entry_there [] i e up h is = absurd (omega arith)
entry_there (x ∷ ms) zero e up h is =
    let same : bytes_eq x.0 x.0 ≡ true = (bytes_eq-Decides x.0 x.0).1 refl in
    subst (λ (p : Entry). member_of (members_of (entries (x ∷ ms))) p.0 ≡ Some (view p.1)) (sym is) (rw same refl)
entry_there (x ∷ ms) (suc i) e up h is =
    let more : i < length ms = omega arith in
    let other : bytes_eq x.0 e.0 ≡ false = sym (is_eq-slice_cmp x.0 e.0) ∙ ap is_eq (after_at x.0 ms i e up.0 more is) in
    rw other (entry_there ms i e up.1 more is)

-- ---- the forms of queries

single_among : (lines : Seq (Seq ℕ × Presence × Form)) (name : Seq ℕ) (other : Presence × Form) → AllByRecursion (λ l. single_of l.2 ≡ l.2) lines → single_of other.1 ≡ other.1
    → single_of (line_among name lines other).1 ≡ (line_among name lines other).1
single_among [] name other all h = h
single_among (l ∷ lines) name other all h =
    by_test (bytes_eq name l.0) (λ same. rw same all.0) (λ differs. rw differs (single_among lines name other all.1 h))

single_in : (o : Option (Seq (Seq ℕ × Presence × Form))) (name : Seq ℕ) (other : Presence × Form) → IfSome o (λ lines. AllByRecursion (λ l. single_of l.2 ≡ l.2) lines) → single_of other.1 ≡ other.1
    → single_of (line_in o name other).1 ≡ (line_in o name other).1
single_in None name other all h = h
single_in (Some lines) name other all h = single_among lines name other all h

-- ---- an object with one member, and one with more

pub only_one : (ms : Seq Entry) (o : Seq (Seq ℕ × JsonValue)) (c : Clause) → entries ms ≡ o → 1 ≤ length ms → length ms < 2 → known_in (of_query c) (members_of o) ≡ of_query c
only_one [] o c is some few = absurd (omega (arith, some))
only_one (x ∷ []) o c is some few = ap (λ (o : Seq (Seq ℕ × JsonValue)). known_in (of_query c) (members_of o)) (sym is)
only_one (x ∷ y ∷ ms) o c is some few = absurd (omega (arith, few))

pub not_one : (ms : Seq Entry) (o : Seq (Seq ℕ × JsonValue)) (c : Clause) → entries ms ≡ o → 2 ≤ length ms → known_in (of_query c) (members_of o) ≡ unknown
not_one [] o c is many = absurd (omega (arith, many))
not_one (x ∷ []) o c is many = absurd (omega (arith, many))
not_one (x ∷ y ∷ ms) o c is many = ap (λ (o : Seq (Seq ℕ × JsonValue)). known_in (of_query c) (members_of o)) (sym is)

module _ (m : Mapping) where
  -- ---- parts

  is_if : (scope : Option ℕ) (form : Form) (d : JsonValue) (t : Bool) (x y : Known) → (t ≡ true → IsOf m scope form d x) → (t ≡ false → IsOf m scope form d y) → IsOf m scope form d (if t then x else y)
  is_if scope form d true x y held failed = held refl
  is_if scope form d false x y held failed = failed refl

  query_is : (scope : Option ℕ) (form : Form) (name known : Seq ℕ) (ms : Members) (d : JsonValue) → bytes_eq name known ≡ true → form_at form known ≡ QueryForm → member_of ms name ≡ Some d
      → IsOf m scope (form_at form name) d (of_query (clause_under m scope known ms))
  query_is scope form name known ms d same line e =
      let is : known ≡ name = sym ((bytes_eq-Decides name known).0 same) in
      (subst (λ n. form_at form n ≡ QueryForm) is line, ap (λ n. clause_under m scope n ms) is ∙ clause_there m scope name ms d e)

  queries_are : (scope : Option ℕ) (form : Form) (name known : Seq ℕ) (ms : Members) (d : JsonValue) → bytes_eq name known ≡ true → element_of (form_at form known) ≡ QueryForm → member_of ms name ≡ Some d
      → IsOf m scope (form_at form name) d (of_queries (clauses_of (clauses_under m scope known ms)))
  queries_are scope form name known ms d same line e =
      let is : known ≡ name = sym ((bytes_eq-Decides name known).0 same) in
      (subst (λ n. element_of (form_at form n) ≡ QueryForm) is line, ap clauses_of (ap (λ n. clauses_under m scope n ms) is ∙ clauses_there m scope name ms d e))

  bool_part : (scope : Option ℕ) (name : Seq ℕ) (ms : Members) (d : JsonValue) → member_of ms name ≡ Some d
      → IsOf m scope (form_at BoolQuery name) d (part_under (clause_named m scope BoolQuery (object ms)) name)
  unfolding clause_by
  bool_part scope name ms d e =
      let part = form_at BoolQuery name in
      let queries = λ (known : Seq ℕ). of_queries (clauses_of (clauses_under m scope known ms)) in
      let under = λ (known : Seq ℕ) (line : element_of (form_at BoolQuery known) ≡ QueryForm) (same : bytes_eq name known ≡ true). queries_are scope BoolQuery name known ms d same line e in
      is_if scope part d (bytes_eq name (codes "must")) (queries (codes "must")) _ (under (codes "must") refl)
      (λ f. is_if scope part d (bytes_eq name (codes "filter")) (queries (codes "filter")) _ (under (codes "filter") refl)
      (λ g. is_if scope part d (bytes_eq name (codes "should")) (queries (codes "should")) _ (under (codes "should") refl)
      (λ h. is_if scope part d (bytes_eq name (codes "must_not")) (queries (codes "must_not")) unknown (under (codes "must_not") refl) (λ i. tt))))

  one_part : (scope : Option ℕ) (form : Form) (name known : Seq ℕ) (ms : Members) (d : JsonValue) → form_at form known ≡ QueryForm → member_of ms name ≡ Some d
      → IsOf m scope (form_at form name) d (if bytes_eq name known then of_query (clause_under m scope known ms) else unknown)
  one_part scope form name known ms d line e =
      is_if scope (form_at form name) d (bytes_eq name known) (of_query (clause_under m scope known ms)) unknown
      (λ same. query_is scope form name known ms d same line e) (λ differs. tt)

  some_part : (scope : Option ℕ) (form : Form) (name known : Seq ℕ) (ms : Members) (d : JsonValue) → element_of (form_at form known) ≡ QueryForm → member_of ms name ≡ Some d
      → IsOf m scope (form_at form name) d (if bytes_eq name known then of_queries (clauses_of (clauses_under m scope known ms)) else unknown)
  some_part scope form name known ms d line e =
      is_if scope (form_at form name) d (bytes_eq name known) (of_queries (clauses_of (clauses_under m scope known ms))) unknown
      (λ same. queries_are scope form name known ms d same line e) (λ differs. tt)

  -- what holds of each leaf holds of what is no other clause
  field_all : (P : Clause → Type 0) → ((l : Leaf) (boost : ℕ) → P (leaf l boost)) → (scope : Option ℕ) (form : Form) (ms : Members) (o : Option (Seq ℕ × Form × JsonValue)) → P (field_leaf m scope form ms o)
  field_all P each scope form ms None = each _ _
  field_all P each scope form ms (Some c) = each _ _

  leaf_all : (P : Clause → Type 0) → ((l : Leaf) (boost : ℕ) → P (leaf l boost)) → (scope : Option ℕ) (form : Form) (ms : Members) → P (leaf_named m scope form ms)
  leaf_all P each scope MatchAll ms = each _ _
  leaf_all P each scope MatchNone ms = each _ _
  leaf_all P each scope Ids ms = each _ _
  leaf_all P each scope Exists ms = each _ _
  leaf_all P each scope ParentId ms = each _ _
  leaf_all P each scope form ms = field_all P each scope form ms (chosen form ms)

  part_is : (scope : Option ℕ) (form : Form) (ms : Members) (name : Seq ℕ) (d : JsonValue) → member_of ms name ≡ Some d
      → IsOf m (scope_inside m scope form ms) (form_at form name) d (part_under (clause_named m scope form (object ms)) name)
  unfolding clause_by
  part_is None BoolQuery ms name d e = bool_part None name ms d e
  part_is (Some s) BoolQuery ms name d e = bool_part (Some s) name ms d e
  part_is None ConstantScore ms name d e = one_part None ConstantScore name (codes "filter") ms d refl e
  part_is (Some s) ConstantScore ms name d e = one_part (Some s) ConstantScore name (codes "filter") ms d refl e
  part_is None DisMax ms name d e = some_part None DisMax name (codes "queries") ms d refl e
  part_is (Some s) DisMax ms name d e = some_part (Some s) DisMax name (codes "queries") ms d refl e
  part_is scope Nested ms name d e = one_part (scope_inside m scope Nested ms) Nested name (codes "query") ms d refl e
  part_is scope ToChild ms name d e = one_part (scope_inside m scope ToChild ms) ToChild name (codes "query") ms d refl e
  part_is scope HasChild ms name d e = one_part (scope_inside m scope HasChild ms) HasChild name (codes "query") ms d refl e
  part_is scope HasParent ms name d e = one_part (scope_inside m scope HasParent ms) HasParent name (codes "query") ms d refl e
  part_is scope form ms name d e =
      leaf_all (λ c. IsOf m (scope_inside m scope form ms) (form_at form name) d (part_under c name)) (λ l boost. tt) scope form ms

  -- ---- walks

  query_inside : (scope : Option ℕ) (ms : Members) → scope_inside m scope QueryForm ms ≡ scope
  query_inside None ms = refl
  query_inside (Some s) ms = refl

  query_named : (name : Seq ℕ) → single_of (form_at QueryForm name) ≡ form_named name
  unfolding form_named
  query_named name = single_in (lines_of QueryForm) name (other_of QueryForm name) (refl, (refl, (refl, (refl, (refl, (refl, (refl, (refl, (refl, (refl, (refl, (refl, (refl, (refl, (refl, (refl, (refl, (refl, tt)))))))))))))))))) refl

  only_is : (scope : Option ℕ) (ms : Seq Entry) (c : Clause) (i : ℕ) (e : Entry) → IsOfOnly m scope (members_of (entries ms)) c → i < length ms → e ≡ get_or ms i e
      → IsOf m (scope_inside m scope QueryForm (members_of (entries ms))) (form_at QueryForm e.0) (view e.1) (of_clause c)
  only_is scope [] c i e built h is = absurd (omega arith)
  only_is scope (x ∷ []) c zero e built h is =
      let here : c ≡ clause_named m scope (form_named e.0) (view e.1) = built ∙ ap (λ (p : Entry). clause_named m scope (form_named p.0) (view p.1)) (sym is) in
      rw (query_inside scope (members_of (entries (x ∷ []))), query_named e.0) here
  only_is scope (x ∷ []) c (suc i) e built h is = absurd (omega arith)
  only_is scope (x ∷ y ∷ ms) c i e built h is = absurd (false≢true built)

  members_are : (scope : Option ℕ) (form : Form) (ms : Seq Entry) (k : Known) → IsAscending (entries ms) → IsOfObject m scope form (members_of (entries ms)) k
      → IsOfMembers m (scope_inside m scope form (members_of (entries ms))) form ms k
  members_are scope form ms unknown up built i e h is = tt
  members_are scope form ms (of_clause c) up built i e h is =
      subst (λ c. IsOf m (scope_inside m scope form (members_of (entries ms))) (form_at form e.0) (view e.1) (part_under c e.0)) (sym built)
      (part_is scope form (members_of (entries ms)) e.0 (view e.1) (entry_there ms i e up h is))
  members_are scope form ms (of_query c) up built i e h is =
      subst (λ f. IsOf m (scope_inside m scope f (members_of (entries ms))) (form_at f e.0) (view e.1) (of_clause c)) (sym built.0)
      (only_is scope ms c i e built.1 h is)
  members_are scope form ms (of_queries cs) up built i e h is = tt

  pub members_built : (scope inside : Option ℕ) (form : Form) (ms : Seq Entry) (o : Seq (Seq ℕ × JsonValue)) (k : Known) → entries ms ≡ o → inside ≡ scope_inside m scope form (members_of o)
      → IsAscending o → IsOfObject m scope form (members_of o) k → IsOfMembers m inside form ms k
  members_built scope inside form ms o k is within up built =
      let inside_is : inside ≡ scope_inside m scope form (members_of (entries ms)) = within ∙ ap (λ (o : Seq (Seq ℕ × JsonValue)). scope_inside m scope form (members_of o)) (sym is) in
      subst (λ i. IsOfMembers m i form ms k) (sym inside_is)
      (members_are scope form ms k (subst (λ (o : Seq (Seq ℕ × JsonValue)). IsAscending o) (sym is) up)
      (subst (λ (o : Seq (Seq ℕ × JsonValue)). IsOfObject m scope form (members_of o) k) (sym is) built))

  element_built : (scope : Option ℕ) (ds : Seq Json) (cs : Clauses) (i : ℕ) (d : Json) → cs ≡ clauses_of (clauses_in m scope (elements_of (values ds))) → i < length ds → d ≡ get_or ds i d
      → IsOf m scope QueryForm (view d) (query_at cs i)
  element_built scope ds cs i d built h is =
      subst (λ cs. IsOf m scope QueryForm (view d) (query_at cs i)) (sym built) (go ds i h is)
    where
      go : (ds : Seq Json) (i : ℕ) → i < length ds → d ≡ get_or ds i d → IsOf m scope QueryForm (view d) (query_at (clauses_of (clauses_in m scope (elements_of (values ds)))) i)
      go [] i h is = absurd (omega arith)
      go (x ∷ ds) zero h is = (refl, ap (λ (j : Json). clause_at m scope (view j)) (sym is))
      go (x ∷ ds) (suc i) h is = let more : i < length ds = omega arith in go ds i more is

  elements_are : (scope : Option ℕ) (form : Form) (ds : Seq Json) (k : Known) → IsOf m scope form (list (elements_of (values ds))) k → IsOfElements m scope (element_of form) ds k
  elements_are scope form ds unknown built i d h is = tt
  elements_are scope form ds (of_clause c) built i d h is = tt
  elements_are scope form ds (of_query c) built i d h is = tt
  elements_are scope form ds (of_queries cs) built i d h is =
      subst (λ f. IsOf m scope f (view d) (query_at cs i)) (sym built.0) (element_built scope ds cs i d built.1 h is)

  pub elements_built : (scope : Option ℕ) (form f : Form) (ds : Seq Json) (o : Seq JsonValue) (k : Known) → f ≡ element_of form → values ds ≡ o → IsOf m scope form (list (elements_of o)) k
      → IsOfElements m scope f ds k
  elements_built scope form f ds o k named is built =
      subst (λ f. IsOfElements m scope f ds k) (sym named) (elements_are scope form ds k (subst (λ (o : Seq JsonValue). IsOf m scope form (list (elements_of o)) k) (sym is) built))

  object_is : (scope : Option ℕ) (form : Form) (ms : Members) (k : Known) → IsOf m scope form (object ms) k → IsOfObject m scope (single_of form) ms (known_in k ms)
  object_is scope form ms unknown built = tt
  object_is scope form ms (of_clause c) built = built
  object_is scope form no_members (of_query c) built = tt
  object_is scope form (member k d no_members) (of_query c) built = (ap single_of built.0, built.1)
  object_is scope form (member k d (member l e ms)) (of_query c) built = tt
  object_is scope form ms (of_queries cs) built = tt

  pub object_built : (scope : Option ℕ) (form f : Form) (ms : Members) (k j : Known) → f ≡ single_of form → j ≡ known_in k ms → IsOf m scope form (object ms) k → IsOfObject m scope f ms j
  object_built scope form f ms k j named is built =
      subst (λ f. IsOfObject m scope f ms j) (sym named) (subst (IsOfObject m scope (single_of form) ms) (sym is) (object_is scope form ms k built))

  pub part_built : (scope : Option ℕ) (form f : Form) (v : JsonValue) (k j : Known) → f ≡ form → j ≡ k → IsOf m scope form v k → IsOf m scope f v j
  part_built scope form f v k j named is built = subst (λ f. IsOf m scope f v j) (sym named) (subst (IsOf m scope form v) (sym is) built)

  -- ---- the query of a clause with inner hits

  no_own : {G : Type 0} (o : Option Clause) (q : Clause) → o ≡ None → o ≡ Some q → G
  no_own o q none some = cc

  one_own : (c q : Clause) → Some c ≡ Some q → q ≡ c
  one_own c q e = cc

  own_is : (scope : Option ℕ) (form : Form) (ms : Members) (q : Clause) → own_query_of (clause_named m scope form (object ms)) ≡ Some q → q ≡ clause_under m (scope_inside m scope form ms) (codes "query") ms
  unfolding clause_by
  own_is scope BoolQuery ms q e = no_own None q refl e
  own_is scope ConstantScore ms q e = no_own None q refl e
  own_is scope DisMax ms q e = no_own None q refl e
  own_is scope ToChild ms q e = no_own None q refl e
  own_is scope Nested ms q e = one_own _ q e
  own_is scope HasChild ms q e = one_own _ q e
  own_is scope HasParent ms q e = one_own _ q e
  own_is scope form ms q e =
      no_own (own_query_of (leaf_named m scope form ms)) q (leaf_all (λ c. own_query_of c ≡ None) (λ l boost. refl) scope form ms) e

  own_are : (scope : Option ℕ) (form : Form) (ms : Members) (k : Known) (q : Clause) → IsOfObject m scope form ms k → own_query k ≡ Some q → q ≡ clause_under m (scope_inside m scope form ms) (codes "query") ms
  own_are scope form ms unknown q built e = no_own None q refl e
  own_are scope form ms (of_clause c) q built e = own_is scope form ms q (ap own_query_of (sym built) ∙ e)
  own_are scope form ms (of_query c) q built e = no_own None q refl e
  own_are scope form ms (of_queries cs) q built e = no_own None q refl e

  pub own_built : (scope inside : Option ℕ) (form : Form) (ms : Members) (k : Known) (shared : Option (Bor Clause)) → inside ≡ scope_inside m scope form ms → IsOfObject m scope form ms k
      → IfSome shared (λ q. own_query k ≡ Some q.now) → IfSome shared (λ q. q.now ≡ clause_under m inside (codes "query") ms)
  own_built scope inside form ms k None within built e = e
  own_built scope inside form ms k (Some q) within built e = own_are scope form ms k q.now built e ∙ ap (λ i. clause_under m i (codes "query") ms) (sym within)

  pub body_built : (c : Clause) (body : Members) (v : JsonValue) → c ≡ clause_under m (Some 0) (codes "query") body → member_of body (codes "query") ≡ Some v → IsOf m (Some 0) QueryForm v (of_query c)
  body_built c body v built e = (refl, built ∙ clause_there m (Some 0) (codes "query") body v e)

pub ruleset built_parts = (query_found, query_absent)

pub ruleset built_walks = (members_built, elements_built, object_built, part_built, own_built)

pub ruleset built_body = (body_built)
