-- Rows of objects, and the tree that objects below another are of.
use Rattle.std.proofs.Common.{◌≡◌, ℕ, zero, suc, ◌+◌, List as Seq, [], ◌∷◌, ◌++◌, map, filter, flat_map, get_or, slice_get, true, Option, Some, None, refl, sym, ap, subst, ◌∙◌}
use Rattle.std.specs.List.{AllByRecursion, cons_option, filter_map}
use Rattle.std.specs.Option.{option_map}
use Rattle.flattener.specs.StandsFor.{Marked}
use Rattle.mapping.specs.Mapping.{Mapping, scope_at}
use Rattle.query_ast.specs.Clause.{Clause}
use Rattle.query_ast.specs.Hit.{hit}
use Rattle.query_ast.specs.Rows.{Row, row_if, row_of, rows_of}
use Rattle.query_ast.specs.declared.sort.Sort.{Sort}
use Rattle.tree_joins.specs.Seen.{scored}
use Rattle.tree_json.specs.Value.{JsonValue, is_object}
use Rattle.tree_objects.specs.Object.{Object, below, below_along, children, content, given, items, numbered, scope, tree_of, way}
use Rattle.tree_objects.specs.Tree.{Tree}
use Rattle.view_objects.specs.Hits.{hit_object, live_in, live_trees, object_at}
use Rattle.view_objects.specs.declared.hit.Hit.{Hit}
use Rattle.std.proofs.lemmas.List.Elements.{All-from_recursion}
use Rattle.tree_joins.proofs.Each.{each_map}
use Rattle.inner_hits.specs.Hits.{HaveSource, row_at}
use Rattle.std.proofs.lemmas.Simd.{map-map}
use Rattle.inner_hits.proofs.Paging.{by_test}

abbrev row_of_pair : Mapping → Seq Tree → Seq Sort → Object × ℕ → Row
row_of_pair m live sorts pair = row_of m live sorts pair.0 pair.1

rows_paired : (m : Mapping) (live : Seq Tree) (query : Clause) (sorts : Seq Sort) (os : Seq Object) → filter_map (row_if m live query sorts) os ≡ map (row_of_pair m live sorts) (filter_map (scored (hit m live query)) os)
rows_paired m live query sorts [] = refl
rows_paired m live query sorts (o ∷ os) = by (hit m live query o) (rows_paired m live query sorts os)
  where
    by : (score : Option ℕ) → filter_map (row_if m live query sorts) os ≡ map (row_of_pair m live sorts) (filter_map (scored (hit m live query)) os)
        → cons_option (option_map (row_of m live sorts o) score) (filter_map (row_if m live query sorts) os)
        ≡ map (row_of_pair m live sorts) (cons_option (option_map (λ s. (o, s)) score) (filter_map (scored (hit m live query)) os))
    by None rest = rest
    by (Some s) rest = ap (λ l. row_of m live sorts o s ∷ l) rest

-- the rows of objects with scores are those of the hits that stand for them
pub rows_found : (m : Mapping) (trees : Seq (Seq (Marked Tree))) (query : Clause) (sorts : Seq Sort) (os : Seq Object) (hits : Seq Hit)
    → map (hit_object m trees) hits ≡ filter_map (scored (hit m (live_trees trees) query)) os → rows_of m (live_trees trees) query sorts os ≡ map (row_at m trees sorts) hits
unfolding rows_of
rows_found m trees query sorts os hits are =
    rows_paired m (live_trees trees) query sorts os
    ∙ ap (map (row_of_pair m (live_trees trees) sorts)) (sym are)
    ∙ map-map (row_of_pair m (live_trees trees) sorts) (hit_object m trees) hits

-- ---- the tree of objects below another

abbrev OfTree : Tree → Seq Object → Type 0
OfTree t os = AllByRecursion (λ (o : Object). tree_of o ≡ t) os

of_append : (t : Tree) (xs ys : Seq Object) → OfTree t xs → OfTree t ys → OfTree t (xs ++ ys)
of_append t [] ys one other = other
of_append t (x ∷ xs) ys one other = (one.0, of_append t xs ys one.1 other)

of_numbered : (t : Tree) (o : Object) (n offset : ℕ) (values : Seq JsonValue) → tree_of o ≡ t → OfTree t (numbered o n offset values)
of_numbered t o n offset [] own = tt
of_numbered t o n offset (v ∷ values) own = (own, of_numbered t o n (offset + 1) values own)

of_children : (m : Mapping) (t : Tree) (o : Object) (n : ℕ) → tree_of o ≡ t → OfTree t (children m o n)
of_children m t o n own =
    by_test (given m o n)
    (λ yes. rw yes (of_numbered t o n 0 (filter is_object (items (content o) (scope_at m n).names)) own))
    (λ no. rw no tt)

of_each : (m : Mapping) (t : Tree) (ns : Seq ℕ) → ((c : Object) → tree_of c ≡ t → OfTree t (below_along m c ns)) → (os : Seq Object) → OfTree t os → OfTree t (flat_map (λ c. below_along m c ns) os)
of_each m t ns inner [] are = tt
of_each m t ns inner (c ∷ os) are = of_append t (below_along m c ns) (flat_map (λ c. below_along m c ns) os) (inner c are.0) (of_each m t ns inner os are.1)

of_along : (m : Mapping) (t : Tree) (o : Object) (ns : Seq ℕ) → tree_of o ≡ t → OfTree t (below_along m o ns)
of_along m t o [] own = (own, tt)
of_along m t o (n ∷ ns) own = of_each m t ns (λ c same. of_along m t c ns same) (children m o n) (of_children m t o n own)

pub of_below : (m : Mapping) (o : Object) (p : ℕ) → OfTree (tree_of o) (below m o p)
unfolding below
of_below m o p = of_along m (tree_of o) o (way m (scope o) p) refl

-- so are the objects of hits that stand for some of them
of_scored : (given : Object → Option ℕ) (t : Tree) (os : Seq Object) → OfTree t os → AllByRecursion (λ (p : Object × ℕ). tree_of p.0 ≡ t) (filter_map (scored given) os)
of_scored given t [] own = tt
of_scored given t (o ∷ os) own = by (given o) (of_scored given t os own.1)
  where
    by : (score : Option ℕ) → AllByRecursion (λ (p : Object × ℕ). tree_of p.0 ≡ t) (filter_map (scored given) os) → AllByRecursion (λ (p : Object × ℕ). tree_of p.0 ≡ t) (cons_option (option_map (λ s. (o, s)) score) (filter_map (scored given) os))
    by None rest = rest
    by (Some s) rest = (own.0, rest)

of_hits : (m : Mapping) (trees : Seq (Seq (Marked Tree))) (t : Tree) (hits : Seq Hit) → AllByRecursion (λ (p : Object × ℕ). tree_of p.0 ≡ t) (map (hit_object m trees) hits) → AllByRecursion (λ (h : Hit). tree_of (hit_object m trees h).0 ≡ t) hits
of_hits m trees t [] are = tt
of_hits m trees t (h ∷ hits) are = (are.0, of_hits m trees t hits are.1)

pub hits_of_tree : (m : Mapping) (trees : Seq (Seq (Marked Tree))) (given : Object → Option ℕ) (t : Tree) (os : Seq Object) (hits : Seq Hit) → OfTree t os → map (hit_object m trees) hits ≡ filter_map (scored given) os → AllByRecursion (λ (h : Hit). tree_of (hit_object m trees h).0 ≡ t) hits
hits_of_tree m trees given t os hits own are = of_hits m trees t hits (subst (λ (ps : Seq (Object × ℕ)). AllByRecursion (λ (p : Object × ℕ). tree_of p.0 ≡ t) ps) (sym are) (of_scored given t os own))

-- so their root's source is that of the object around them
pub below_source : (m : Mapping) (trees : Seq (Seq (Marked Tree))) (given : Object → Option ℕ) (source : JsonValue) (o : Object) (path : ℕ) (hits : Seq Hit) → source ≡ (tree_of o).source → map (hit_object m trees) hits ≡ filter_map (scored given) (below m o path) → HaveSource m trees path hits source
below_source m trees given source o path hits holds are =
    λ some.
    All-from_recursion (λ (h : Hit). source ≡ (tree_of (object_at m trees h.place h.doc)).source) hits
    (each_map (λ (h : Hit). tree_of (hit_object m trees h).0 ≡ tree_of o) (λ (h : Hit). source ≡ (tree_of (object_at m trees h.place h.doc)).source) (λ h it. holds ∙ ap (λ (t : Tree). t.source) (sym it)) hits
    (hits_of_tree m trees given (tree_of o) (below m o path) hits (of_below m o path) are))

-- ---- the tree of a hit is one of the live trees

kept_in : (P : Tree → Type 0) (trees : Seq (Marked Tree)) (k : ℕ) (t : Marked Tree) → slice_get trees k ≡ Some t → t.live ≡ true → AllByRecursion P (live_in trees) → P t.item
kept_in P [] k t at live all = absurd (let no : ⊥ = cc in no)
kept_in P (x ∷ trees) zero t at live all =
    let same : x ≡ t = cc in
    let here : x.live ≡ true = ap (λ (t : Marked Tree). t.live) same ∙ live in
    subst (λ (t : Marked Tree). P t.item) same ((rw here at all).0)
kept_in P (x ∷ trees) (suc k) t at live all =
    by_test x.live
    (λ yes. kept_in P trees k t at live ((rw yes at all).1))
    (λ no. kept_in P trees k t at live (rw no at all))

part_of : (P : Tree → Type 0) (xs ys : Seq Tree) → AllByRecursion P (xs ++ ys) → AllByRecursion P xs × AllByRecursion P ys
part_of P [] ys all = (tt, all)
part_of P (x ∷ xs) ys all = let more = part_of P xs ys all.1 in ((all.0, more.0), more.1)

kept_at : (P : Tree → Type 0) (entries : Seq (Seq (Marked Tree))) (place : ℕ) → AllByRecursion P (live_trees entries) → AllByRecursion P (live_in (get_or entries place []))
kept_at P [] place all = tt
kept_at P (trees ∷ entries) zero all = (part_of P (live_in trees) (live_trees entries) all).0
kept_at P (trees ∷ entries) (suc place) all = kept_at P entries place ((part_of P (live_in trees) (live_trees entries) all).1)

pub kept_tree : (P : Tree → Type 0) (entries : Seq (Seq (Marked Tree))) (place k : ℕ) (t : Marked Tree) → slice_get (get_or entries place []) k ≡ Some t → t.live ≡ true → AllByRecursion P (live_trees entries) → P t.item
kept_tree P entries place k t at live all = kept_in P (get_or entries place []) k t at live (kept_at P entries place all)
