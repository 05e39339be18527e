-- Pages and hits as they are shown.
use Rattle.std.proofs.Common.{◌≡◌, ℕ, zero, suc, ℤ, ◌+◌, ◌<◌, ◌≤◌, List as Seq, [], ◌∷◌, ◌++◌, length, get_or, map, take, drop, Option, Some, None, refl, sym, ap, ◌∙◌, arith, append_assoc, if◌then◌else◌}
use Rattle.std.proofs.lemmas.List.{append-nil, drop_all, drop_more, length-map, map-append}
use Rattle.std.proofs.lemmas.Simd.{map-map}
use Rattle.std.proofs.lemmas.List.Elements.{All-contains, All-weaker}
use Rattle.std.specs.List.{All, Contains, filter_map}
use Rattle.flattener.specs.StandsFor.{Marked}
use Rattle.mapping.specs.Mapping.{Mapping}
use Rattle.query_ast.specs.Clause.{Clause}
use Rattle.query_ast.specs.Definition.{definitions_of}
use Rattle.query_ast.specs.Hit.{hit}
use Rattle.query_ast.specs.Inner.View.{inner_of}
use Rattle.query_ast.specs.InnerHits.{hit_by, inner_page, inner_pages, levels_of, objects_over, page_by, source_of}
use Rattle.query_ast.specs.Joined.{child_trees, parent_trees, roots}
use Rattle.query_ast.specs.Page.{direction_of, page_of}
use Rattle.query_ast.specs.Pages.{HitPart, Hits, PagePart, hits_of, no_hits, pages_of, with_hit}
use Rattle.query_ast.specs.Rows.{Row, keys_of as row_keys, number_of as row_number, paged, rows_of}
use Rattle.query_ast.specs.declared.hit.Level.{Level}
use Rattle.query_ast.specs.Pages.View.{hit_part, page_part}
use Rattle.query_ast.specs.declared.hit.InnerHit.{InnerHit}
use Rattle.query_ast.specs.declared.hit.InnerPage.{InnerPage}
use Rattle.query_ast.specs.declared.inner.InnerDef.{InnerDef}
use Rattle.query_ast.specs.declared.inner.InnerOver.{InnerOver}
use Rattle.query_ast.specs.declared.inner.InnerOver.TheVariants.{Below, Children as ChildTrees, Parents as ParentTrees, Ignored}
use Rattle.query_ast.specs.declared.sort.Direction.{Direction}
use Rattle.query_ast.specs.declared.sort.Key.{Key}
use Rattle.query_ast.specs.declared.sort.Sort.{Sort}
use Rattle.tree_joins.specs.Seen.{scored}
use Rattle.tree_json.specs.Text.{compact}
use Rattle.tree_objects.specs.Object.{Object, below, content, inside, root, scope, tree_of}
use Rattle.tree_objects.specs.Tree.{Tree}
use Rattle.view_objects.specs.Hits.{hit_object, live_trees, object_at}
use Rattle.view_objects.specs.declared.hit.Hit.{Hit}
use Rattle.inner_hits.specs.Hits.{page_among, page_in, row_at, shown_as}
use Rattle.inner_hits.specs.Steps.{is_tree, joined_among, joined_in}
use Rattle.inner_hits.proofs.Objects.{rows_found}

module _ (m : Mapping) (trees : Seq (Seq (Marked Tree))) (def : InnerDef) where
  -- the page of a definition stands on the hits that were found for its objects
  pub page_found : (o : Object) (hits : Seq Hit) → map (hit_object m trees) hits ≡ filter_map (scored (hit m (live_trees trees) def.query)) (objects_over m (live_trees trees) def.over o)
      → page_in m (live_trees trees) (inner_of def) (map (row_at m trees def.sort) hits) ≡ inner_page m (live_trees trees) (inner_of def) o
  unfolding page_in
  page_found o hits are =
      ap (page_among m (live_trees trees) (inner_of def)) (sym (rows_found m trees def.query def.sort (objects_over m (live_trees trees) def.over o) hits are))

  shown_rows : (hits : Seq Hit) → map (shown_as m trees (inner_of def)) hits ≡ map (hit_by m def.source (inner_pages m (live_trees trees) (definitions_of def.owned))) (map (row_at m trees def.sort) hits)
  unfolding shown_as
  shown_rows hits = sym (map-map (hit_by m def.source (inner_pages m (live_trees trees) (definitions_of def.owned))) (row_at m trees def.sort) hits)

  -- of which the page's are shown
  pub page_shown : (found page : Seq Hit) (shown : Seq HitPart) → map (row_at m trees def.sort) page ≡ paged def.sort None def.from def.size (map (row_at m trees def.sort) found) → shown ≡ map (shown_as m trees (inner_of def)) page
      → record { name = def.name; hits = hits_of shown; total = length found } ≡ page_in m (live_trees trees) (inner_of def) (map (row_at m trees def.sort) found)
  unfolding page_in
  page_shown found page shown rows are =
      ap (λ (hs : Seq HitPart). record { name = def.name; hits = hits_of hs; total = length found })
      (are ∙ shown_rows page ∙ ap (map (hit_by m def.source (inner_pages m (live_trees trees) (definitions_of def.owned)))) rows)
      ∙ ap (λ (n : ℕ). record { name = def.name; hits = hits_of (map (hit_by m def.source (inner_pages m (live_trees trees) (definitions_of def.owned))) (paged def.sort None def.from def.size (map (row_at m trees def.sort) found))); total = n })
      (sym (length-map found (row_at m trees def.sort)))

  pub same_hits : (found page : Seq Hit) → map (row_at m trees def.sort) page ≡ paged def.sort None def.from def.size (map (row_at m trees def.sort) found)
      → hits_of (map (shown_as m trees (inner_of def)) page) ≡ (page_in m (live_trees trees) (inner_of def) (map (row_at m trees def.sort) found)).hits
  same_hits found page rows = ap (λ (p : PagePart). p.hits) (page_shown found page (map (shown_as m trees (inner_of def)) page) rows refl)

  -- a hit by its parts
  pub hit_is : (hit : Hit) (id : Seq ℕ) (levels : Seq Level) (source : Option (Seq ℕ)) (pages : Seq PagePart) → (let o = object_at m trees hit.place hit.doc in
      id ≡ (tree_of o).id → levels ≡ levels_of m o → source ≡ (if def.source then Some (compact (content o)) else None) → pages ≡ inner_pages m (live_trees trees) (definitions_of def.owned) o
      → record { head = record { id = id; levels = levels; score = hit.score; source = source }; inner = pages_of pages } ≡ shown_as m trees (inner_of def) hit)
  unfolding shown_as
  hit_is hit id levels source pages same_id same_levels same_source same_pages =
      ap (λ (x : Seq ℕ). record { head = record { id = x; levels = levels; score = hit.score; source = source }; inner = pages_of pages }) same_id
      ∙ ap (λ (x : Seq Level). record { head = record { id = (tree_of (object_at m trees hit.place hit.doc)).id; levels = x; score = hit.score; source = source }; inner = pages_of pages }) same_levels
      ∙ ap (λ (x : Option (Seq ℕ)). record { head = record { id = (tree_of (object_at m trees hit.place hit.doc)).id; levels = levels_of m (object_at m trees hit.place hit.doc); score = hit.score; source = x }; inner = pages_of pages }) same_source
      ∙ ap (λ (x : Seq PagePart). record { head = record { id = (tree_of (object_at m trees hit.place hit.doc)).id; levels = levels_of m (object_at m trees hit.place hit.doc); score = hit.score; source = source_of def.source (object_at m trees hit.place hit.doc) }; inner = pages_of x }) same_pages

-- ---- a page without hits

drop_nothing : {A : Type 0} (k : ℕ) → (let none : Seq A = [] in drop k none ≡ none)
drop_nothing zero = refl
drop_nothing (suc k) = refl

take_nothing : {A : Type 0} (k : ℕ) → (let none : Seq A = [] in take k none ≡ none)
take_nothing zero = refl
take_nothing (suc k) = refl

no_page : {A : Type 0} (keys : A → Seq Key) (number : A → ℤ) (ds : Seq Direction) (from size : ℕ) → page_of keys number ds None from size [] ≡ []
unfolding page_of
no_page {A = A} keys number ds from size = ap (λ (l : Seq A). take size l) (drop_nothing {A = A} from) ∙ take_nothing {A = A} size

no_rows : (m : Mapping) (live : Seq Tree) (query : Clause) (sorts : Seq Sort) → rows_of m live query sorts [] ≡ []
unfolding rows_of
no_rows m live query sorts = refl

pub empty_is : (m : Mapping) (live : Seq Tree) (def : InnerDef) (o : Object) → objects_over m live def.over o ≡ [] → record { name = def.name; hits = hits_of []; total = 0 } ≡ inner_page m live (inner_of def) o
empty_is m live def o none =
    ap (λ (rows : Seq Row). record { name = def.name; hits = hits_of (map (hit_by m def.source (inner_pages m live (definitions_of def.owned))) rows); total = 0 })
    (sym (no_page row_keys row_number (map direction_of def.sort) def.from def.size))
    ∙ ap (λ (rows : Seq Row). page_by m (record { name = def.name; over = def.over; query = def.query; from = def.from; size = def.size; sort = def.sort; source = def.source }) (inner_pages m live (definitions_of def.owned)) rows)
    (sym (ap (rows_of m live def.query def.sort) none ∙ no_rows m live def.query def.sort))

-- no trees are joined to an object inside another
pub no_children : (m : Mapping) (live : Seq Tree) (r : ℕ) (o : Object) (n : ℕ) → scope o ≡ n → (n ≡ 0 → ⊥) → roots (child_trees m live r o) ≡ []
unfolding child_trees
no_children m live r (root tree) n is other = absurd (other (sym is))
no_children m live r (inside outer nested offset v) n is other = refl

pub no_parents : (m : Mapping) (live : Seq Tree) (r : ℕ) (o : Object) (n : ℕ) → scope o ≡ n → (n ≡ 0 → ⊥) → roots (parent_trees m live r o) ≡ []
unfolding parent_trees
no_parents m live r (root tree) n is other = absurd (other (sym is))
no_parents m live r (inside outer nested offset v) n is other = refl

-- ---- how many joined trees a hit shows

pub joined_shown : (m : Mapping) (trees : Seq (Seq (Marked Tree))) (def : InnerDef) (hit : Hit)
    → joined_among (hits_of (shown_as m trees (inner_of def) hit ∷ [])) ≡ is_tree (levels_of m (object_at m trees hit.place hit.doc)) + joined_in (pages_of (inner_pages m (live_trees trees) (definitions_of def.owned) (object_at m trees hit.place hit.doc)))
unfolding shown_as
joined_shown m trees def hit =
    let own = is_tree (levels_of m (object_at m trees hit.place hit.doc)) in
    let inner = joined_in (pages_of (inner_pages m (live_trees trees) (definitions_of def.owned) (object_at m trees hit.place hit.doc))) in
    let e : own + inner + 0 ≡ own + inner = omega arith in
    e

-- ---- the page of a definition, by what it is over

module _ (m : Mapping) (trees : Seq (Seq (Marked Tree))) (def : InnerDef) (o : Object) (hits : Seq Hit) where
  pub page_below : (path : ℕ) → def.over ≡ Below path → map (hit_object m trees) hits ≡ filter_map (scored (hit m (live_trees trees) def.query)) (below m o path)
      → page_in m (live_trees trees) (inner_of def) (map (row_at m trees def.sort) hits) ≡ inner_page m (live_trees trees) (inner_of def) o
  page_below path is are = page_found m trees def o hits (are ∙ sym (ap (λ (over : InnerOver). filter_map (scored (hit m (live_trees trees) def.query)) (objects_over m (live_trees trees) over o)) is))

  pub page_children : (r : ℕ) → def.over ≡ ChildTrees r → map (hit_object m trees) hits ≡ filter_map (scored (hit m (live_trees trees) def.query)) (roots (child_trees m (live_trees trees) r o))
      → page_in m (live_trees trees) (inner_of def) (map (row_at m trees def.sort) hits) ≡ inner_page m (live_trees trees) (inner_of def) o
  page_children r is are = page_found m trees def o hits (are ∙ sym (ap (λ (over : InnerOver). filter_map (scored (hit m (live_trees trees) def.query)) (objects_over m (live_trees trees) over o)) is))

  pub page_parents : (r : ℕ) → def.over ≡ ParentTrees r → map (hit_object m trees) hits ≡ filter_map (scored (hit m (live_trees trees) def.query)) (roots (parent_trees m (live_trees trees) r o))
      → page_in m (live_trees trees) (inner_of def) (map (row_at m trees def.sort) hits) ≡ inner_page m (live_trees trees) (inner_of def) o
  page_parents r is are = page_found m trees def o hits (are ∙ sym (ap (λ (over : InnerOver). filter_map (scored (hit m (live_trees trees) def.query)) (objects_over m (live_trees trees) over o)) is))

module _ (m : Mapping) (live : Seq Tree) (def : InnerDef) (o : Object) where
  pub empty_ignored : def.over ≡ Ignored → record { name = def.name; hits = hits_of []; total = 0 } ≡ inner_page m live (inner_of def) o
  empty_ignored is = empty_is m live def o (ap (λ (over : InnerOver). objects_over m live over o) is)

  pub empty_children : (r n : ℕ) → def.over ≡ ChildTrees r → scope o ≡ n → (n ≡ 0 → ⊥) → record { name = def.name; hits = hits_of []; total = 0 } ≡ inner_page m live (inner_of def) o
  empty_children r n is here other = empty_is m live def o (ap (λ (over : InnerOver). objects_over m live over o) is ∙ no_children m live r o n here other)

  pub empty_parents : (r n : ℕ) → def.over ≡ ParentTrees r → scope o ≡ n → (n ≡ 0 → ⊥) → record { name = def.name; hits = hits_of []; total = 0 } ≡ inner_page m live (inner_of def) o
  empty_parents r n is here other = empty_is m live def o (ap (λ (over : InnerOver). objects_over m live over o) is ∙ no_parents m live r o n here other)

-- ---- pages and hits, one after the other

pub pages_none : (old : Seq PagePart) → old ≡ old ++ []
pages_none old = sym (append-nil old)

pub pages_more : (old mid new : Seq InnerPage) (page : InnerPage) (p : PagePart) (ps : Seq PagePart) → mid ≡ old ++ page ∷ [] → page_part page ≡ p → map page_part new ≡ map page_part mid ++ ps → map page_part new ≡ map page_part old ++ p ∷ ps
pages_more old mid new page p ps is own rest =
    rest
    ∙ ap (λ (l : Seq InnerPage). map page_part l ++ ps) is
    ∙ ap (λ (l : Seq PagePart). l ++ ps) (map-append page_part old (page ∷ []))
    ∙ append_assoc (map page_part old) (page_part page ∷ []) ps
    ∙ ap (λ (x : PagePart). map page_part old ++ x ∷ ps) own

pub shown_more : (f : Hit → HitPart) (hits : Seq Hit) (i : ℕ) (h : Hit) (had new : Seq InnerHit) (one : InnerHit) → drop i hits ≡ h ∷ drop (i + 1) hits → hit_part one ≡ f h → new ≡ had ++ one ∷ []
    → map hit_part had ++ map f (drop i hits) ≡ map f hits → map hit_part new ++ map f (drop (i + 1) hits) ≡ map f hits
shown_more f hits i h had new one step own is goes =
    ap (λ (l : Seq InnerHit). map hit_part l ++ map f (drop (i + 1) hits)) is
    ∙ ap (λ (l : Seq HitPart). l ++ map f (drop (i + 1) hits)) (map-append hit_part had (one ∷ []))
    ∙ append_assoc (map hit_part had) (hit_part one ∷ []) (map f (drop (i + 1) hits))
    ∙ ap (λ (x : HitPart). map hit_part had ++ x ∷ map f (drop (i + 1) hits)) own
    ∙ ap (λ (l : Seq Hit). map hit_part had ++ map f l) (sym step)
    ∙ goes

pub drop_step : (xs : Seq Hit) (k : ℕ) (x : Hit) → k < length xs → x ≡ get_or xs k x → drop k xs ≡ x ∷ drop (k + 1) xs
drop_step xs k x low is = drop_more xs k x low ∙ ap (λ (y : Hit). y ∷ drop (k + 1) xs) (sym is)

pub shown_end : (f : Hit → HitPart) (hits : Seq Hit) (i : ℕ) (had : Seq InnerHit) → length hits ≤ i → map hit_part had ++ map f (drop i hits) ≡ map f hits → map hit_part had ≡ map f hits
shown_end f hits i had past goes = sym (append-nil (map hit_part had)) ∙ ap (λ (l : Seq Hit). map hit_part had ++ map f l) (sym (drop_all i hits past)) ∙ goes

-- ---- a page and a hit by their parts

pub shown_is : (m : Mapping) (trees : Seq (Seq (Marked Tree))) (def : InnerDef) (name : Seq ℕ) (hits shown : Seq HitPart) (total : ℕ) (found page : Seq Hit) → name ≡ def.name → hits ≡ shown → total ≡ length found
    → map (row_at m trees def.sort) page ≡ paged def.sort None def.from def.size (map (row_at m trees def.sort) found) → shown ≡ map (shown_as m trees (inner_of def)) page
    → record { name = name; hits = hits_of hits; total = total } ≡ page_in m (live_trees trees) (inner_of def) (map (row_at m trees def.sort) found)
shown_is m trees def name hits shown total found page named same counted rows are =
    ap (λ (n : Seq ℕ). record { name = n; hits = hits_of hits; total = total }) named
    ∙ ap (λ (l : Seq HitPart). record { name = def.name; hits = hits_of l; total = total }) same
    ∙ ap (λ (n : ℕ). record { name = def.name; hits = hits_of shown; total = n }) counted
    ∙ page_shown m trees def found page shown rows are

-- what is so of all hits is so of those among them
pub among_all : (P : Hit → Type 0) (hits page : Seq Hit) → All (Contains hits) page → All P hits → All P page
among_all P hits page among all = All-weaker (Contains hits) P (λ x there. All-contains P hits x all there) page among

-- one hit more costs what it shows
pub joined_step : (f : Hit → HitPart) (hits : Seq Hit) (i : ℕ) (h : Hit) → drop i hits ≡ h ∷ drop (i + 1) hits → joined_among (hits_of (map f (drop i hits))) ≡ joined_among (hits_of (f h ∷ [])) + joined_among (hits_of (map f (drop (i + 1) hits)))
joined_step f hits i h step =
    ap (λ (l : Seq Hit). joined_among (hits_of (map f l))) step ∙ more (f h) (hits_of (map f (drop (i + 1) hits)))
  where
    more : (p : HitPart) (rest : Hits) → joined_among (with_hit p.head p.inner rest) ≡ joined_among (with_hit p.head p.inner no_hits) + joined_among rest
    more p rest =
        let own = is_tree p.head.levels + joined_in p.inner in
        let e : own + joined_among rest ≡ own + 0 + joined_among rest = omega arith in
        e

pub positive : (n : ℕ) → (n ≡ 0 → ⊥) → 0 < n
positive zero other = absurd (other refl)
positive (suc n) other = omega arith

-- a tree costs one source beside its pages
pub tree_shown : (m : Mapping) (trees : Seq (Seq (Marked Tree))) (def : InnerDef) (hit : Hit) → object_at m trees hit.place hit.doc ≡ root (tree_of (object_at m trees hit.place hit.doc))
    → joined_among (hits_of (shown_as m trees (inner_of def) hit ∷ [])) ≡ 1 + joined_in (pages_of (inner_pages m (live_trees trees) (definitions_of def.owned) (object_at m trees hit.place hit.doc)))
tree_shown m trees def hit at_root =
    joined_shown m trees def hit
    ∙ ap (λ (o : Object). is_tree (levels_of m o) + joined_in (pages_of (inner_pages m (live_trees trees) (definitions_of def.owned) (object_at m trees hit.place hit.doc)))) at_root

pub steps_more : (f : Hit → HitPart) (hits : Seq Hit) (i : ℕ) (h : Hit) (first now next : ℕ) → drop i hits ≡ h ∷ drop (i + 1) hits → next ≤ now + joined_among (hits_of (f h ∷ []))
    → now + joined_among (hits_of (map f (drop i hits))) ≤ first + joined_among (hits_of (map f hits)) → next + joined_among (hits_of (map f (drop (i + 1) hits))) ≤ first + joined_among (hits_of (map f hits))
steps_more f hits i h first now next step one prior = omega (arith, one, prior, joined_step f hits i h step)
