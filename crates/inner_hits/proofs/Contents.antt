-- The place and the content of a child.
use Rattle.std.proofs.Common.{◌≡◌, ℕ, zero, suc, ◌+◌, ◌<◌, ◌==◌, false, List as Seq, [], ◌∷◌, ◌++◌, length, get_or, slice_get, Some, None, is_some, refl, sym, ap, subst, ◌∙◌, arith}
use Rattle.std.proofs.lemmas.Bool.{eqb-true, false≢true}
use Rattle.std.proofs.lemmas.Option.{get_or_from_slice_get, same_Some}
use Rattle.std.specs.List.{join_with_byte}
use Rattle.block_bits.specs.Blocks.{has_scope}
use Rattle.block_bits.specs.Places.{next_place}
use Rattle.flattener.specs.StandsFor.{Marked}
use Rattle.mapping.specs.Mapping.{Mapping, around_of, outer, scope_at}
use Rattle.mapping_body.specs.Names.{dot}
use Rattle.query_ast.specs.InnerHits.{levels_of}
use Rattle.query_ast.specs.declared.hit.Level.{Level}
use Rattle.query_eval.specs.Folds.{scopes_in}
use Rattle.segment_parts.specs.declared.columns.Columns.{Columns}
use Rattle.tree_joins.specs.Seen.{scopes_of}
use Rattle.tree_json.specs.Value.{JsonValue, null}
use Rattle.tree_json.specs.View.{view}
use Rattle.tree_objects.specs.Object.{Object, children, content, given, inside, numbered, root, scope, tree_of}
use Rattle.tree_objects.specs.Tree.{Tree}
use Rattle.view_objects.specs.Hits.{IsChildAt, IsInTree, count_between, document_object, no_object, start_before}
use Rattle.inner_hits.specs.Along.{objects_along}
use Rattle.inner_hits.specs.Contents.{ChildIs, IsChildOf, IsLocated}
use Rattle.inner_hits.specs.declared.content.ChildDoc.{ChildDoc}
use Rattle.inner_hits.specs.declared.content.ObjectAt.{ObjectAt}
use Rattle.inner_hits.proofs.Paging.{by_test}

numbered_at : (o : Object) (n from k : ℕ) (values : Seq JsonValue) (d : Object) → k < length values → get_or (numbered o n from values) k d ≡ inside o n (from + k) (get_or values k null)
numbered_at o n from k [] d low = absurd (omega (arith, low))
numbered_at o n from zero (v ∷ values) d low = let e : from + 0 ≡ from = omega arith in rw e refl
numbered_at o n from (suc k) (v ∷ values) d low = let e : from + suc k ≡ from + 1 + k = omega arith in rw e (numbered_at o n (from + 1) k values d (omega (arith, low)))

numbered_long : (o : Object) (n from : ℕ) (values : Seq JsonValue) → length (numbered o n from values) ≡ length values
numbered_long o n from [] = refl
numbered_long o n from (v ∷ values) = ap suc (numbered_long o n (from + 1) values)

none_there : {A : Type 0} (xs : Seq A) (k : ℕ) → k < length xs → None ≡ slice_get xs k → ⊥
none_there [] k low is = absurd (omega (arith, low))
none_there (y ∷ ys) zero low is = (let no : ⊥ = cc in no)
none_there (y ∷ ys) (suc k) low is = none_there ys k (omega (arith, low)) is

pub child_is : (m : Mapping) (parent : Object) (n k : ℕ) (o : Object) → k < length (children m parent n) → get_or (children m parent n) k no_object ≡ o → ChildIs m parent n k o
child_is m parent n k o low at =
    by_test (given m parent n)
    (λ yes.
    let few : k < length (numbered parent n 0 (objects_along (content parent) (scope_at m n).names)) = rw yes at low in
    let within : k < length (objects_along (content parent) (scope_at m n).names) = omega (arith, few, numbered_long parent n 0 (objects_along (content parent) (scope_at m n).names)) in
    let here : get_or (numbered parent n 0 (objects_along (content parent) (scope_at m n).names)) k no_object ≡ o = rw yes at at in
    let e : 0 + k ≡ k = omega arith in
    record {
      is = sym here ∙ numbered_at parent n 0 k (objects_along (content parent) (scope_at m n).names) no_object within ∙ ap (λ j. inside parent n j (get_or (objects_along (content parent) (scope_at m n).names) k null)) e;
      low = within;
    })
    (λ no. absurd (let none : k < 0 = rw no at low in omega (arith, none)))

pub read_found : (values : Seq JsonValue) (k : ℕ) (v : JsonValue) → Some v ≡ slice_get values k → k < length values → v ≡ get_or values k null
read_found values k v is low = sym (get_or_from_slice_get values k v null (sym is))

pub read_none : (values : Seq JsonValue) (k : ℕ) (v : JsonValue) → None ≡ slice_get values k → k < length values → v ≡ get_or values k null
read_none values k v is low = absurd (none_there values k low is)

pub ruleset reading = (read_found, read_none)

-- a step further in
pub step_in : (m : Mapping) (o child : Object) (n k : ℕ) (outer it : ObjectAt) (level : Level) (names : Seq (Seq ℕ)) → names ≡ (scope_at m n).names → IsLocated m o outer → ChildIs m o n k child
    → level.field ≡ join_with_byte dot names → level.offset ≡ k → it.levels.items ≡ outer.levels.items ++ level ∷ []
    → (k < length (objects_along (view outer.content.now) names) → view it.content.now ≡ get_or (objects_along (view outer.content.now) names) k null) → IsLocated m child it
step_in m o child n k outer it level names same from is field offset levels read =
    let values : objects_along (view outer.content.now) names ≡ objects_along (content o) (scope_at m n).names =
    ap (λ (v : JsonValue). objects_along v names) from.holds ∙ ap (λ (ns : Seq (Seq ℕ)). objects_along (content o) ns) same in
    let low : k < length (objects_along (view outer.content.now) names) = subst (λ (l : Seq JsonValue). k < length l) (sym values) is.low in
    record {
      levels =
          levels ∙ ap (λ (l : Seq Level). l ++ level ∷ []) from.levels
          ∙ ap (λ (f : Seq ℕ). levels_of m o ++ record { field = f; offset = level.offset } ∷ []) (field ∙ ap (join_with_byte dot) same)
          ∙ ap (λ (j : ℕ). levels_of m o ++ record { field = join_with_byte dot (scope_at m n).names; offset = j } ∷ []) offset
          ∙ sym (ap (levels_of m) is.is);
      holds = read low ∙ ap (λ (l : Seq JsonValue). get_or l k null) values ∙ sym (ap content is.is);
    }

pub ruleset steps = (step_in)

-- at the root
pub root_located : (m : Mapping) (trees : Seq (Marked Tree)) (doc : ℕ) (it : ObjectAt) → IsInTree m trees doc → scope (document_object m trees doc) ≡ 0 → it.levels.items ≡ [] → view it.content.now ≡ (tree_of (document_object m trees doc)).source → IsLocated m (document_object m trees doc) it
root_located m trees doc it in_tree here levels holds =
    let same : document_object m trees doc ≡ root (tree_of (document_object m trees doc)) = in_tree.at_root here ∙ ap (λ (t : Tree). root t) (sym in_tree.tree) in
    record { levels = levels ∙ sym (ap (levels_of m) same); holds = holds ∙ sym (ap content same) }

-- a child by what a walk over documents finds
module _ (m : Mapping) (columns : Columns) (trees : Seq (Marked Tree)) (doc n : ℕ) (scopes : scopes_in columns ≡ scopes_of m trees) (at : IsChildAt m trees doc n) where
  pub child_there : next_place (has_scope (outer m n)) (doc + 1) (scopes_in columns) ≡ None → ⊥
  child_there none = false≢true (ap is_some (sym none ∙ ap (next_place (has_scope (outer m n)) (doc + 1)) scopes ∙ at.next))

  pub same_parent : (child : ChildDoc) → IsChildOf (outer m n) n doc columns child → child.parent ≡ at.parent
  same_parent child is = same_Some child.parent at.parent (sym is.next ∙ ap (next_place (has_scope (outer m n)) (doc + 1)) scopes ∙ at.next)

  pub child_found : (child : ChildDoc) → IsChildOf (outer m n) n doc columns child → ChildIs m (document_object m trees child.parent) n child.offset (document_object m trees doc)
  child_found child is =
      let parent = same_parent child is in
      let offset : child.offset ≡ count_between n (start_before (outer m n) at.parent (scopes_of m trees)) doc (scopes_of m trees) =
      is.offset
      ∙ ap (λ (l : Seq ℕ). count_between n (start_before (outer m n) child.parent l) doc l) scopes
      ∙ ap (λ (k : ℕ). count_between n (start_before (outer m n) k (scopes_of m trees)) doc (scopes_of m trees)) parent in
      subst (λ (k : ℕ). ChildIs m (document_object m trees k) n child.offset (document_object m trees doc)) (sym parent)
      (subst (λ (k : ℕ). ChildIs m (document_object m trees at.parent) n k (document_object m trees doc)) (sym offset)
      (child_is m (document_object m trees at.parent) n (count_between n (start_before (outer m n) at.parent (scopes_of m trees)) doc (scopes_of m trees)) (document_object m trees doc) at.counted at.child))

  pub parent_around : (child : ChildDoc) → IsChildOf (outer m n) n doc columns child → scope (document_object m trees child.parent) ≡ outer m n
  parent_around child is = ap (λ (k : ℕ). scope (document_object m trees k)) (same_parent child is) ∙ at.around

-- and it is of one tree with the object around it
pub same_tree : (m : Mapping) (o child : Object) (n k : ℕ) → ChildIs m o n k child → tree_of child ≡ tree_of o
same_tree m o child n k is = ap tree_of is.is

positive : (n : ℕ) → (n == 0) ≡ false → 0 < n
positive n other = grind arith

pub around_none : (m : Mapping) (n : ℕ) → around_of m n ≡ None → n ≡ 0
around_none m n is = by_test (n == 0) (λ yes. eqb-true n 0 yes) (λ no. absurd (false≢true (ap is_some (sym (rw no at is)))))

pub around_positive : (m : Mapping) (n a : ℕ) → Some a ≡ around_of m n → 0 < n
around_positive m n a is = by_test (n == 0) (λ yes. absurd (false≢true (sym (ap is_some (rw yes at is))))) (λ no. positive n no)

pub around_is : (m : Mapping) (n a : ℕ) → Some a ≡ around_of m n → outer m n ≡ a
around_is m n a is = by_test (n == 0) (λ yes. absurd (false≢true (sym (ap is_some (rw yes at is))))) (λ no. sym (same_Some a (outer m n) (rw no at is)))

pub ruleset arounds = (around_positive, around_is)
