-- Joins over the documents of trees, some of them dead.
use Rattle.std.proofs.Common.{◌≡◌, ℕ, zero, suc, ◌+◌, ◌<◌, ◌≤◌, ◌==◌, List as Seq, [], ◌∷◌, ◌++◌, length, map, flat_map, zip, Bool, true, false, cond, Option, Some, None, refl, sym, ap, ◌∙◌, subst, arith, append_assoc}
use Rattle.std.specs.Option.{option_to_list}
use Rattle.block_join.specs.Joins.{joined, spread, next_at}
use Rattle.flattener.specs.StandsFor.{Marked}
use Rattle.mapping.specs.Mapping.{Mapping, IsAbove}
use Rattle.tree_objects.specs.Object.{Object, root, scope, objects, block_objects}
use Rattle.tree_objects.specs.Tree.{Tree}
use Rattle.tree_joins.specs.Seen.{scope_mark, scopes_of, if_live, seen, at_scope, gathered, handed}
use Rattle.tree_joins.proofs.Each.{by_test, by_choice}
use Rattle.tree_joins.proofs.Blocks.{Laws, none_above_root}
use Rattle.tree_joins.proofs.Down as down
use Rattle.tree_joins.proofs.Up as up

-- lists of one length that are read together
zip_map : {A B C : Type 0} (f : A → B) (g : A → C) (xs : Seq A) (us : Seq B) (vs : Seq C) → zip (map f xs ++ us) (map g xs ++ vs) ≡ map (λ x. (f x, g x)) xs ++ zip us vs
zip_map f g [] us vs = refl
zip_map f g (x ∷ xs) us vs = ap (λ zs. (f x, g x) ∷ zs) (zip_map f g xs us vs)

map_map : {A B C : Type 0} (g : B → C) (f : A → B) (xs : Seq A) → map g (map f xs) ≡ map (λ x. g (f x)) xs
map_map g f [] = refl
map_map g f (x ∷ xs) = ap (λ zs. g (f x) ∷ zs) (map_map g f xs)

map_same : {A B : Type 0} (f g : A → B) → ((x : A) → f x ≡ g x) → (xs : Seq A) → map f xs ≡ map g xs
map_same f g same [] = refl
map_same f g same (x ∷ xs) = ap (λ y. y ∷ map f xs) (same x) ∙ ap (λ zs. g x ∷ zs) (map_same f g same xs)

abbrev with_told : ℕ → Option ℕ → ℕ × Option ℕ
with_told n x = (n, x)

-- a document that tells nothing
abbrev silent_doc : {A : Type 0} → Object → ℕ × Seq A
silent_doc {A} o = (scope o, [])

abbrev no_doc : Object → ℕ × Option ℕ
no_doc o = (scope o, None)

abbrev nothing : {A : Type 0} → Object → Option A
nothing {A} o = None

silent_up : {A B : Type 0} (mode : Seq A → Option B) (to : ℕ) → mode [] ≡ None → (xs : Seq Object) (rest : Seq (ℕ × Seq A)) → joined mode None to [] (map silent_doc xs ++ rest) ≡ map nothing xs ++ joined mode None to [] rest
silent_up mode to none [] rest = refl
silent_up mode to none (o ∷ xs) rest =
    by_test (scope o == to)
    (λ held. rw held (ap (λ x. x ∷ joined mode None to [] (map silent_doc xs ++ rest)) none ∙ ap (λ zs. None ∷ zs) (silent_up mode to none xs rest)))
    (λ failed. rw failed (ap (λ zs. None ∷ zs) (silent_up mode to none xs rest)))

module _ (m : Mapping) (laws : Laws m) where
  -- ---- up

  module _ {A B : Type 0} (to from : ℕ) (above : IsAbove m to from) (score : Object → Option A) (mode : Seq A → Option B) (none : mode [] ≡ None) where
    abbrev docs_up : Seq (Marked Tree) → Seq (ℕ × Seq A)
    docs_up trees = zip (scopes_of m trees) (map option_to_list (seen m (at_scope from score) trees))

    tree_up : (t : Marked Tree) (trees : Seq (Marked Tree)) → docs_up (t ∷ trees) ≡ map (λ o. (scope o, option_to_list (if_live (at_scope from score) t.live o))) (block_objects m t.item) ++ docs_up trees
    tree_up t trees =
        ap (λ zs. zip (map (scope_mark t.live) (block_objects m t.item) ++ scopes_of m trees) zs)
        (up.map_append option_to_list (map (if_live (at_scope from score) t.live) (block_objects m t.item)) (seen m (at_scope from score) trees)
        ∙ ap (λ zs. zs ++ map option_to_list (seen m (at_scope from score) trees)) (map_map option_to_list (if_live (at_scope from score) t.live) (block_objects m t.item)))
        ∙ zip_map (scope_mark t.live) (λ o. option_to_list (if_live (at_scope from score) t.live o)) (block_objects m t.item) (scopes_of m trees) (map option_to_list (seen m (at_scope from score) trees))

    up_tree : (live : Bool) (tree : Tree) (rest : Seq (ℕ × Seq A))
        → joined mode None to [] (map (λ o. (scope o, option_to_list (if_live (at_scope from score) live o))) (block_objects m tree) ++ rest)
        ≡ map (if_live (at_scope to (gathered m mode from score)) live) (block_objects m tree) ++ joined mode None to [] rest
    unfolding block_objects
    up_tree true tree rest =
        let less = laws.smaller to from above in
        up.passes m laws to from above score mode (length m.scopes) (root tree) (none_above_root m laws to) (omega (arith, less.1)) rest
    up_tree false tree rest = silent_up mode to none (objects m (length m.scopes) (root tree)) rest

    pub up_trees : (trees : Seq (Marked Tree)) → joined mode None to [] (docs_up trees) ≡ seen m (at_scope to (gathered m mode from score)) trees
    up_trees [] = refl
    up_trees (t ∷ trees) =
        ap (joined mode None to []) (tree_up t trees)
        ∙ up_tree t.live t.item (docs_up trees)
        ∙ ap (λ zs. map (if_live (at_scope to (gathered m mode from score)) t.live) (block_objects m t.item) ++ zs) (up_trees trees)

  -- ---- down

  module _ (from to : ℕ) (above : IsAbove m from to) (score : Object → Option ℕ) where
    abbrev docs_down : Seq (Marked Tree) → Seq (ℕ × Option ℕ)
    docs_down trees = zip (scopes_of m trees) (seen m (at_scope from score) trees)

    tree_down : (t : Marked Tree) (trees : Seq (Marked Tree)) → docs_down (t ∷ trees) ≡ map (λ o. (scope o, if_live (at_scope from score) t.live o)) (block_objects m t.item) ++ docs_down trees
    tree_down t trees = zip_map (scope_mark t.live) (if_live (at_scope from score) t.live) (block_objects m t.item) (scopes_of m trees) (seen m (at_scope from score) trees)

    dead_down : (tree : Tree) (rest : Seq (ℕ × Option ℕ)) → spread from to (map no_doc (block_objects m tree) ++ rest) ≡ map nothing (block_objects m tree) ++ spread from to rest
    unfolding block_objects
    dead_down tree rest =
        ap (λ zs. spread from to (zs ++ rest)) (map_same no_doc (down.shown m laws from to above nothing) none_told (objects m (length m.scopes) (root tree)))
        ∙ down.passes m laws from to above nothing (length m.scopes) (root tree) (none_above_root m laws from) rest
        ∙ ap (λ zs. zs ++ spread from to rest) (map_same (down.answer m laws from to above nothing) nothing none_answered (objects m (length m.scopes) (root tree)))
      where
        none_told : (o : Object) → no_doc o ≡ down.shown m laws from to above nothing o
        none_told o = ap (λ x. with_told (scope o) x) (by_choice (λ (x : Option ℕ). None ≡ x) (scope o == from) None None (λ held. refl) (λ failed. refl))

        none_answered : (o : Object) → down.answer m laws from to above nothing o ≡ None
        none_answered o = by_choice (λ (x : Option ℕ). x ≡ None) (scope o == to) None None (λ held. refl) (λ failed. refl)

    down_tree : (live : Bool) (tree : Tree) (rest : Seq (ℕ × Option ℕ))
        → spread from to (map (λ o. (scope o, if_live (at_scope from score) live o)) (block_objects m tree) ++ rest)
        ≡ map (if_live (at_scope to (handed from score)) live) (block_objects m tree) ++ spread from to rest
    unfolding block_objects
    down_tree true tree rest = down.passes m laws from to above score (length m.scopes) (root tree) (none_above_root m laws from) rest
    down_tree false tree rest = dead_down tree rest

    pub down_trees : (trees : Seq (Marked Tree)) → spread from to (docs_down trees) ≡ seen m (at_scope to (handed from score)) trees
    down_trees [] = refl
    down_trees (t ∷ trees) =
        ap (spread from to) (tree_down t trees)
        ∙ down_tree t.live t.item (docs_down trees)
        ∙ ap (λ zs. map (if_live (at_scope to (handed from score)) t.live) (block_objects m t.item) ++ zs) (down_trees trees)
