-- A block that fits is a root with its documents.
use Rattle.std.proofs.Common.{◌≡◌, ℕ, ◌==◌, List, [], ◌∷◌, length, map, filter, refl, sym, ap, subst, ◌∙◌}
use Rattle.std.specs.List.{AllByRecursion}
use Rattle.std.proofs.lemmas.List.Elements.{All-from_recursion}
use Rattle.mapping.specs.IsMapping.{IsMapping}
use Rattle.mapping.specs.Mapping.{Mapping}
use Rattle.mapping_body.proofs.Walks.{split}
use Rattle.segment.specs.Flat.{FlatDocument}
use Rattle.tree_objects.specs.Enclosing.{stands_at}
use Rattle.tree_objects.specs.Object.{Object, scope, block_objects}
use Rattle.tree_objects.proofs.Inside.{root_found}
use Rattle.flattener.specs.Block.{BlockState, flats_of_tree, root_of_tree}
use Rattle.flattener.specs.Fits.{BlockFits, IsDocument, IsRootOf, is_root}
use Rattle.flattener.specs.Flat.{flat_of}
use Rattle.flattener.proofs.Fitted.{IsOf, objects_of_tree, document_fits}
use Rattle.flattener.proofs.Nested.{tree_nested}
use Rattle.flattener.proofs.Relations.{join_fits}

pub each_mapped : {A B : Type 0} (P : A → Type 0) (Q : B → Type 0) (f : A → B) → ((x : A) → P x → Q (f x)) → (xs : List A) → AllByRecursion P xs → AllByRecursion Q (map f xs)
each_mapped P Q f step [] each = tt
each_mapped P Q f step (x ∷ xs) each = (step x each.0, each_mapped P Q f step xs each.1)

scopes_same : (m : Mapping) (os : List Object) → map (λ (flat : FlatDocument). flat.scope) (map (flat_of m) os) ≡ map scope os
scopes_same m [] = refl
scopes_same m (o ∷ os) = ap (λ (ss : List ℕ). scope o ∷ ss) (scopes_same m os)

roots_same : (m : Mapping) (os : List Object) → filter is_root (map (flat_of m) os) ≡ map (flat_of m) (filter (stands_at 0) os)
roots_same m [] = refl
roots_same m (o ∷ os) =
    split (scope o == 0)
    (λ yes. rw yes (ap (λ (ds : List FlatDocument). flat_of m o ∷ ds) (roots_same m os)))
    (λ no. rw no (roots_same m os))

tree_fits : (m : Mapping) (block : BlockState) → IsMapping m → (fits : BlockFits m block) → IsRootOf m (root_of_tree m fits.tree) (flats_of_tree m fits.tree)
unfolding flats_of_tree root_of_tree
tree_fits m block is fits =
    let tree = fits.tree in
    let given = fits.given in
    let join = join_fits m tree in
    record {
      id = given.id;
      parent = join.parent;
      number = fits.number;
      first = given.first;
      last = given.last;
      join = join.relation;
      source = (tree.source, given.source, refl);
      documents = All-from_recursion (IsDocument m tree.generation) _
          (each_mapped (IsOf m tree) (IsDocument m tree.generation) (flat_of m) (document_fits m tree) (block_objects m tree) (objects_of_tree m tree is given.first));
      nested = rw (scopes_same m (block_objects m tree)) (tree_nested m tree is);
      one_root = ap length (roots_same m (block_objects m tree) ∙ ap (map (flat_of m)) (root_found m tree is));
    }

pub block_fits_as_root : (m : Mapping) (block : BlockState) → IsMapping m → BlockFits m block → IsRootOf m block.root block.flats
block_fits_as_root m block is fits = subst (λ (b : BlockState). IsRootOf m b.root b.flats) (sym fits.is) (tree_fits m block is fits)
