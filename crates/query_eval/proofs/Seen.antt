-- Scores of the documents of trees, put together and changed one by one.
use Rattle.std.proofs.Common.{◌≡◌, ℕ, suc, ◌==◌, Bool, true, false, ◌&&◌, cond, List, [], ◌∷◌, ◌++◌, length, map, Option, Some, None, is_none, refl, sym, ap, ◌∙◌, subst}
use Rattle.std.specs.Prelude.{IsSome}
use Rattle.std.specs.List.{list_all}
use Rattle.std.proofs.lemmas.Bool.{and_parts, eqb-true}
use Rattle.block_join.specs.Merge.{paired, put_together}
use Rattle.block_join.specs.Scores.{filled}
use Rattle.block_join.specs.declared.rule.Rule.{Rule}
use Rattle.block_join.specs.declared.rule.Rule.TheVariants.{Both, Kept, Without, Plus, Either, Greatest, Counted, AtLeast}
use Rattle.flattener.specs.StandsFor.{EntryStandsFor, by_document}
use Rattle.leaf_search.specs.Found.{Finds, found}
use Rattle.mapping.specs.Mapping.{Mapping}
use Rattle.query_ast.specs.Clause.{Leaf}
use Rattle.query_ast.specs.Leaf.{leaf_holds}
use Rattle.query_ast.specs.Resolved.{IsLeaf}
use Rattle.segment.specs.Live.{EntryState, LiveState}
use Rattle.segment_parts.specs.declared.columns.Columns.{Columns}
use Rattle.tree_joins.specs.Seen.{at_scope, if_live, seen}
use Rattle.tree_objects.specs.Object.{Object, block_objects, scope}
use Rattle.tree_objects.specs.Tree.{Tree}
use Rattle.query_eval.specs.Folds.{have_none, leaf_score}
use Rattle.query_eval.specs.Found.{IsSeen, live_trees}
use Rattle.query_eval.proofs.Entries.{Scores, Trees}

by_test : {G : Type 0} (t : Bool) → (t ≡ true → G) → (t ≡ false → G) → G
by_test true held failed = held refl
by_test false held failed = failed refl

-- ---- two scores put together

pub none_of_none : (rule : Rule) → put_together rule None None ≡ None
none_of_none Both = refl
none_of_none Kept = refl
none_of_none Without = refl
none_of_none Plus = refl
none_of_none Either = refl
none_of_none Greatest = refl
none_of_none Counted = refl
none_of_none (AtLeast n) = refl

paired_append : (f : Option ℕ → Option ℕ → Option ℕ) (one : Object → Option ℕ) (other : Object → Option ℕ) (objects : List Object) (us vs : Scores)
    → paired f (map one objects ++ us) (map other objects ++ vs) ≡ map (λ o. f (one o) (other o)) objects ++ paired f us vs
paired_append f one other [] us vs = refl
paired_append f one other (o ∷ objects) us vs = ap (λ (l : Scores). f (one o) (other o) ∷ l) (paired_append f one other objects us vs)

map_same : {B : Type 0} (f g : Object → B) → ((o : Object) → f o ≡ g o) → (objects : List Object) → map f objects ≡ map g objects
map_same f g same [] = refl
map_same {B} f g same (o ∷ objects) = ap (λ (y : B). y ∷ map f objects) (same o) ∙ ap (λ (l : List B). g o ∷ l) (map_same f g same objects)

pair_one : (rule : Rule) (live here : Bool) (x y : Option ℕ) → put_together rule (cond live (cond here x None) None) (cond live (cond here y None) None) ≡ cond live (cond here (put_together rule x y) None) None
pair_one rule true true x y = refl
pair_one rule true false x y = none_of_none rule
pair_one rule false here x y = none_of_none rule

module _ (m : Mapping) (n : ℕ) where
  pub seen_paired : (rule : Rule) (one other : Object → Option ℕ) (trees : Trees)
      → paired (put_together rule) (seen m (at_scope n one) trees) (seen m (at_scope n other) trees) ≡ seen m (at_scope n (λ o. put_together rule (one o) (other o))) trees
  seen_paired rule one other [] = refl
  seen_paired rule one other (t ∷ trees) =
      paired_append (put_together rule) (if_live (at_scope n one) t.live) (if_live (at_scope n other) t.live) (block_objects m t.item) (seen m (at_scope n one) trees) (seen m (at_scope n other) trees)
      ∙ ap (λ (l : Scores). l ++ paired (put_together rule) (seen m (at_scope n one) trees) (seen m (at_scope n other) trees))
      (map_same (λ o. put_together rule (if_live (at_scope n one) t.live o) (if_live (at_scope n other) t.live o)) (if_live (at_scope n (λ o. put_together rule (one o) (other o))) t.live)
      (λ o. pair_one rule t.live (scope o == n) (one o) (other o)) (block_objects m t.item))
      ∙ ap (λ (l : Scores). map (if_live (at_scope n (λ o. put_together rule (one o) (other o))) t.live) (block_objects m t.item) ++ l) (seen_paired rule one other trees)

  -- ---- what objects of the scope are given

  same_one : (live : Bool) (f g : Object → Option ℕ) → ((o : Object) → scope o ≡ n → f o ≡ g o) → (o : Object) → if_live (at_scope n f) live o ≡ if_live (at_scope n g) live o
  same_one false f g same o = refl
  same_one true f g same o =
      by_test (scope o == n) (λ here. ap (λ (x : Option ℕ). cond (scope o == n) x None) (same o (eqb-true (scope o) n here))) (λ other. rw other refl)

  pub seen_same : (f g : Object → Option ℕ) → ((o : Object) → scope o ≡ n → f o ≡ g o) → (trees : Trees) → seen m (at_scope n f) trees ≡ seen m (at_scope n g) trees
  seen_same f g same [] = refl
  seen_same f g same (t ∷ trees) =
      ap (λ (l : Scores). l ++ seen m (at_scope n f) trees) (map_same (if_live (at_scope n f) t.live) (if_live (at_scope n g) t.live) (same_one t.live f g same) (block_objects m t.item))
      ∙ ap (λ (l : Scores). map (if_live (at_scope n g) t.live) (block_objects m t.item) ++ l) (seen_same f g same trees)

  -- ---- leaves

  filled_append : (score : ℕ) (flag : Object → Bool) (objects : List Object) (flags : List Bool) → filled (Some score) (map flag objects ++ flags) ≡ map (λ o. cond (flag o) (Some score) None) objects ++ filled (Some score) flags
  filled_append score flag [] flags = refl
  filled_append score flag (o ∷ objects) flags = ap (λ (l : Scores). cond (flag o) (Some score) None ∷ l) (filled_append score flag objects flags)

  leaf_one : (score : ℕ) (live here holds : Bool) → cond (live && (here && holds)) (Some score) None ≡ cond live (cond here (cond holds (Some score) None) None) None
  leaf_one score true true true = refl
  leaf_one score true true false = refl
  leaf_one score true false holds = refl
  leaf_one score false here holds = refl

  pub seen_leaf : (l : Leaf) (score : ℕ) (trees : Trees) → filled (Some score) (by_document m (found n (leaf_holds m l)) trees) ≡ seen m (at_scope n (leaf_score m l score)) trees
  seen_leaf l score [] = refl
  seen_leaf l score (t ∷ trees) =
      filled_append score (found n (leaf_holds m l) t.live) (block_objects m t.item) (by_document m (found n (leaf_holds m l)) trees)
      ∙ ap (λ (s : Scores). s ++ filled (Some score) (by_document m (found n (leaf_holds m l)) trees))
      (map_same (λ o. cond (found n (leaf_holds m l) t.live o) (Some score) None) (if_live (at_scope n (leaf_score m l score)) t.live)
      (λ o. leaf_one score t.live (scope o == n) (leaf_holds m l o)) (block_objects m t.item))
      ∙ ap (λ (s : Scores). map (if_live (at_scope n (leaf_score m l score)) t.live) (block_objects m t.item) ++ s) (seen_leaf l score trees)

pub length_filled : (score : Option ℕ) (flags : List Bool) → length (filled score flags) ≡ length flags
length_filled score [] = refl
length_filled score (flag ∷ flags) = ap suc (length_filled score flags)

-- the same said of a view
pub seen_alike : (m : Mapping) (view : List EntryState) (n : ℕ) (f g : List Tree → Object → Option ℕ) (scores : List Scores) → ((live : List Tree) (o : Object) → scope o ≡ n → f live o ≡ g live o) → IsSeen m view n f scores → IsSeen m view n g scores
seen_alike m view n f g scores same is = record {
  long = is.long;
  are = λ trees stands. is.are trees stands ∙ each (live_trees trees) trees;
}
  where
    each : (live : List Tree) (trees : List Trees) → map (λ (own : Trees). seen m (at_scope n (f live)) own) trees ≡ map (λ (own : Trees). seen m (at_scope n (g live)) own) trees
    each live [] = refl
    each live (own ∷ trees) =
        ap (λ (s : Scores). s ∷ map (λ (own : Trees). seen m (at_scope n (f live)) own) trees) (seen_same m n (f live) (g live) (same live) own)
        ∙ ap (λ (l : List Scores). seen m (at_scope n (g live)) own ∷ l) (each live trees)

-- ---- where nothing is given

quiet_one : (live here : Bool) (x y : Option ℕ) → (x ≡ None → y ≡ None) → is_none (cond live (cond here x None) None) ≡ true → cond live (cond here x None) None ≡ cond live (cond here y None) None
quiet_one true true None y silent none = sym (silent refl)
quiet_one true true (Some s) y silent none = absurd (let no : ⊥ = cc in no)
quiet_one true false x y silent none = refl
quiet_one false here x y silent none = refl

module _ (m : Mapping) (n : ℕ) (f g : Object → Option ℕ) (silent : (o : Object) → f o ≡ None → g o ≡ None) where
  quiet_block : (live : Bool) (objects : List Object) (rest more : Scores) → (have_none rest ≡ true → rest ≡ more) → have_none (map (if_live (at_scope n f) live) objects ++ rest) ≡ true
      → map (if_live (at_scope n f) live) objects ++ rest ≡ map (if_live (at_scope n g) live) objects ++ more
  quiet_block live [] rest more same none = same none
  quiet_block live (o ∷ objects) rest more same none =
      let parts = and_parts (is_none (if_live (at_scope n f) live o)) (have_none (map (if_live (at_scope n f) live) objects ++ rest)) none in
      ap (λ (x : Option ℕ). x ∷ (map (if_live (at_scope n f) live) objects ++ rest)) (quiet_one live (scope o == n) (f o) (g o) (silent o) parts.0)
      ∙ ap (λ (l : Scores). if_live (at_scope n g) live o ∷ l) (quiet_block live objects rest more same parts.1)

  seen_quiet : (trees : Trees) → have_none (seen m (at_scope n f) trees) ≡ true → seen m (at_scope n f) trees ≡ seen m (at_scope n g) trees
  seen_quiet [] none = refl
  seen_quiet (t ∷ trees) none = quiet_block t.live (block_objects m t.item) (seen m (at_scope n f) trees) (seen m (at_scope n g) trees) (seen_quiet trees) none

-- no document has a score, so none is given one by what gives none where this gives none
pub seen_nothing : (m : Mapping) (view : List EntryState) (n : ℕ) (f g : List Tree → Object → Option ℕ) (scores : List Scores) → ((live : List Tree) (o : Object) → f live o ≡ None → g live o ≡ None)
    → list_all have_none scores ≡ true → IsSeen m view n f scores → IsSeen m view n g scores
seen_nothing m view n f g scores silent none is = record {
  long = is.long;
  are = λ trees stands. is.are trees stands ∙ each (live_trees trees) trees (subst (λ (all : List Scores). list_all have_none all ≡ true) (is.are trees stands) none);
}
  where
    each : (live : List Tree) (trees : List Trees) → list_all have_none (map (λ (own : Trees). seen m (at_scope n (f live)) own) trees) ≡ true
        → map (λ (own : Trees). seen m (at_scope n (f live)) own) trees ≡ map (λ (own : Trees). seen m (at_scope n (g live)) own) trees
    each live [] none = refl
    each live (own ∷ trees) none =
        let parts = and_parts (have_none (seen m (at_scope n (f live)) own)) (list_all have_none (map (λ (own : Trees). seen m (at_scope n (f live)) own) trees)) none in
        ap (λ (s : Scores). s ∷ map (λ (own : Trees). seen m (at_scope n (f live)) own) trees) (seen_quiet m n (f live) (g live) (silent live) own parts.0)
        ∙ ap (λ (l : List Scores). seen m (at_scope n (g live)) own ∷ l) (each live trees parts.1)

-- ---- a leaf of one entry

module _ (m : Mapping) (e : EntryState) (columns : Columns) (bits : LiveState) (n : ℕ) (l : Leaf) (score : ℕ) (set : List Bool) (own : columns ≡ e.columns) (live : bits ≡ e.live) (finds : Finds m columns bits n l set) where
  pub leaf_long : length (filled (Some score) set) ≡ e.columns.documents
  leaf_long = length_filled (Some score) set ∙ finds.long ∙ ap (λ (c : Columns). c.documents) own

  pub leaf_seen : (trees : Trees) → IsLeaf m l → EntryStandsFor m e.columns e.live trees → filled (Some score) set ≡ seen m (at_scope n (leaf_score m l score)) trees
  leaf_seen trees is stands =
      let there : EntryStandsFor m columns bits trees =
      subst (λ (c : Columns). EntryStandsFor m c bits trees) (sym own) (subst (λ (b : LiveState). EntryStandsFor m e.columns b trees) (sym live) stands) in
      ap (filled (Some score)) (finds.found trees there is) ∙ seen_leaf m n l score trees

-- a leaf that is there
pub leaf_known : (l : Option Leaf) → IsSome l → (own : Leaf) × (l ≡ Some own)
leaf_known None is = absurd (let no : ⊥ = cc in no)
leaf_known (Some own) is = (own, refl)
