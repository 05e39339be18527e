-- The roots of documents.
use Rattle.std.proofs.Common.{◌≡◌, ℕ, zero, suc, ◌+◌, ◌<◌, List as Seq, [], ◌∷◌, length, map, get_or, slice_get, Bool, true, false, Some, nat_eq, not, refl, sym, ap, ◌∙◌, arith}
use Rattle.std.proofs.lemmas.List.FromFn.{length-map-range_with_len}
use Rattle.std.proofs.lemmas.Bool.{ne_eqb}
use Rattle.std.specs.List.{position_or_len, prefix_len}
use Rattle.block_bits.specs.Blocks.{documents_of}
use Rattle.flattener.specs.Block.{root_of_tree}
use Rattle.flattener.specs.StandsFor.{EntryStandsFor, Marked}
use Rattle.mapping.specs.Mapping.{Mapping}
use Rattle.query_eval.specs.Folds.{scopes_in}
use Rattle.query_eval.proofs.Scopes.{set_is}
use Rattle.segment.specs.Flat.{FlatRoot, flat_root}
use Rattle.segment.specs.Live.{IsLiveOver, LiveState, live_docs, root_of}
use Rattle.segment_parts.specs.Parts.{root_flags}
use Rattle.segment_parts.specs.declared.columns.Columns.{Columns}
use Rattle.stored_sources.specs.Roots.{no_root}
use Rattle.tree_joins.specs.Seen.{scopes_of}
use Rattle.tree_objects.specs.Object.{tree_of}
use Rattle.tree_objects.specs.Tree.{Tree}
use Rattle.view_objects.specs.Hits.{IsInTree, document_object}
use Rattle.inner_hits.specs.Roots.{IsRootOf}
use Rattle.inner_hits.proofs.Paging.{by_test}

-- ---- the documents of roots are those of scope 0

first_is : {A : Type 0} (test : A → Bool) (x : A) (xs : Seq A) → test x ≡ nat_eq (position_or_len test (x ∷ xs)) 0
first_is test x xs = by_test (test x) (λ yes. rw yes refl) (λ no. rw no (later (prefix_len (λ y. not (test y)) xs)))
  where
    later : (n : ℕ) → false ≡ nat_eq (1 + n) 0
    later n = sym (ne_eqb (1 + n) 0 (λ same. omega (arith, same)))

flags_long : (c : Columns) (live : LiveState) → IsLiveOver c live → length (root_flags c.scopes) ≡ c.documents
unfolding live_docs
flags_long c live over =
    sym (length-map-range_with_len (λ doc. get_or live.roots (root_of (root_flags c.scopes) doc) true) 0 (length (root_flags c.scopes)))
    ∙ ap length (sym over.docs)
    ∙ over.documents

pub root_flags_are : (c : Columns) (live : LiveState) → IsLiveOver c live → root_flags c.scopes ≡ documents_of (scopes_in c) 0
root_flags_are c live over = set_is c 0 (root_flags c.scopes) (flags_long c live over) (λ doc low. each c.scopes doc low (flags_long c live over))
  where
    each : (sets : Seq (Seq Bool)) (doc : ℕ) → doc < c.documents → length (root_flags sets) ≡ c.documents → get_or (root_flags sets) doc false ≡ nat_eq (position_or_len (λ set. get_or set doc false) sets) 0
    each [] doc low long = absurd (let none : 0 ≡ c.documents = long in omega (arith, low, none))
    each (set ∷ sets) doc low long = first_is (λ s. get_or s doc false) set sets

-- ---- what is kept of a root

read_map : {A B : Type 0} (f : A → B) (xs : Seq A) (k : ℕ) (d : A) → f (get_or xs k d) ≡ get_or (map f xs) k (f d)
read_map f [] k d = refl
read_map f (x ∷ xs) zero d = refl
read_map f (x ∷ xs) (suc k) d = read_map f xs k d

read_some : {A B : Type 0} (f : A → B) (xs : Seq A) (k : ℕ) (x : A) (e : B) → slice_get xs k ≡ Some x → get_or (map f xs) k e ≡ f x
read_some f [] k x e is = absurd (let no : ⊥ = cc in no)
read_some f (y ∷ xs) zero x e is = let same : y ≡ x = cc in ap f same
read_some f (y ∷ xs) (suc k) x e is = read_some f xs k x e is

pub root_is : (m : Mapping) (c : Columns) (bits : LiveState) (trees : Seq (Marked Tree)) (doc root : ℕ) → EntryStandsFor m c bits trees → root ≡ root_of (root_flags c.scopes) doc → root_flags c.scopes ≡ documents_of (scopes_of m trees) 0
    → IsInTree m trees doc → IsRootOf m c bits trees doc root
root_is m c bits trees doc root e is flags in_tree =
    let here : slice_get trees root ≡ Some in_tree.marked = ap (λ k. slice_get trees k) (is ∙ ap (λ f. root_of f doc) flags) ∙ in_tree.at in
    let live : get_or bits.docs doc false ≡ in_tree.marked.live = ap (λ (l : Seq Bool). get_or l doc false) e.live ∙ in_tree.live in
    record {
      kept =
          read_map flat_root c.roots root no_root
          ∙ ap (λ (l : Seq FlatRoot). get_or l root (flat_root no_root)) e.roots
          ∙ read_some (λ (t : Marked Tree). root_of_tree m t.item) trees root in_tree.marked (flat_root no_root) here
          ∙ ap (root_of_tree m) (sym in_tree.tree);
      tree =
          here
          ∙ ap (λ (t : Tree). Some (record { item = t; live = in_tree.marked.live })) (sym in_tree.tree)
          ∙ ap (λ (b : Bool). Some (record { item = tree_of (document_object m trees doc); live = b })) (sym live);
    }
