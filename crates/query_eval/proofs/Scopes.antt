-- The documents of a scope, and joins of blocks over the trees of an entry.
use Rattle.std.proofs.Common.{◌≡◌, ◌≢◌, ℕ, zero, suc, ◌<◌, ◌≤◌, Bool, false, List, [], ◌∷◌, ◌++◌, length, map, get_or, replicate, zip, Option, None, nat_eq, refl, sym, ap, ◌∙◌, arith}
use Rattle.std.specs.List.{range_with_len}
use Rattle.std.specs.Option.{option_to_list}
use Rattle.std.proofs.lemmas.Bool.{ne_eqb}
use Rattle.std.proofs.lemmas.List.{length-map, length-replicate}
use Rattle.std.proofs.lemmas.List.FromFn.{fill_by_all, length-map-range_with_len}
use Rattle.std.proofs.lemmas.Simd.{map-map}
use Rattle.block_bits.specs.Blocks.{documents_of, has_scope}
use Rattle.block_join.specs.Joins.{joined, spread}
use Rattle.flattener.specs.StandsFor.{EntryStandsFor, Marked, by_document, flat_at}
use Rattle.mapping.specs.Mapping.{Mapping}
use Rattle.segment.specs.Flat.{FlatDocument, flat_of, flats_of}
use Rattle.segment.specs.Live.{LiveState}
use Rattle.segment_parts.specs.declared.columns.Columns.{Columns}
use Rattle.tree_joins.specs.Seen.{at_scope, gathered, handed, scope_mark, scopes_of, seen}
use Rattle.tree_objects.specs.Object.{Object, block_objects}
use Rattle.tree_objects.specs.Tree.{Tree}
use Rattle.query_eval.specs.Folds.{scopes_in}

abbrev scope_in : FlatDocument → ℕ
scope_in d = d.scope

pub scopes_long : (c : Columns) → length (scopes_in c) ≡ c.documents
scopes_long c = length-map (flats_of c) scope_in ∙ length-map-range_with_len (flat_of c) 0 c.documents

pub documents_long : (c : Columns) (n : ℕ) → length (documents_of (scopes_in c) n) ≡ c.documents
documents_long c n = length-map (scopes_in c) (has_scope n) ∙ scopes_long c

-- a set that has just the documents of a scope
pub set_is : (c : Columns) (n : ℕ) (flags : List Bool) → length flags ≡ c.documents → ((doc : ℕ) → doc < c.documents → get_or flags doc false ≡ nat_eq (flat_of c doc).scope n) → flags ≡ documents_of (scopes_in c) n
set_is c n flags long each =
    fill_by_all (λ doc. nat_eq (flat_of c doc).scope n) flags c.documents false long each
    ∙ sym (map-map (λ (d : FlatDocument). nat_eq d.scope n) (flat_of c) (range_with_len 0 c.documents))
    ∙ sym (map-map (has_scope n) scope_in (flats_of c))

any_default : {A : Type 0} (xs : List A) (k : ℕ) (d e : A) → k < length xs → get_or xs k d ≡ get_or xs k e
any_default [] k d e below = absurd (omega (arith, below))
any_default (x ∷ xs) zero d e below = refl
any_default (x ∷ xs) (suc k) d e below = any_default xs k d e (omega (arith, below))

-- the set of a scope that is there
pub set_at : (c : Columns) (n : ℕ) (sets : List (List Bool)) (flags made : List Bool) → n < length c.scopes → sets ≡ c.scopes → flags ≡ get_or sets n flags → made ≡ flags → length (get_or c.scopes n []) ≡ c.documents
    → ((doc : ℕ) → doc < c.documents → get_or (get_or c.scopes n []) doc false ≡ nat_eq (flat_of c doc).scope n) → made ≡ documents_of (scopes_in c) n
set_at c n sets flags made below same at is long each =
    is ∙ at ∙ ap (λ (l : List (List Bool)). get_or l n flags) same ∙ any_default c.scopes n flags [] below ∙ set_is c n (get_or c.scopes n []) long each

off_at : (k doc : ℕ) → get_or (replicate k false) doc false ≡ false
off_at zero doc = refl
off_at (suc k) zero = refl
off_at (suc k) (suc doc) = off_at k doc

-- no document is of a scope that isn't there
pub none_is : (c : Columns) (n : ℕ) → length c.scopes ≤ n → ((doc : ℕ) → doc < c.documents → (flat_of c doc).scope < length c.scopes) → replicate c.documents false ≡ documents_of (scopes_in c) n
none_is c n past within =
    set_is c n (replicate c.documents false) (length-replicate c.documents false)
    (λ doc below. off_at c.documents doc ∙ sym (ne_eqb (flat_of c doc).scope n (λ same. omega (arith, same, past, within doc below))))

-- ---- the scopes of trees

scopes_append : (live : Bool) (m : Mapping) (objects : List Object) (flats : List FlatDocument) → map scope_in (map (flat_at m live) objects ++ flats) ≡ map (scope_mark live) objects ++ map scope_in flats
scopes_append live m [] flats = refl
scopes_append live m (o ∷ objects) flats = ap (λ (l : List ℕ). scope_mark live o ∷ l) (scopes_append live m objects flats)

scopes_trees : (m : Mapping) (trees : List (Marked Tree)) → map scope_in (by_document m (flat_at m) trees) ≡ scopes_of m trees
scopes_trees m [] = refl
scopes_trees m (t ∷ trees) =
    scopes_append t.live m (block_objects m t.item) (by_document m (flat_at m) trees)
    ∙ ap (λ (l : List ℕ). map (scope_mark t.live) (block_objects m t.item) ++ l) (scopes_trees m trees)

pub scopes_are : (m : Mapping) (c : Columns) (bits : LiveState) (trees : List (Marked Tree)) → EntryStandsFor m c bits trees → scopes_in c ≡ scopes_of m trees
scopes_are m c bits trees e = ap (map scope_in) e.flats ∙ scopes_trees m trees

-- ---- joins

module _ (m : Mapping) (c : Columns) (bits : LiveState) (trees : List (Marked Tree)) (e : EntryStandsFor m c bits trees) where
  pub up_is : (to from : ℕ) (given : Object → Option ℕ) (mode : List ℕ → Option ℕ) (parents : List Bool) (hits made : List (Option ℕ)) → parents ≡ documents_of (scopes_in c) to → hits ≡ seen m (at_scope from given) trees
      → ((scopes : List ℕ) (n : ℕ) → parents ≡ documents_of scopes n → made ≡ joined mode None n [] (zip scopes (map option_to_list hits)))
      → joined mode None to [] (zip (scopes_of m trees) (map option_to_list (seen m (at_scope from given) trees))) ≡ seen m (at_scope to (gathered m mode from given)) trees
      → made ≡ seen m (at_scope to (gathered m mode from given)) trees
  up_is to from given mode parents hits made set are joins law =
      joins (scopes_in c) to set
      ∙ ap (λ (scopes : List ℕ). joined mode None to [] (zip scopes (map option_to_list hits))) (scopes_are m c bits trees e)
      ∙ ap (λ (scores : List (Option ℕ)). joined mode None to [] (zip (scopes_of m trees) (map option_to_list scores))) are
      ∙ law

  pub down_is : (from to : ℕ) (given : Object → Option ℕ) (parents children : List Bool) (hits made : List (Option ℕ)) → from ≢ to → parents ≡ documents_of (scopes_in c) from → children ≡ documents_of (scopes_in c) to
      → hits ≡ seen m (at_scope from given) trees
      → ((scopes : List ℕ) (above below : ℕ) → above ≢ below → parents ≡ documents_of scopes above → children ≡ documents_of scopes below → made ≡ spread above below (zip scopes hits))
      → spread from to (zip (scopes_of m trees) (seen m (at_scope from given) trees)) ≡ seen m (at_scope to (handed from given)) trees
      → made ≡ seen m (at_scope to (handed from given)) trees
  down_is from to given parents children hits made apart set own are joins law =
      joins (scopes_in c) from to apart set own
      ∙ ap (λ (scopes : List ℕ). spread from to (zip scopes hits)) (scopes_are m c bits trees e)
      ∙ ap (λ (scores : List (Option ℕ)). spread from to (zip (scopes_of m trees) scores)) are
      ∙ law
