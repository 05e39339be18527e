-- The documents of a scope.
use Rattle.std.specs.Prelude.{◌≡◌, ℕ, zero, suc, ◌+◌, ◌<◌, ◌≤◌, ◌==◌, Bool, false, cond, List, [], ◌∷◌, length, map, get_or, take, Some, None, nat_eq, refl}
use Rattle.std.specs.Option.{option_or}
use Rattle.std.proofs.Common.{arith, ap, sym, ◌∙◌}
use Rattle.std.proofs.lemmas.Bool.{ne_eqb}
use Rattle.std.proofs.lemmas.List.{length-map, take-map}
use Rattle.std.proofs.lemmas.List.FromFn.{fill_by_all, length-map-range_with_len}
use Rattle.std.proofs.lemmas.Simd.{map-map}
use Rattle.std.specs.List.{range_with_len}
use Rattle.block_bits.specs.Blocks.{documents_of, has_scope}
use Rattle.block_bits.specs.Flags.{is_marked}
use Rattle.block_bits.specs.Places.{last_place, previous_place}
use Rattle.query_eval.specs.Folds.{scopes_in}
use Rattle.segment.specs.Flat.{FlatDocument, flat_of, flats_of}
use Rattle.segment_parts.specs.declared.columns.Columns.{Columns}

abbrev scope_in : FlatDocument → ℕ
scope_in d = d.scope

pub scopes_long : (c : Columns) → length (scopes_in c) ≡ c.documents
scopes_long c = length-map (flats_of c) scope_in ∙ length-map-range_with_len (flat_of c) 0 c.documents

pub documents_long : (c : Columns) (n : ℕ) → length (documents_of (scopes_in c) n) ≡ c.documents
documents_long c n = length-map (scopes_in c) (has_scope n) ∙ scopes_long c

-- a set that has just the documents of a scope
pub set_is : (c : Columns) (n : ℕ) (flags : List Bool) → length flags ≡ c.documents → ((doc : ℕ) → doc < c.documents → get_or flags doc false ≡ nat_eq (flat_of c doc).scope n) → flags ≡ documents_of (scopes_in c) n
set_is c n flags long each =
    fill_by_all (λ doc. nat_eq (flat_of c doc).scope n) flags c.documents false long each
    ∙ sym (map-map (λ (d : FlatDocument). nat_eq d.scope n) (flat_of c) (range_with_len 0 c.documents))
    ∙ sym (map-map (has_scope n) scope_in (flats_of c))

any_default : {A : Type 0} (xs : List A) (k : ℕ) (d e : A) → k < length xs → get_or xs k d ≡ get_or xs k e
any_default [] k d e below = absurd (omega (arith, below))
any_default (x ∷ xs) zero d e below = refl
any_default (x ∷ xs) (suc k) d e below = any_default xs k d e (omega (arith, below))

-- the set of a scope that is there
pub set_at : (c : Columns) (n : ℕ) (sets : List (List Bool)) (flags : List Bool) → n < length c.scopes → sets ≡ c.scopes → flags ≡ get_or sets n flags → length (get_or c.scopes n []) ≡ c.documents
    → ((doc : ℕ) → doc < c.documents → get_or (get_or c.scopes n []) doc false ≡ nat_eq (flat_of c doc).scope n) → flags ≡ documents_of (scopes_in c) n
set_at c n sets flags below same at long each =
    at ∙ ap (λ (l : List (List Bool)). get_or l n flags) same ∙ any_default c.scopes n flags [] below ∙ set_is c n (get_or c.scopes n []) long each

-- no document is of a scope that isn't there
pub none_is : (c : Columns) (n : ℕ) → length c.scopes ≤ n → ((doc : ℕ) → doc < c.documents → (flat_of c doc).scope < length c.scopes) → (doc : ℕ) → get_or (documents_of (scopes_in c) n) doc false ≡ false
none_is c n past within doc =
    ap (λ flags. get_or flags doc false)
    (map-map (has_scope n) scope_in (flats_of c) ∙ map-map (λ (d : FlatDocument). nat_eq d.scope n) (flat_of c) (range_with_len 0 c.documents))
    ∙ by 0 c.documents doc (λ k low. within k (omega arith))
  where
    by : (start count doc : ℕ) → ((k : ℕ) → k < start + count → (flat_of c k).scope < length c.scopes) → get_or (map (λ k. nat_eq (flat_of c k).scope n) (range_with_len start count)) doc false ≡ false
    by start zero doc each = refl
    by start (suc count) zero each = ne_eqb (flat_of c start).scope n (λ same. omega (arith, same, past, each start (omega arith)))
    by start (suc count) (suc doc) each = by (start + 1) count doc (λ k low. each k (omega arith))

-- ---- where it begins

place_of_flags : (n k : ℕ) (scopes : List ℕ) → last_place is_marked k (map (has_scope n) scopes) ≡ last_place (has_scope n) k scopes
place_of_flags n k [] = refl
place_of_flags n k (s ∷ scopes) = ap (λ found. option_or found (cond (s == n) (Some k) None)) (place_of_flags n (k + 1) scopes)

pub previous_of_flags : (n doc : ℕ) (scopes : List ℕ) → previous_place is_marked doc (documents_of scopes n) ≡ previous_place (has_scope n) doc scopes
previous_of_flags n doc scopes = ap (last_place is_marked 0) (take-map (has_scope n) doc scopes) ∙ place_of_flags n 0 (take doc scopes)

pub no_previous : (n : ℕ) (scopes : List ℕ) → ((doc : ℕ) → get_or (documents_of scopes n) doc false ≡ false) → (doc : ℕ) → previous_place (has_scope n) doc scopes ≡ None
no_previous n scopes none doc = by 0 doc scopes none
  where
    by : (k j : ℕ) (ss : List ℕ) → ((doc : ℕ) → get_or (documents_of ss n) doc false ≡ false) → last_place (has_scope n) k (take j ss) ≡ None
    by k zero ss each = refl
    by k (suc j) [] each = refl
    by k (suc j) (s ∷ ss) each = let no : (s == n) ≡ false = each 0 in rw (by (k + 1) j ss (λ doc. each (suc doc)), no) refl

pub ruleset starts = (previous_of_flags, no_previous)
