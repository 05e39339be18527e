-- The field that stands at a path has that path, and the scope that does is one of the mapping.
use Rattle.std.proofs.Common.{◌≡◌, ℕ, zero, suc, ◌+◌, ◌-◌, ◌<◌, ◌≤◌, List as Seq, [], ◌∷◌, map, length, get_or, refl, sym, ◌∙◌, arith, Option, Some, None, IfSome, bytes_eq}
use Rattle.std.proofs.lemmas.List.{get_or-map, length-map}
use Rattle.std.proofs.lemmas.Slice.Eq.{bytes_eq-Decides}
use Rattle.std.specs.List.{position_from}
use Rattle.mapping.specs.Mapping.{Mapping, Field, no_field, field_at, field_named, scope_named}
use Rattle.mapping_body.proofs.Walks.{split}

-- what is found at a place has the name that was looked for
placed : (n : Seq ℕ) (names : Seq (Seq ℕ)) (at i : ℕ) → position_from (λ other. bytes_eq other n) at names ≡ Some i
    → (at ≤ i) × (i - at < length names) × (get_or names (i - at) [] ≡ n)
placed n [] at i e = cc
placed n (x ∷ names) at i e =
    split (bytes_eq x n)
    (λ same.
    let here : Some at ≡ Some i = rw same at e in
    let is : at ≡ i = cc in
    let first : i - at ≡ zero = omega arith in
    (omega arith, omega arith, rw first ((bytes_eq-Decides x n).0 same)))
    (λ other.
    let rest = placed n names (at + 1) i (rw other at e) in
    let step : i - at ≡ suc (i - (at + 1)) = omega (arith, rest.0) in
    (omega (arith, rest.0), omega (arith, rest.1, step), rw step rest.2))

path_found : (fs : Seq Field) (path : Seq ℕ) (i : ℕ) → position_from (λ other. bytes_eq other path) 0 (map (λ f. f.path) fs) ≡ Some i
    → (get_or fs i no_field).path ≡ path
path_found fs path i e =
    let found = placed path (map (λ f. f.path) fs) 0 i e in
    let whole : i - 0 ≡ i = omega arith in
    let within : i < length fs = omega (arith, found.1, length-map fs (λ f. f.path)) in
    sym (get_or-map (λ f. f.path) fs i no_field [] within) ∙ rw whole at found.2

if_some : {A : Type 0} (o : Option A) (P : A → Type 0) → ((x : A) → o ≡ Some x → P x) → IfSome o P
if_some None P all = tt
if_some (Some x) P all = all x refl

pub path_named : (m : Mapping) (path : Seq ℕ) → IfSome (field_named m path) (λ f. (field_at m f).path ≡ path)
path_named m path = if_some (field_named m path) (λ f. (field_at m f).path ≡ path) (λ i e. path_found m.fields path i e)

pub scope_within : (m : Mapping) (path : Seq ℕ) → IfSome (scope_named m path) (λ s. s < length m.scopes)
scope_within m path =
    if_some (scope_named m path) (λ s. s < length m.scopes) (λ i e.
    let found = placed path (map (λ s. s.path) m.scopes) 0 i e in
    omega (arith, found.1, length-map m.scopes (λ s. s.path)))
