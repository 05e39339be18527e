-- The first property that says otherwise than what is kept.
use Rattle.std.proofs.Common.{◌≡◌, ℕ, zero, suc, ◌+◌, ◌-◌, ◌<◌, ◌≤◌, List as Seq, [], ◌∷◌, map, length, get_or, refl, sym, ap, ◌∙◌, subst, arith, Bool, true, false, ◌||◌, if◌then◌else◌, Option, Some, None, IfSome, option_map, option_and_then, slice_get, bytes_eq}
use Rattle.std.proofs.lemmas.Bool.{false≢true}
use Rattle.std.proofs.lemmas.List.{get_or-map, length-map}
use Rattle.std.proofs.lemmas.Slice.Eq.{bytes_eq-Decides}
use Rattle.std.specs.List.{find, position_from}
use Rattle.mapping_growth.specs.declared.property.Outline.{Outline}
use Rattle.mapping_growth.specs.Bodies.{draft_named, is_otherwise}
use Rattle.mapping_body.specs.Body.{Property}
use Rattle.mapping_growth.specs.Fields.{Draft, draft_paths}
use Rattle.mapping_growth.specs.Judged.{AreKept, otherwise_at}
use Rattle.mapping_body.specs.Names.{place_of}
use Rattle.mapping_body.specs.Order.{name_at}
use Rattle.mapping_growth.specs.Outline.{Outlined, outline_of, outlined}
use Rattle.mapping_growth.specs.Relations.{Relation}
use Rattle.mapping_body.proofs.Walks.{split}

-- what is found at a place has the name that was looked for
placed : (n : Seq ℕ) (names : Seq (Seq ℕ)) (at i : ℕ) → position_from (λ other. bytes_eq other n) at names ≡ Some i
    → (at ≤ i) × (i - at < length names) × (name_at names (i - at) ≡ n)
placed n [] at i e = cc
placed n (x ∷ names) at i e =
    split (bytes_eq x n)
    (λ same.
    let here : Some at ≡ Some i = rw same at e in
    let is : at ≡ i = cc in
    let first : i - at ≡ zero = omega arith in
    (omega arith, omega arith, rw first ((bytes_eq-Decides x n).0 same)))
    (λ other.
    let rest = placed n names (at + 1) i (rw other at e) in
    let step : i - at ≡ suc (i - (at + 1)) = omega (arith, rest.0) in
    (omega (arith, rest.0), omega (arith, rest.1, step), rw step rest.2))

pub placed_at : (n : Seq ℕ) (names : Seq (Seq ℕ)) (i : ℕ) → place_of n names ≡ Some i → (i < length names) × (name_at names i ≡ n)
placed_at n names i e =
    let found = placed n names 0 i e in
    let whole : i - 0 ≡ i = omega arith in
    (omega (arith, found.1), rw whole at found.2)

if_some : {A : Type 0} (o : Option A) (P : A → Type 0) → ((x : A) → o ≡ Some x → P x) → IfSome o P
if_some None P all = tt
if_some (Some x) P all = all x refl

pub from_some : {A : Type 0} (o : Option A) (P : A → Type 0) (x : A) → o ≡ Some x → IfSome o P → P x
from_some {A} o P x e holds = subst (λ (p : Option A). IfSome p P) e holds

pub outlined_kept : (ds : Seq Draft) (ps : Seq Property) → AreKept ds (map (outlined (draft_paths ds)) ps)
outlined_kept ds ps k d h =
    let inside : k < length ps = omega (arith, length-map ps (outlined (draft_paths ds)), h) in
    let p : Property = get_or ps k (record { path = []; form = d.form }) in
    let at : get_or (map (outlined (draft_paths ds)) ps) k d ≡ outlined (draft_paths ds) p = get_or-map (outlined (draft_paths ds)) ps k (record { path = []; form = d.form }) d inside in
    rw at (if_some (place_of p.path (draft_paths ds)) (λ n. n < length ds) (λ n e. omega (arith, (placed_at p.path (draft_paths ds) n e).0, length-map ds (λ q. q.path))))

pub kept_at : (ds : Seq Draft) (os : Seq Outline) (i : ℕ) (o : Outline) (f : ℕ) → AreKept ds (map outline_of os) → i < length os → o ≡ get_or os i o → o.kept ≡ Some f → f < length ds
kept_at ds os i o f kept h is same =
    let at : get_or (map outline_of os) i (outline_of o) ≡ outline_of o = get_or-map outline_of os i o (outline_of o) h ∙ ap outline_of (sym is) in
    let holds : IfSome (outline_of o).kept (λ n. n < length ds) =
    subst (λ (x : Outlined). IfSome x.kept (λ n. n < length ds)) at (kept i (outline_of o) (omega (arith, length-map os outline_of))) in
    from_some o.kept (λ n. n < length ds) f same holds

-- ---- the first

abbrev path_at : Seq Draft → ℕ → Seq ℕ
path_at ds n = name_at (draft_paths ds) n

found_here : (rs : Seq Relation) (ds : Seq Draft) (p : Property) (o : Option ℕ) → place_of p.path (draft_paths ds) ≡ o → is_otherwise rs p.form (option_and_then (slice_get ds) o) ≡ true → option_map (path_at ds) o ≡ Some p.path
found_here rs ds p None at h = absurd (false≢true h)
found_here rs ds p (Some n) at h = ap Some (placed_at p.path (draft_paths ds) n at).1

pub conflict_found : (rs : Seq Relation) (ds : Seq Draft) (ps : Seq Property)
    → option_map (path_at ds) (otherwise_at rs ds (map (outlined (draft_paths ds)) ps)) ≡ option_map (λ p. p.path) (find (λ p. is_otherwise rs p.form (draft_named ds p.path)) ps)
conflict_found rs ds [] = refl
conflict_found rs ds (p ∷ ps) =
    split (is_otherwise rs p.form (draft_named ds p.path))
    (λ held. rw held (found_here rs ds p (place_of p.path (draft_paths ds)) refl held))
    (λ failed. rw failed (conflict_found rs ds ps))
