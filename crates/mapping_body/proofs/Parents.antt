-- The parent of a name, found among the first pairs of each child.
use Rattle.std.proofs.Common.{◌≡◌, ℕ, suc, ◌+◌, ◌-◌, ◌≤◌, List, [], ◌∷◌, ◌++◌, map, get_or, append-nil, append_assoc, refl, sym, ap, ◌∙◌, subst, arith, false, cond, Option, Some, None, option_map, Bool, ◌||◌, Less, Greater, bytes_eq}
use Rattle.std.proofs.lemmas.List.Folds.{find-append}
use Rattle.std.proofs.lemmas.Slice.Eq.{bytes_eq-Decides}
use Rattle.std.specs.Option.{option_or}
use Rattle.std.specs.List.{find, position_from, list_any}
use Rattle.std.specs.List.Sorted.{IsStrictlySortedBy}
use Rattle.mapping_body.specs.declared.pair.Pair.{Pair as Lent}
use Rattle.mapping_body.specs.Names.{AreAscending, in_byte_order, put, put_all}
use Rattle.mapping_body.specs.Pairs.{Pair, parent_among, is_other}
use Rattle.mapping_body.specs.Kept.{pair_of}
use Rattle.mapping_body.proofs.Firsts.{first-put_all}
use Rattle.mapping_body.proofs.Puts.{ascending_none, map-put_all}
use Rattle.mapping_body.proofs.Walks.{split}

abbrev child : Pair → List ℕ
child p = p.child

pub parent_of_firsts : (ps firsts : List Lent) (name : List ℕ) → firsts ≡ in_byte_order (λ p. p.child.now) ps → parent_among (map pair_of firsts) name ≡ parent_among (map pair_of ps) name
parent_of_firsts ps firsts name e =
    ap (λ (qs : List Lent). parent_among (map pair_of qs) name) e
    ∙ ap (λ (qs : List Pair). parent_among qs name) (map-put_all pair_of child [] ps)
    ∙ ap (option_map (λ (p : Pair). p.parent)) (first-put_all child name [] (map pair_of ps) (ascending_none child [] refl))

-- ---- by its place

position_bound : (names : List (List ℕ)) (n : List ℕ) (at i : ℕ) → position_from (λ other. bytes_eq other n) at names ≡ Some i → at ≤ i
position_bound [] n at i e = cc
position_bound (x ∷ names) n at i e =
    split (bytes_eq x n)
    (λ same. let here : Some at ≡ Some i = rw same at e in let one : at ≡ i = cc in omega arith)
    (λ other. let more = position_bound names n (at + 1) i (rw other at e) in omega (arith, more))

pub parent_found : (ps : List Lent) (name : List ℕ) (at i : ℕ) (d : Lent) → position_from (λ other. bytes_eq other name) at (map (λ p. p.child.now) ps) ≡ Some i
    → Some (get_or ps (i - at) d).parent.now ≡ parent_among (map pair_of ps) name
parent_found [] name at i d e = cc
parent_found (p ∷ ps) name at i d e =
    split (bytes_eq p.child.now name)
    (λ same.
    let here : Some at ≡ Some i = rw same at e in
    let one : at ≡ i = cc in
    let zeroth : i - at ≡ 0 = omega arith in
    rw (zeroth, same) refl)
    (λ other.
    let on : position_from (λ other. bytes_eq other name) (at + 1) (map (λ p. p.child.now) ps) ≡ Some i = rw other at e in
    let later : at + 1 ≤ i = position_bound (map (λ p. p.child.now) ps) name (at + 1) i on in
    let step : i - at ≡ suc (i - (at + 1)) = omega arith in
    rw (step, other) (parent_found ps name (at + 1) i d on))

pub parent_missing : (ps : List Lent) (name : List ℕ) (at : ℕ) → position_from (λ other. bytes_eq other name) at (map (λ p. p.child.now) ps) ≡ None → None ≡ parent_among (map pair_of ps) name
parent_missing [] name at e = refl
parent_missing (p ∷ ps) name at e =
    split (bytes_eq p.child.now name)
    (λ same. let here : Some at ≡ None = rw same at e in cc)
    (λ other. rw other (parent_missing ps name (at + 1) (rw other at e)))

-- ---- what the first pairs say is what all say

pub others_of_firsts : (all firsts ps : List Lent) → firsts ≡ in_byte_order (λ p. p.child.now) all
    → list_any (λ p. is_other (parent_among (map pair_of firsts) p.child.now) p.parent.now) ps ≡ list_any (λ p. is_other (parent_among (map pair_of all) p.child) p.parent) (map pair_of ps)
others_of_firsts all firsts [] e = refl
others_of_firsts all firsts (p ∷ ps) e =
    rw (parent_of_firsts all firsts p.child.now e) (ap (λ (rest : Bool). is_other (parent_among (map pair_of all) p.child.now) p.parent.now || rest) (others_of_firsts all firsts ps e))
