-- What is gone through by descending place, and what is so of all that moves.
use Rattle.std.proofs.Common.{◌≡◌, ℕ, zero, suc, ◌<◌, cond, nat_lt, Bool, true, false, List, [], ◌∷◌, Option, None, Some, refl, ◌∙◌, ap, subst, arith}
use Rattle.std.specs.List.{AllByRecursion}
use Rattle.std.proofs.lemmas.Bool.{ltb-true}
use Rattle.std.proofs.lemmas.Option.{none-some}
use Rattle.extent_pool.specs.Placing.{NamedExtent, and_then, better, last_before, last_ones, later_of, moved, moved_to, place_of, with_taken}
use Rattle.extent_pool.specs.declared.extent.Extent.{Extent}
use Rattle.store_compact.proofs.Candidates.{some_once}

abbrev IsLower : (NamedExtent → Type 0) → ℕ → NamedExtent → Type 0
IsLower P place it = P it × (it.extent.at < place)

first_lower : (P : NamedExtent → Type 0) (place : ℕ) (first it : NamedExtent) (b : Bool) (rest : Option NamedExtent) → nat_lt first.extent.at place ≡ b → P first
    → (rest ≡ Some it → IsLower P place it) → cond b (Some first) rest ≡ Some it → IsLower P place it
first_lower P place first it true rest less one other same = subst (IsLower P place) (some_once first it same) (one, ltb-true first.extent.at place less)
first_lower P place first it false rest less one other same = other same

later_lower : (P : NamedExtent → Type 0) (place : ℕ) (first best it : NamedExtent) (b c : Bool) → nat_lt first.extent.at place ≡ b → P first → IsLower P place best
    → cond b (cond c (Some first) (Some best)) (Some best) ≡ Some it → IsLower P place it
later_lower P place first best it true true less one other same = subst (IsLower P place) (some_once first it same) (one, ltb-true first.extent.at place less)
later_lower P place first best it true false less one other same = subst (IsLower P place) (some_once best it same) other
later_lower P place first best it false c less one other same = subst (IsLower P place) (some_once best it same) other

-- the last one before a place is one of them, and before it
pub last_lower : (P : NamedExtent → Type 0) (place : ℕ) (named : List NamedExtent) (it : NamedExtent) → AllByRecursion P named → last_before place named ≡ Some it → IsLower P place it
last_lower P place [] it all same = absurd (none-some it same)
last_lower P place (first ∷ named) it all same = by_best (last_before place named) refl (λ best found. last_lower P place named best all.1 found) same
  where
    by_best : (best : Option NamedExtent) → last_before place named ≡ best → ((own : NamedExtent) → last_before place named ≡ Some own → IsLower P place own)
        → later_of place first best ≡ Some it → IsLower P place it
    by_best None none rest is = first_lower P place first it (nat_lt first.extent.at place) None refl all.0 (λ not. absurd (none-some it not)) is
    by_best (Some best) found rest is =
        later_lower P place first best it (nat_lt first.extent.at place) (nat_lt best.extent.at first.extent.at) refl all.0 (rest best found) is

lower_all : (P : NamedExtent → Type 0) (less more : ℕ) (named : List NamedExtent) → less < more → AllByRecursion (IsLower P less) named → AllByRecursion (IsLower P more) named
lower_all P less more [] before all = tt
lower_all P less more (it ∷ named) before all = ((all.0.0, omega (arith, all.0.1, before)), lower_all P less more named before all.1)

pub ones_lower : (P : NamedExtent → Type 0) (most place : ℕ) (named : List NamedExtent) → AllByRecursion P named → AllByRecursion (IsLower P place) (last_ones most place named)
ones_lower P zero place named all = tt
ones_lower P (suc most) place named all = by_last (last_before place named) refl (λ before. ones_lower P most before named all)
  where
    by_last : (last : Option NamedExtent) → last_before place named ≡ last → ((before : ℕ) → AllByRecursion (IsLower P before) (last_ones most before named))
        → AllByRecursion (IsLower P place) (and_then last (last_ones most (place_of last) named))
    by_last None none rest = tt
    by_last (Some it) found rest =
        let here : IsLower P place it = last_lower P place named it all found in
        (here, lower_all P it.extent.at place (last_ones most it.extent.at named) here.1 (rest it.extent.at))

to_all : (P : ℕ → Type 0) (named : NamedExtent) (found : Option Extent) (others : List NamedExtent) → P named.id → AllByRecursion (λ (it : NamedExtent). P it.id) others
    → AllByRecursion (λ (it : NamedExtent). P it.id) (moved_to named found others)
to_all P named None others one all = all
to_all P named (Some extent) others one all = (one, all)

-- what is so of the ids of all that are gone through is so of those that move
pub moved_all : (P : ℕ → Type 0) (limit : ℕ) (taken : List Extent) (named : List NamedExtent) → AllByRecursion (λ (it : NamedExtent). P it.id) named
    → AllByRecursion (λ (it : NamedExtent). P it.id) (moved limit taken named)
moved_all P limit taken [] all = tt
moved_all P limit taken (it ∷ named) all =
    to_all P it (better limit taken it) (moved limit (with_taken (better limit taken it) taken) named) all.0 (moved_all P limit (with_taken (better limit taken it) taken) named all.1)

-- none before a place
pub none_left : (most place : ℕ) (named : List NamedExtent) → last_before place named ≡ None → last_ones most place named ≡ []
none_left zero place named none = refl
none_left (suc most) place named none = ap (λ (it : Option NamedExtent). and_then it (last_ones most (place_of it) named)) none

-- one before it, and then those before that
pub one_left : (most place : ℕ) (named : List NamedExtent) (it : NamedExtent) → last_before place named ≡ Some it → last_ones (suc most) place named ≡ it ∷ last_ones most it.extent.at named
one_left most place named it found = ap (λ (own : Option NamedExtent). and_then own (last_ones most (place_of own) named)) found

-- lists with the same last one before each place are gone through alike
pub same_ones : (ones others : List NamedExtent) → ((place : ℕ) → last_before place ones ≡ last_before place others) → (most place : ℕ) → last_ones most place ones ≡ last_ones most place others
same_ones ones others same zero place = refl
same_ones ones others same (suc most) place =
    ap (λ (it : Option NamedExtent). and_then it (last_ones most (place_of it) ones)) (same place)
    ∙ ap (and_then (last_before place others)) (same_ones ones others same most (place_of (last_before place others)))
