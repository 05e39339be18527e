-- Scores that a reply can hold.
use Rattle.std.proofs.Common.{◌≡◌, ℕ, ◌<◌, List as Seq, [], ◌∷◌, ◌++◌, length, map, filter, get_or, Option, Some, None}
use Rattle.std.proofs.lemmas.List.Elements.{All-filter, All-from_recursion, All-get_or, All-nil, All-push, All-same, recursion_from_All}
use Rattle.std.specs.List.{All, AllByRecursion}
use Rattle.nested_sort.specs.Listed.{IsCapped}
use Rattle.view_objects.specs.declared.hit.Hit.{Hit}
use Rattle.inner_hits.specs.Kinship.{AreCapped, IsCappedKin, has_key, hit_of, owner_hits}
use Rattle.inner_hits.specs.declared.joined.Kin.{Kin}

pub capped_on : (first xs new : Seq Hit) (x : Hit) → (All IsCapped first → All IsCapped xs) → IsCapped x → new ≡ xs ++ x ∷ [] → All IsCapped first → All IsCapped new
capped_on first xs new x on own is all = All-same IsCapped new (xs ++ x ∷ []) is (All-push IsCapped xs x (on all) own)

pub capped_none : (xs : Seq Hit) → xs ≡ [] → All IsCapped xs
capped_none xs is = All-same IsCapped xs [] is (All-nil IsCapped)

pub capped_get : (xs : Seq Hit) (k : ℕ) (d : Hit) → k < length xs → All IsCapped xs → IsCapped (get_or xs k d)
capped_get xs k d low all = All-get_or IsCapped xs k d low all

pub kin_capped_none : (xs : Seq Kin) → xs ≡ [] → AreCapped xs
kin_capped_none xs is = All-same IsCappedKin xs [] is (All-nil IsCappedKin)

pub kin_capped_on : (first xs new : Seq Kin) (x : Kin) → (AreCapped first → AreCapped xs) → IsCapped x.hit → new ≡ xs ++ x ∷ [] → AreCapped first → AreCapped new
kin_capped_on first xs new x on own is all = All-same IsCappedKin new (xs ++ x ∷ []) is (All-push IsCappedKin xs x (on all) own)

-- the hits of one key
pub owner_capped : (key : Option ℕ) (kin : Seq Kin) → AreCapped kin → All IsCapped (owner_hits key kin)
owner_capped None kin all = All-nil IsCapped
owner_capped (Some key) kin all = All-from_recursion IsCapped (map hit_of (filter (has_key key) kin)) (by (filter (has_key key) kin) (recursion_from_All IsCappedKin (filter (has_key key) kin) (All-filter (has_key key) IsCappedKin kin all)))
  where
    by : (xs : Seq Kin) → AllByRecursion IsCappedKin xs → AllByRecursion IsCapped (map hit_of xs)
    by [] all = tt
    by (x ∷ xs) all = (all.0, by xs all.1)

pub owners_capped : (key : Option ℕ) (kin : Seq Kin) (hits : Seq Hit) → AreCapped kin → hits ≡ owner_hits key kin → All IsCapped hits
owners_capped key kin hits all is = All-same IsCapped hits (owner_hits key kin) is (owner_capped key kin all)

pub ruleset capping = (capped_on, capped_none, capped_get, kin_capped_none, kin_capped_on)
