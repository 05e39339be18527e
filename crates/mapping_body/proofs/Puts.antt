-- Elements put at their places in byte order: what is seen of them, and that their names ascend.
use Rattle.std.proofs.Common.{◌≡◌, ℕ, suc, ◌<◌, ◌≤◌, List, [], ◌∷◌, ◌++◌, map, length, take, drop, get_or, refl, sym, ap, ◌∙◌, subst, arith, true, false, Less, Equal, Greater, bytes_eq}
use Rattle.std.proofs.lemmas.Cmp.{nat_list_cmp_total}
use Rattle.std.specs.List.Sorted.{IsStrictlySortedBy}
use Rattle.mapping_body.specs.Names.{AreAscending, in_byte_order, put, put_all}
use Rattle.mapping_body.proofs.Ranks.{by_ordering, is_eq_from, reversed, AllAfter, compared}

-- what is seen of the elements goes with them
pub map-put : {T U : Type 0} (f : T → U) (name : U → List ℕ) (x : T) (items : List T) → map f (put (λ t. name (f t)) x items) ≡ put name (f x) (map f items)
map-put f name x [] = refl
map-put {T} {U} f name x (z ∷ items) =
    by_ordering (compared (name (f z)) (name (f x)))
    (λ less. rw less (ap (λ (ys : List U). f z ∷ ys) (map-put f name x items)))
    (λ equal. rw equal refl)
    (λ greater. rw greater refl)

-- ---- names that ascend go on to do so

put_after : {T : Type 0} (name : T → List ℕ) (k : List ℕ) (x : T) (items : List T) → compared k (name x) ≡ Less → AllAfter k (map name items) → AllAfter k (map name (put name x items))
put_after name k x [] less all = (less, tt)
put_after name k x (z ∷ items) less all =
    by_ordering (compared (name z) (name x))
    (λ before. rw before (all.0, put_after name k x items less all.1))
    (λ equal. rw equal all)
    (λ greater. rw greater (less, all))

pub all_beyond : (k n : List ℕ) (names : List (List ℕ)) → compared n k ≡ Less → AllAfter k names → AllAfter n names
all_beyond k n [] less all = tt
all_beyond k n (y ∷ names) less all = (nat_list_cmp_total.trans n k y less all.0, all_beyond k n names less all.1)

pub AreAscending-put : {T : Type 0} (name : T → List ℕ) (x : T) (items : List T) → AreAscending (map name items) → AreAscending (map name (put name x items))
unfolding IsStrictlySortedBy
AreAscending-put name x [] up = (tt, tt)
AreAscending-put name x (z ∷ items) up =
    by_ordering (compared (name z) (name x))
    (λ less. rw less (put_after name (name z) x items less up.0, AreAscending-put name x items up.1))
    (λ equal. rw equal up)
    (λ greater.
    let before = reversed (name z) (name x) Greater greater in
    rw greater ((before, all_beyond (name z) (name x) (map name items) before up.0), up))

pub AreAscending-put_all : {T : Type 0} (name : T → List ℕ) (ys xs : List T) → AreAscending (map name ys) → AreAscending (map name (put_all name ys xs))
AreAscending-put_all name ys [] up = up
AreAscending-put_all name ys (x ∷ xs) up = AreAscending-put_all name (put name x ys) xs (AreAscending-put name x ys up)

pub put_all-append : {T : Type 0} (name : T → List ℕ) (ys xs zs : List T) → put_all name ys (xs ++ zs) ≡ put_all name (put_all name ys xs) zs
put_all-append name ys [] zs = refl
put_all-append name ys (x ∷ xs) zs = put_all-append name (put name x ys) xs zs

pub ascending_none : {T : Type 0} (name : T → List ℕ) (items : List T) → items ≡ [] → AreAscending (map name items)
unfolding IsStrictlySortedBy
ascending_none name items e = rw e tt

-- an item before all that are put in stays in front
pub put_all-after : {T : Type 0} (name : T → List ℕ) (x : T) (ys xs : List T) → AllAfter (name x) (map name xs) → put_all name (x ∷ ys) xs ≡ x ∷ put_all name ys xs
put_all-after name x ys [] all = refl
put_all-after name x ys (z ∷ xs) all = rw (all.0) (put_all-after name x (put name z ys) xs all.1)

pub AreAscending-in_byte_order : {T : Type 0} (name : T → List ℕ) (xs : List T) → AreAscending (map name (in_byte_order name xs))
AreAscending-in_byte_order name xs = AreAscending-put_all name [] xs (ascending_none name [] refl)

pub map-put_all : {T U : Type 0} (f : T → U) (name : U → List ℕ) (ys xs : List T) → map f (put_all (λ t. name (f t)) ys xs) ≡ put_all name (map f ys) (map f xs)
map-put_all f name ys [] = refl
map-put_all f name ys (x ∷ xs) = map-put_all f name (put (λ t. name (f t)) x ys) xs ∙ ap (λ zs. put_all name zs (map f xs)) (map-put f name x ys)
