-- A name comes twice exactly if one copy is dropped where each is kept once.
use Rattle.std.proofs.Common.{◌≡◌, ◌∙◌, sym, ap, ℕ, ◌+◌, ◌≤◌, nat_lt, Bool, true, false, ◌||◌, List as Seq, [], ◌∷◌, map, length, bytes_eq, if◌then◌else◌, subst, refl, arith, Ordering, Less, nat_cmp}
use Rattle.std.proofs.lemmas.Bool.{false≢true, ltb-false, le-ltb}
use Rattle.std.proofs.lemmas.List.Kept.{IsStrictlySortedBy-dedup}
use Rattle.std.proofs.lemmas.List.Sorted.{IsPermutation-sym, length_permutation}
use Rattle.std.proofs.lemmas.Map.Keys.{IsDistinct-IsPermutation}
use Rattle.std.specs.Cmp.Lexicographic.{slice_cmp, on_texts, on_texts_equal, texts_ties}
use Rattle.std.specs.List.{list_any, IsDistinct, AllByRecursion, dedup, dedup_from}
use Rattle.std.specs.List.Sorted.{IsPermutation, IsSorted, IsStrictlySortedBy}
use Rattle.std.specs.Ordering.{is_eq}
use denote.Ref.{Bor}
use Rattle.search_walk.specs.Refusal.{has_twice}

abbrev Name : Type 0
Name = Bor (Seq ℕ)

abbrev by_bytes : Name → Name → Ordering
by_bytes x y = slice_cmp nat_cmp x.now y.now

abbrev same : Name → Name → Bool
same x y = bytes_eq x.now y.now

abbrev names_of : Seq Name → Seq (Seq ℕ)
names_of = map (λ n. n.now)

neither : (a b : Bool) → a ≡ false → b ≡ false → (a || b) ≡ false
neither false b h k = k
neither true b h k = absurd (false≢true (sym h))

not_first : (a b : Bool) → (a || b) ≡ false → a ≡ false
not_first false b h = refl
not_first true b h = absurd (false≢true (sym h))

not_second : (a b : Bool) → (a || b) ≡ false → b ≡ false
not_second false b h = h
not_second true b h = absurd (false≢true (sym h))

-- ---- names of which none comes twice are distinct, in any order

all_differ : (x : Name) (ys : Seq Name) → list_any (bytes_eq x.now) (names_of ys) ≡ false → AllByRecursion (λ y. same x y ≡ false) ys
all_differ x [] h = tt
all_differ x (y ∷ ys) h =
    let first = bytes_eq x.now y.now in
    let more = list_any (bytes_eq x.now) (names_of ys) in
    (not_first first more h, all_differ x ys (not_second first more h))

none_same : (x : Name) (ys : Seq Name) → AllByRecursion (λ y. same x y ≡ false) ys → list_any (bytes_eq x.now) (names_of ys) ≡ false
none_same x [] h = refl
none_same x (y ∷ ys) h = neither _ _ h.0 (none_same x ys h.1)

distinct : (xs : Seq Name) → has_twice (names_of xs) ≡ false → IsDistinct same xs
unfolding IsDistinct
distinct [] h = tt
distinct (x ∷ xs) h =
    let first = list_any (bytes_eq x.now) (names_of xs) in
    let more = has_twice (names_of xs) in
    (all_differ x xs (not_first first more h), distinct xs (not_second first more h))

once : (xs : Seq Name) → IsDistinct same xs → has_twice (names_of xs) ≡ false
unfolding IsDistinct
once [] h = refl
once (x ∷ xs) h = neither _ _ (none_same x xs h.0) (once xs h.1)

once_moved : (xs ys : Seq Name) → IsPermutation xs ys → has_twice (names_of xs) ≡ false → has_twice (names_of ys) ≡ false
once_moved xs ys moved h = once ys (IsDistinct-IsPermutation same (on_texts_equal (λ n. n.now)).symm xs ys moved (distinct xs h))

equal_bools : (a b : Bool) → (a ≡ false → b ≡ false) → (b ≡ false → a ≡ false) → a ≡ b
equal_bools false b h k = sym (h refl)
equal_bools true false h k = k refl
equal_bools true true h k = refl

twice_stays : (xs ys : Seq Name) → IsPermutation xs ys → has_twice (names_of ys) ≡ has_twice (names_of xs)
twice_stays xs ys moved =
    equal_bools (has_twice (names_of ys)) (has_twice (names_of xs)) (once_moved ys xs (IsPermutation-sym xs ys moved)) (once_moved xs ys moved)

-- ---- names in order, each kept once

none_after : (x : Name) (ys : Seq Name) → AllByRecursion (λ y. by_bytes x y ≡ Less) ys → list_any (bytes_eq x.now) (names_of ys) ≡ false
none_after x [] h = refl
none_after x (y ∷ ys) h = neither _ _ (texts_ties x.now y.now ∙ ap is_eq h.0) (none_after x ys h.1)

rising_once : (xs : Seq Name) → IsStrictlySortedBy by_bytes xs → has_twice (names_of xs) ≡ false
unfolding IsStrictlySortedBy
rising_once [] h = refl
rising_once (x ∷ xs) h = neither _ _ (none_after x xs h.0) (rising_once xs h.1)

no_longer : (x : Name) (xs : Seq Name) → length (dedup_from same x xs) ≤ 1 + length xs
no_longer x [] = omega arith
no_longer x (y ∷ ys) = by (same y x) (no_longer x ys) (no_longer y ys)
  where
    by : (b : Bool) → length (dedup_from same x ys) ≤ 1 + length ys → length (dedup_from same y ys) ≤ 1 + length ys → length (if b then dedup_from same x ys else x ∷ dedup_from same y ys) ≤ 1 + length (y ∷ ys)
    by true one other = omega (arith, one)
    by false one other = omega (arith, other)

-- where none is dropped, the list is as it was
whole : (x : Name) (xs : Seq Name) → length (dedup_from same x xs) ≡ 1 + length xs → dedup_from same x xs ≡ x ∷ xs
whole x [] h = refl
whole x (y ∷ ys) h = by (same y x) (no_longer x ys) (λ e. whole y ys e) h
  where
    by : (b : Bool) → length (dedup_from same x ys) ≤ 1 + length ys → (length (dedup_from same y ys) ≡ 1 + length ys → dedup_from same y ys ≡ y ∷ ys) → length (if b then dedup_from same x ys else x ∷ dedup_from same y ys) ≡ 1 + length (y ∷ ys) → (if b then dedup_from same x ys else x ∷ dedup_from same y ys) ≡ x ∷ y ∷ ys
    by true short more e = absurd (omega (arith, short, e))
    by false short more e = let rest : length (dedup_from same y ys) ≡ 1 + length ys = omega (arith, e) in ap (λ (zs : Seq Name). x ∷ zs) (more rest)

kept : (x : Name) (xs : Seq Name) → has_twice (names_of (x ∷ xs)) ≡ false → dedup_from same x xs ≡ x ∷ xs
kept x [] h = refl
kept x (y ∷ ys) h =
    let more = has_twice (names_of (y ∷ ys)) in
    let apart : same x y ≡ false = not_first (bytes_eq x.now y.now) (list_any (bytes_eq x.now) (names_of ys)) (not_first (list_any (bytes_eq x.now) (names_of (y ∷ ys))) more h) in
    let turned : same y x ≡ false = (on_texts_equal (λ n. n.now)).symm y x ∙ apart in
    rw turned (ap (λ (zs : Seq Name). x ∷ zs) (kept y ys (not_second (list_any (bytes_eq x.now) (names_of (y ∷ ys))) more h)))

all_kept : (xs : Seq Name) → has_twice (names_of xs) ≡ false → dedup same xs ≡ xs
all_kept [] h = refl
all_kept (x ∷ xs) h = kept x xs h

all_whole : (xs : Seq Name) → length xs ≤ length (dedup same xs) → dedup same xs ≡ xs
all_whole [] h = refl
all_whole (x ∷ xs) h = whole x xs (omega (arith, no_longer x xs))

fewer : (xs : Seq Name) → IsSorted by_bytes xs → nat_lt (length (dedup same xs)) (length xs) ≡ has_twice (names_of xs)
fewer xs up =
    equal_bools (nat_lt (length (dedup same xs)) (length xs)) (has_twice (names_of xs))
    (λ none.
    let is = all_whole xs (ltb-false (length (dedup same xs)) (length xs) none) in
    rising_once xs (subst (IsStrictlySortedBy by_bytes) is (IsStrictlySortedBy-dedup (on_texts (λ n. n.now)) (λ x y. texts_ties x.now y.now) xs up)))
    (λ once. le-ltb (length (dedup same xs)) (length xs) (let e = ap (λ (zs : Seq Name). length zs) (all_kept xs once) in omega (arith, e)))

pub is_shorter : (names given sorted left : Seq Name) → given ≡ names → IsPermutation given sorted → IsSorted by_bytes sorted → left ≡ dedup same sorted → nat_lt (length left) (length names) ≡ has_twice (names_of names)
is_shorter names given sorted left copied moves up is =
    let moved : IsPermutation names sorted = subst (λ (xs : Seq Name). IsPermutation xs sorted) copied moves in
    rw (is, sym (length_permutation names sorted moved)) (fewer sorted up ∙ twice_stays names sorted moved)
