-- Ids that are sorted stand together, and each place leads to the first of its id.
use Rattle.std.proofs.Common.{◌≡◌, ℕ, zero, suc, ◌+◌, ◌<◌, ◌≤◌, Bool, true, false, List, [], ◌∷◌, ◌++◌, length, map, get_or, set, slice_get, Some, Ordering, Less, Equal, Greater, nat_cmp, is_lt, refl, sym, ap, subst, ◌∙◌, inl, inr, arith, Contains}
use Rattle.std.specs.Bool.{◌==◌}
use Rattle.std.specs.Cmp.{IsTotalOrder}
use Rattle.std.specs.Cmp.Lexicographic.{slice_cmp}
use Rattle.std.specs.List.{All, IsDistinct, range_with_len}
use Rattle.std.specs.List.Sorted.{IsPermutation, IsSorted}
use Rattle.std.specs.Ordering.{is_eq, on, ordering_reverse, ordering_then, then_cmp}
use Rattle.std.specs.Str.{bytes_eq}
use Rattle.std.proofs.lemmas.Bool.{cases_lt, true≢false}
use Rattle.std.proofs.lemmas.Bool.Decides.{nat_tests}
use Rattle.std.proofs.lemmas.Cmp.{nat_cmp_total, nat_list_cmp_total, on_total, then_total, tied_itself}
use Rattle.std.proofs.lemmas.List.{get_or-map, get_or-set_other, get_or-set_same, length-map}
use Rattle.std.proofs.lemmas.List.FromFn.{get_or-range_with_len, length-range_with_len}
use Rattle.std.proofs.lemmas.List.Sorted.{All-permutation, Contains-permutation, IsPermutation-map, IsPermutation-trans, length_permutation, ranks_by, sorted_far}
use Rattle.std.proofs.lemmas.Map.Keys.{IsDistinct-from_apart, IsDistinct-IsPermutation, apart_from_distinct}
use Rattle.std.proofs.lemmas.Map.Text.{is_eq-slice_cmp}
use Rattle.std.proofs.lemmas.Option.{slice_get_within}
use Rattle.std.proofs.lemmas.Slice.Eq.{bytes_eq-Decides}
use Rattle.join_ordinals.specs.Numbers.{AreGrouped, AreHeads, AreMet, HasHash, IsFirst, IsHead, hash_of, id_at, place_at}
use Rattle.join_ordinals.specs.declared.numbers.Met.{Met}

abbrev own : Met → List ℕ
own one = one.id.now

abbrev place : Met → ℕ
place one = one.place

abbrev pub no_met : Met
no_met = record { hash = 0; id = record { ref_ptr = (0, 0); now = [] }; place = 0 }

-- ---- the order

abbrev by_id : Met → Met → Ordering
by_id = then_cmp (on (λ (one : Met). one.hash) nat_cmp) (on own (slice_cmp nat_cmp))

by_id_total : IsTotalOrder by_id
by_id_total = then_total (on_total (λ (one : Met). one.hash) nat_cmp_total) (on_total own nat_list_cmp_total)

abbrev pub met_cmp : Met → Met → Ordering
met_cmp one other = ordering_then (nat_cmp one.hash other.hash) (ordering_then (slice_cmp nat_cmp one.id.now other.id.now) (nat_cmp one.place other.place))

met_total : IsTotalOrder met_cmp
met_total = then_total (on_total (λ (one : Met). one.hash) nat_cmp_total) (then_total (on_total own nat_list_cmp_total) (on_total place nat_cmp_total))

first_not : (a b c : Ordering) → is_lt (ordering_then a (ordering_then b c)) ≡ false → is_lt (ordering_then a b) ≡ false
first_not Less b c is = is
first_not Equal Less c is = is
first_not Equal Equal c is = refl
first_not Equal Greater c is = refl
first_not Greater b c is = refl

ends_meet : (o back : Ordering) → back ≡ ordering_reverse o → is_lt o ≡ false → is_lt back ≡ false → back ≡ Equal
ends_meet Less back is one two = absurd (true≢false one)
ends_meet Equal back is one two = is
ends_meet Greater back is one two = absurd (true≢false (sym (ap is_lt is) ∙ two))

-- what stands between two that tie
between : (x y z : Met) → by_id x z ≡ Equal → is_lt (met_cmp y x) ≡ false → is_lt (met_cmp z y) ≡ false → by_id y x ≡ Equal
between x y z tie low high =
    let up : is_lt (by_id y x) ≡ false = first_not (nat_cmp y.hash x.hash) (slice_cmp nat_cmp y.id.now x.id.now) (nat_cmp y.place x.place) low in
    let down : is_lt (by_id z y) ≡ false = first_not (nat_cmp z.hash y.hash) (slice_cmp nat_cmp z.id.now y.id.now) (nat_cmp z.place y.place) high in
    ends_meet (by_id x y) (by_id y x) (by_id_total.antisymm y x) (ap is_lt (by_id_total.congr x z y tie) ∙ down) up

second_equal : (a b : Ordering) → ordering_then a b ≡ Equal → b ≡ Equal
second_equal Less b is = absurd (let no : ⊥ = cc in no)
second_equal Equal b is = is
second_equal Greater b is = absurd (let no : ⊥ = cc in no)

one_id : (x y : Met) → by_id x y ≡ Equal → own x ≡ own y
one_id x y tie = (bytes_eq-Decides (own x) (own y)).0 (sym (is_eq-slice_cmp (own x) (own y)) ∙ ap is_eq (second_equal (nat_cmp x.hash y.hash) (slice_cmp nat_cmp (own x) (own y)) tie))

one_hash : (x y : Met) → HasHash x → HasHash y → own x ≡ own y → x.hash ≡ y.hash
one_hash x y hx hy is = hx ∙ ap hash_of is ∙ sym hy

ties : (x y : Met) → HasHash x → HasHash y → own x ≡ own y → by_id x y ≡ Equal
ties x y hx hy is =
    let hashes : nat_cmp x.hash y.hash ≡ Equal = ap (nat_cmp x.hash) (sym (one_hash x y hx hy is)) ∙ tied_itself nat_cmp_total x.hash in
    let ids : slice_cmp nat_cmp (own x) (own y) ≡ Equal = ap (slice_cmp nat_cmp (own x)) (sym is) ∙ tied_itself nat_list_cmp_total (own x) in
    rw hashes ids

-- of one id the places rise
rises : (x y : Met) → HasHash x → HasHash y → own x ≡ own y → is_lt (met_cmp y x) ≡ false → place x ≤ place y
rises x y hx hy is up =
    let hashes : nat_cmp y.hash x.hash ≡ Equal = ap (nat_cmp y.hash) (one_hash x y hx hy is) ∙ tied_itself nat_cmp_total y.hash in
    let ids : slice_cmp nat_cmp (own y) (own x) ≡ Equal = ap (slice_cmp nat_cmp (own y)) is ∙ tied_itself nat_list_cmp_total (own y) in
    let last : is_lt (nat_cmp y.place x.place) ≡ false = rw (sym (ap (λ o. is_lt (ordering_then o (nat_cmp y.place x.place))) ids)) (rw (sym (ap (λ o. is_lt (ordering_then o (ordering_then (slice_cmp nat_cmp (own y) (own x)) (nat_cmp y.place x.place)))) hashes)) up) in
    grind (arith, nat_tests)

-- ---- places in order

range_apart : (a n : ℕ) → range_with_len a (n + 1) ≡ range_with_len a n ++ (a + n) ∷ []
range_apart a zero = let here : a ≡ a + 0 = omega arith in ap (λ (m : ℕ). m ∷ []) here
range_apart a (suc n) =
    let more : suc n + 1 ≡ suc (n + 1) = omega arith in
    let next : a + 1 + n ≡ a + suc n = omega arith in
    rw more (ap (λ (ms : List ℕ). a ∷ ms) (range_apart (a + 1) n ∙ ap (λ (m : ℕ). range_with_len (a + 1) n ++ m ∷ []) next))

pub range_more : (n : ℕ) → range_with_len 0 n ++ n ∷ [] ≡ range_with_len 0 (n + 1)
range_more n = let same : n ≡ 0 + n = omega arith in ap (λ (m : ℕ). range_with_len 0 n ++ m ∷ []) same ∙ sym (range_apart 0 n)

-- ---- sorted

pub sorted_met : (ids : List (List ℕ)) (met sorted : List Met) → AreMet ids met → IsPermutation met sorted → AreMet ids sorted
sorted_met ids met sorted are moved = record {
  hashed = All-permutation HasHash met sorted moved are.hashed;
  own = All-permutation (λ (one : Met). slice_get ids one.place ≡ Some one.id.now) met sorted moved are.own;
  places = IsPermutation-trans (range_with_len 0 (length ids)) (map place met) (map place sorted) are.places (IsPermutation-map place met sorted moved);
}

met_long : (ids : List (List ℕ)) (met : List Met) → AreMet ids met → length met ≡ length ids
met_long ids met are =
    sym (length-map met place) ∙ length_permutation (range_with_len 0 (length ids)) (map place met) are.places ∙ length-range_with_len 0 (length ids)

abbrev same_number : ℕ → ℕ → Bool
same_number a b = a == b

places_apart : (ids : List (List ℕ)) (met : List Met) → AreMet ids met → IsDistinct same_number (map place met)
places_apart ids met are =
    IsDistinct-IsPermutation same_number (λ x y. grind (arith, nat_tests)) (range_with_len 0 (length ids)) (map place met) are.places
    (IsDistinct-from_apart same_number (range_with_len 0 (length ids))
    (λ i j d up below.
    let inside : j < length ids = omega (arith, below, length-range_with_len 0 (length ids)) in
    let one : get_or (range_with_len 0 (length ids)) i d ≡ 0 + i = get_or-range_with_len 0 (length ids) i d (omega (arith, up, inside)) in
    let two : get_or (range_with_len 0 (length ids)) j d ≡ 0 + j = get_or-range_with_len 0 (length ids) j d inside in
    rw (one, two) (grind (arith, nat_tests))))

apart : (ids : List (List ℕ)) (met : List Met) → AreMet ids met → (i j : ℕ) → i < j → j < length met → place_at met i ≡ place_at met j → ⊥
apart ids met are i j up below same =
    let no : (place_at met i == place_at met j) ≡ false = apart_from_distinct same_number (map place met) i j 0 (places_apart ids met are) up (omega (arith, below, length-map met place)) in
    let yes : (place_at met i == place_at met j) ≡ true = rw same (grind (arith, nat_tests)) in
    true≢false (sym yes ∙ no)

at_place : (met : List Met) (i : ℕ) (d : Met) → i < length met → place_at met i ≡ place (get_or met i d)
at_place met i d below = get_or-map place met i d 0 below

at_id : (met : List Met) (i : ℕ) (d : Met) → i < length met → id_at met i ≡ own (get_or met i d)
at_id met i d below = get_or-map own met i d [] below

module _ (met : List Met) (d : Met) (hashed : All HasHash met) (up : IsSorted met_cmp met) where
  not_less : (i j : ℕ) → i ≤ j → j < length met → is_lt (met_cmp (get_or met j d) (get_or met i d)) ≡ false
  not_less i j from below = sorted_far (λ x y. is_lt (met_cmp x y)) (ranks_by met_total (λ x. x)) met up i j d from below

  together : (i k j : ℕ) → i ≤ k → k ≤ j → j < length met → id_at met i ≡ id_at met j → id_at met k ≡ id_at met j
  together i k j low high below same =
      let x = get_or met i d in
      let y = get_or met k d in
      let z = get_or met j d in
      let inside : i < length met = omega (arith, low, high, below) in
      let within : k < length met = omega (arith, high, below) in
      let ends : own x ≡ own z = sym (at_id met i d inside) ∙ same ∙ at_id met j d below in
      at_id met k d within ∙ one_id y x (between x y z (ties x z (hashed i d inside) (hashed j d below) ends) (not_less i k low within) (not_less k j high below))
      ∙ sym (at_id met i d inside) ∙ same

  rising : (i j : ℕ) → i ≤ j → j < length met → id_at met i ≡ id_at met j → place_at met i ≤ place_at met j
  rising i j from below same =
      let x = get_or met i d in
      let z = get_or met j d in
      let inside : i < length met = omega (arith, from, below) in
      let ends : own x ≡ own z = sym (at_id met i d inside) ∙ same ∙ at_id met j d below in
      omega (arith, at_place met i d inside, at_place met j d below, rises x z (hashed i d inside) (hashed j d below) ends (not_less i j from below))

within : (ids : List (List ℕ)) (met : List Met) → AreMet ids met → All (λ (one : Met). one.place < length met) met
within ids met are = λ k d below. omega (arith, slice_get_within ids (place (get_or met k d)) (own (get_or met k d)) (are.own k d below), met_long ids met are)

pub grouped : (ids : List (List ℕ)) (met : List Met) → AreMet ids met → IsSorted met_cmp met → AreGrouped met
grouped ids met are up = record {
  hashed = are.hashed;
  within = within ids met are;
  apart = λ i j one two same. elim (cases_lt i j) [
    | inl less ↦ absurd (apart ids met are i j less two same)
    | inr past ↦ elim (cases_lt j i) [
      | inl more ↦ absurd (apart ids met are j i more one (sym same))
      | inr still ↦ omega (arith, past, still)
    ]
  ];
  together = by_first met up are.hashed;
}
  where
    by_first : (met : List Met) → IsSorted met_cmp met → All HasHash met → (i k j : ℕ) → i ≤ k → k ≤ j → j < length met → id_at met i ≡ id_at met j → id_at met k ≡ id_at met j
    by_first [] up hashed i k j low high below same = absurd (omega (arith, below))
    by_first (first ∷ rest) up hashed i k j low high below same = together (first ∷ rest) first hashed up i k j low high below same

-- ---- heads

pub ids_alike : (met : List Met) (i j : ℕ) (b : Bool) → i < length met → j < length met → b ≡ bytes_eq (get_or met i no_met).id.now (get_or met j no_met).id.now → b ≡ true → id_at met i ≡ id_at met j
ids_alike met i j b one two is holds = at_id met i no_met one ∙ (bytes_eq-Decides (own (get_or met i no_met)) (own (get_or met j no_met))).0 (sym is ∙ holds) ∙ sym (at_id met j no_met two)

pub ids_differ : (met : List Met) (i j : ℕ) (b : Bool) → i < length met → j < length met → b ≡ bytes_eq (get_or met i no_met).id.now (get_or met j no_met).id.now → b ≡ false → id_at met i ≡ id_at met j → ⊥
ids_differ met i j b one two is fails same =
    let ids : own (get_or met i no_met) ≡ own (get_or met j no_met) = sym (at_id met i no_met one) ∙ same ∙ at_id met j no_met two in
    true≢false (sym ((bytes_eq-Decides (own (get_or met i no_met)) (own (get_or met j no_met))).1 ids) ∙ sym is ∙ fails)

pub head_same : (met : List Met) (at head : ℕ) → head ≤ at → ((before : ℕ) → before + 1 ≡ at → IsHead met before head) → id_at met head ≡ id_at met at → IsHead met at head
head_same met at head up was same = record { up = up; same = same; none = none at up was same }
  where
    none : (at : ℕ) → head ≤ at → ((before : ℕ) → before + 1 ≡ at → IsHead met before head) → id_at met head ≡ id_at met at → (j : ℕ) → j < head → id_at met j ≡ id_at met at → ⊥
    none zero up was same j below is = omega (arith, up, below)
    none (suc before) up was same j below is =
        let head_before = was before (omega arith) in
        head_before.none j below (is ∙ sym same ∙ head_before.same)

pub head_new : (met : List Met) (at head : ℕ) → AreGrouped met → at < length met → ((before : ℕ) → before + 1 ≡ at → IsHead met before head) → (id_at met head ≡ id_at met at → ⊥) → IsHead met at at
head_new met at head are below was other = record { up = omega arith; same = refl; none = none at below was other }
  where
    none : (at : ℕ) → at < length met → ((before : ℕ) → before + 1 ≡ at → IsHead met before head) → (id_at met head ≡ id_at met at → ⊥) → (j : ℕ) → j < at → id_at met j ≡ id_at met at → ⊥
    none zero below was other j less is = omega (arith, less)
    none (suc before) below was other j less is =
        let head_before = was before (omega arith) in
        other (head_before.same ∙ are.together j before (suc before) (omega (arith, less)) (omega arith) below is)

pub first_more : (met : List Met) (firsts new : List ℕ) (at head : ℕ) → AreGrouped met → at < length met → length firsts ≡ length met → IsHead met at head → ((k : ℕ) → k < at → IsFirst met firsts k)
    → new ≡ set firsts (place_at met at) (place_at met head) → (k : ℕ) → k < at + 1 → IsFirst met new k
first_more met firsts new at head are below long is was written k up = elim (cases_lt k at) [
  | inl less ↦
      let own = was k less in record {
        head = own.head;
        is_head = own.is_head;
        first = ap (λ (xs : List ℕ). get_or xs (place_at met k) 0) written
            ∙ get_or-set_other firsts (place_at met at) (place_at met k) (place_at met head) 0 (λ same. let one : k ≡ at = are.apart k at (omega (arith, less, below)) below same in omega (arith, one, less))
            ∙ own.first;
      }
  | inr past ↦
      let here : at ≡ k = omega (arith, past, up) in
      subst (λ (n : ℕ). IsFirst met new n) here (record {
        head = head;
        is_head = is;
        first = ap (λ (xs : List ℕ). get_or xs (place_at met at) 0) written ∙ get_or-set_same firsts (place_at met at) (place_at met head) 0 (omega (arith, long, inside met at are.within below));
      })
]
  where
    inside : (met : List Met) (at : ℕ) → All (λ (one : Met). one.place < length met) met → at < length met → place_at met at < length met
    inside [] at all below = absurd (omega (arith, below))
    inside (first ∷ rest) at all below = omega (arith, at_place (first ∷ rest) at first below, all at first below)

pub first_set : (met : List Met) (firsts : List ℕ) (at head : ℕ) → AreGrouped met → at < length met → length firsts ≡ length met → IsHead met at head → ((k : ℕ) → k < at → IsFirst met firsts k)
    → (k : ℕ) → k < at + 1 → IsFirst met (set firsts (get_or met at no_met).place (get_or met head no_met).place) k
first_set met firsts at head are below long is was =
    first_more met firsts (set firsts (get_or met at no_met).place (get_or met head no_met).place) at head are below long is was
    (ap (λ (n : ℕ). set firsts n (get_or met head no_met).place) (sym (at_place met at no_met below))
    ∙ ap (set firsts (place_at met at)) (sym (at_place met head no_met (omega (arith, is.up, below)))))

-- a place with the index that has it
record IsFound (ids : List (List ℕ)) (met : List Met) (firsts : List ℕ) (one : ℕ) : Type 0 where
  pub at : ℕ
  pub below : at < length met
  pub is_place : place_at met at ≡ one
  pub is_first : IsFirst met firsts at
  pub is_id : slice_get ids one ≡ Some (id_at met at)

pub heads : (ids : List (List ℕ)) (met : List Met) (firsts : List ℕ) → AreMet ids met → IsSorted met_cmp met → length firsts ≡ length met → ((at : ℕ) → at < length met → IsFirst met firsts at) → AreHeads ids firsts
heads ids [] firsts are up long first = record {
  long = long ∙ met_long ids [] are;
  up = λ one below. absurd (omega (arith, below, met_long ids [] are));
  same = λ one below. absurd (omega (arith, below, met_long ids [] are));
  alike = λ i j one two same. absurd (omega (arith, one, met_long ids [] are));
}
heads ids (d ∷ rest) firsts are up long first = record {
  long = long ∙ met_long ids met are;
  up = λ one below.
      let it = found one below in
      let head = it.is_first.is_head in
      omega (arith, at_first one it, it.is_place, rising met d are.hashed up it.is_first.head it.at head.up it.below head.same);
  same = λ one below.
      let it = found one below in
      let head = it.is_first.is_head in
      ap (slice_get ids) (at_first one it) ∙ id_there it.is_first.head (omega (arith, head.up, it.below)) ∙ ap Some head.same ∙ sym it.is_id;
  alike = λ i j one two same.
      let a = found i one in
      let b = found j two in
      let ids_same : id_at met a.at ≡ id_at met b.at = let both : Some (id_at met a.at) ≡ Some (id_at met b.at) = sym a.is_id ∙ same ∙ b.is_id in cc in
      at_first i a ∙ ap (place_at met) (one_head a.at b.at a.is_first.head b.is_first.head ids_same a.is_first.is_head b.is_first.is_head) ∙ sym (at_first j b);
}
  where
    met : List Met
    met = d ∷ rest

    id_there : (k : ℕ) → k < length met → slice_get ids (place_at met k) ≡ Some (id_at met k)
    id_there k below = ap (slice_get ids) (at_place met k d below) ∙ are.own k d below ∙ ap Some (sym (at_id met k d below))

    found : (one : ℕ) → one < length ids → IsFound ids met firsts one
    found one below =
        let there : Contains (map place met) one =
        Contains-permutation (range_with_len 0 (length ids)) (map place met) one are.places
        (one, omega (arith, below, length-range_with_len 0 (length ids)), get_or-range_with_len 0 (length ids) one one below ∙ omega arith) in
        let inside : there.0 < length met = omega (arith, there.1, length-map met place) in
        let is : place_at met there.0 ≡ one = at_place met there.0 d inside ∙ sym (get_or-map place met there.0 d one inside) ∙ there.2 in
        record { at = there.0; below = inside; is_place = is; is_first = first there.0 inside; is_id = ap (slice_get ids) (sym is) ∙ id_there there.0 inside }

    at_first : (one : ℕ) (it : IsFound ids met firsts one) → get_or firsts one 0 ≡ place_at met it.is_first.head
    at_first one it = ap (λ (n : ℕ). get_or firsts n 0) (sym it.is_place) ∙ it.is_first.first

    one_head : (k l g h : ℕ) → id_at met k ≡ id_at met l → IsHead met k g → IsHead met l h → g ≡ h
    one_head k l g h same one two = elim (cases_lt g h) [
      | inl less ↦ absurd (two.none g less (one.same ∙ same))
      | inr past ↦ elim (cases_lt h g) [
        | inl more ↦ absurd (one.none h more (two.same ∙ sym same))
        | inr still ↦ omega (arith, past, still)
      ]
    ]
