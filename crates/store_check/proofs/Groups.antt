-- Groups in order are known by what they have at each key.
use Rattle.std.proofs.Common.{◌≡◌, true, false, List, [], ◌∷◌, length, refl, sym, ap, ◌∙◌, arith, append-nil}
use Rattle.std.specs.List.{AllByRecursion}
use Rattle.std.specs.List.Sorted.{IsStrictlySortedBy}
use Rattle.std.specs.Ordering.{eq_by_cmp, ordering_reverse}
use Rattle.std.specs.declared.cmp.Ordering.{Ordering}
use Rattle.std.specs.declared.cmp.Ordering.TheVariants.{Less, Equal, Greater}
use Rattle.std.proofs.lemmas.Cmp.{tied_itself}
use Rattle.segment_builder.specs.Groups.{in_groups, keys, AreOrdered}
use Rattle.segment_builder.proofs.Merged.{IsExact}

split_by : {C : Type 0} (order : Ordering) → (order ≡ Less → C) → (order ≡ Equal → C) → (order ≡ Greater → C) → C
split_by Less less equal more = less refl
split_by Equal less equal more = equal refl
split_by Greater less equal more = more refl

up_first : {K : Type 0} (cmp : K → K → Ordering) (x : K) (xs : List K) → IsStrictlySortedBy cmp (x ∷ xs) → AllByRecursion (λ y. cmp x y ≡ Less) xs
unfolding IsStrictlySortedBy
up_first cmp x xs up = up.0

up_rest : {K : Type 0} (cmp : K → K → Ordering) (x : K) (xs : List K) → IsStrictlySortedBy cmp (x ∷ xs) → IsStrictlySortedBy cmp xs
unfolding IsStrictlySortedBy
up_rest cmp x xs up = up.1

module _ {K : Type 0} (cmp : K → K → Ordering) (o : IsExact cmp) where
  behind : (key next : K) (others : List K) → cmp key next ≡ Less → AllByRecursion (λ other. cmp next other ≡ Less) others → AllByRecursion (λ other. cmp key other ≡ Less) others
  behind key next [] less all = tt
  behind key next (other ∷ others) less all = (o.total.trans key next other less all.0, behind key next others less all.1)

  itself : (key : K) → eq_by_cmp cmp key key ≡ true
  itself key = rw (tied_itself o.total key) refl

module _ {K P : Type 0} (cmp : K → K → Ordering) (o : IsExact cmp) where
  ordered_rest : (group : K × List P) (groups : List (K × List P)) → AreOrdered cmp (group ∷ groups) → AreOrdered cmp groups
  ordered_rest group groups are = record { ascending = up_rest cmp group.0 (keys groups) are.ascending; some = are.some.1 }

  -- a key before those of all groups has nothing in them
  nothing_behind : (key : K) (groups : List (K × List P)) → AllByRecursion (λ other. cmp key other ≡ Less) (keys groups) → in_groups cmp key groups ≡ []
  nothing_behind key [] all = refl
  nothing_behind key (group ∷ groups) all =
      let apart : eq_by_cmp cmp key group.0 ≡ false = rw all.0 refl in
      rw apart (nothing_behind key groups all.1)

  -- what the first of groups has
  first_has : (group : K × List P) (groups : List (K × List P)) → AreOrdered cmp (group ∷ groups) → in_groups cmp group.0 (group ∷ groups) ≡ group.1
  first_has group groups are =
      let none : in_groups cmp group.0 groups ≡ [] = nothing_behind group.0 groups (up_first cmp group.0 (keys groups) are.ascending) in
      rw (itself cmp o group.0, none) (append-nil group.1)

  -- a key of groups isn't before those of others that have the same
  not_before : (x : K × List P) (xs : List (K × List P)) (y : K × List P) (ys : List (K × List P)) → AreOrdered cmp (x ∷ xs) → AreOrdered cmp (y ∷ ys)
      → in_groups cmp x.0 (x ∷ xs) ≡ in_groups cmp x.0 (y ∷ ys) → cmp x.0 y.0 ≡ Less → ⊥
  not_before x xs y ys one other same less =
      let none : in_groups cmp x.0 (y ∷ ys) ≡ [] = nothing_behind x.0 (y ∷ ys) (less, behind cmp o x.0 y.0 (keys ys) less (up_first cmp y.0 (keys ys) other.ascending)) in
      let e : x.1 ≡ [] = sym (first_has x xs one) ∙ (same ∙ none) in
      let long : length x.1 ≡ 0 = ap length e in
      omega (arith, long, one.some.0)

  not_alone : (x : K × List P) (xs : List (K × List P)) → AreOrdered cmp (x ∷ xs) → in_groups cmp x.0 (x ∷ xs) ≡ [] → ⊥
  not_alone x xs are none =
      let long : length x.1 ≡ 0 = ap length (sym (first_has x xs are) ∙ none) in
      omega (arith, long, are.some.0)

  -- what the others have, at each key
  rest_same : (x : K × List P) (xs : List (K × List P)) (y : K × List P) (ys : List (K × List P)) → AreOrdered cmp (x ∷ xs) → AreOrdered cmp (y ∷ ys) → x.0 ≡ y.0
      → ((key : K) → in_groups cmp key (x ∷ xs) ≡ in_groups cmp key (y ∷ ys)) → (key : K) → in_groups cmp key xs ≡ in_groups cmp key ys
  rest_same x xs y ys one other tied same key =
      split_by (cmp key x.0)
      (λ less.
      nothing_behind key xs (behind cmp o key x.0 (keys xs) less (up_first cmp x.0 (keys xs) one.ascending))
      ∙ sym (nothing_behind key ys (behind cmp o key y.0 (keys ys) (ap (cmp key) (sym tied) ∙ less) (up_first cmp y.0 (keys ys) other.ascending))))
      (λ equal.
      let e : key ≡ x.0 = o.same key x.0 equal in
      let f : key ≡ y.0 = e ∙ tied in
      ap (λ k. in_groups cmp k xs) e ∙ nothing_behind x.0 xs (up_first cmp x.0 (keys xs) one.ascending)
      ∙ sym (ap (λ k. in_groups cmp k ys) f ∙ nothing_behind y.0 ys (up_first cmp y.0 (keys ys) other.ascending)))
      (λ more.
      let apart : eq_by_cmp cmp key x.0 ≡ false = rw more refl in
      let apart' : eq_by_cmp cmp key y.0 ≡ false = ap (eq_by_cmp cmp key) (sym tied) ∙ apart in
      let left : in_groups cmp key (x ∷ xs) ≡ in_groups cmp key xs = rw apart refl in
      let right : in_groups cmp key (y ∷ ys) ≡ in_groups cmp key ys = rw apart' refl in
      sym left ∙ (same key ∙ right))

  group_same : (x y : K × List P) → x.0 ≡ y.0 → x.1 ≡ y.1 → x ≡ y
  group_same (a, b) (c, d) e f = rw (e, f) refl

  pub groups_once : (xs ys : List (K × List P)) → AreOrdered cmp xs → AreOrdered cmp ys → ((key : K) → in_groups cmp key xs ≡ in_groups cmp key ys) → xs ≡ ys
  groups_once [] [] one other same = refl
  groups_once [] (y ∷ ys) one other same = absurd (not_alone y ys other (sym (same y.0)))
  groups_once (x ∷ xs) [] one other same = absurd (not_alone x xs one (same x.0))
  groups_once (x ∷ xs) (y ∷ ys) one other same =
      split_by (cmp x.0 y.0)
      (λ less. absurd (not_before x xs y ys one other (same x.0) less))
      (λ equal.
      let tied : x.0 ≡ y.0 = o.same x.0 y.0 equal in
      let values : x.1 ≡ y.1 = sym (first_has x xs one) ∙ (same x.0 ∙ (ap (λ k. in_groups cmp k (y ∷ ys)) tied ∙ first_has y ys other)) in
      let others : xs ≡ ys = groups_once xs ys (ordered_rest x xs one) (ordered_rest y ys other) (rest_same x xs y ys one other tied same) in
      ap (λ (group : K × List P). group ∷ xs) (group_same x y tied values) ∙ ap (λ (groups : List (K × List P)). y ∷ groups) others)
      (λ more.
      let less : cmp y.0 x.0 ≡ Less = o.total.antisymm y.0 x.0 ∙ ap ordering_reverse more in
      absurd (not_before y ys x xs other one (sym (same y.0)) less))
