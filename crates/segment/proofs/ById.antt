-- Roots in the order of their ids, searched by halves.
use Rattle.std.proofs.Common.{◌≡◌, ◌↔◌, ℕ, zero, suc, ◌+◌, ◌-◌, ◌<◌, ◌≤◌, true, false, List, length, map, get_or, take, drop, refl, [], ◌∷◌, ◌++◌, sym, ap, subst, ◌∙◌, inl, inr, arith, Contains}
use Rattle.std.specs.List.{All, range_with_len}
use Rattle.std.specs.List.Sorted.{IsPermutation, IsSortedByKey}
use Rattle.std.specs.Ordering.{nat_cmp, ordering_index, is_eq, is_lt}
use Rattle.std.specs.Cmp.Lexicographic.{slice_cmp}
use Rattle.std.specs.declared.cmp.Ordering.{Ordering}
use Rattle.std.specs.declared.cmp.Ordering.TheVariants.{Less, Equal, Greater}
use Rattle.std.proofs.lemmas.Bool.{cases_lt}
use Rattle.std.proofs.lemmas.Cmp.{nat_list_cmp_total, tied_itself}
use Rattle.std.proofs.lemmas.List.{get_or_default, get_or-drop, get_or-map, get_or-take, length-drop, length-map, length-take-le}
use Rattle.std.proofs.lemmas.List.FromFn.{get_or-range_with_len, length-range_with_len}
use Rattle.std.proofs.lemmas.List.Sorted.{searchable_from_sorted, All-permutation, Contains-permutation, IsPermutation-map, IsPermutation-sym}
use Rattle.std.proofs.lemmas.Map.Text.{is_eq-slice_cmp}
use Rattle.std.proofs.lemmas.Slice.Eq.{bytes_eq-Decides}
use Rattle.stored_sources.specs.declared.root.Root.{Root}
use Rattle.segment.specs.declared.by_id.Named.{Named}
use Rattle.segment.specs.Ids.{id_of, rank, AreById, AreUpTo}

pub rises : (roots : List Root) (order id : List ℕ) → AreById roots order → (i j : ℕ) → i ≤ j → j < length order → rank roots order id i ≤ rank roots order id j
rises roots order id are i j up inside = searchable_from_sorted nat_list_cmp_total (id_of roots) order id are.sorted i j 0 up inside

pub all_before : (roots : List Root) (order id : List ℕ) → AreById roots order → (middle most : ℕ) → middle < length order → rank roots order id middle < most → (at : ℕ) → at < middle + 1 → rank roots order id at < most
all_before roots order id are middle most inside here at below = omega (arith, rises roots order id are at middle (omega (arith, below)) inside, here)

pub all_after : (roots : List Root) (order id : List ℕ) → AreById roots order → (middle most : ℕ) → most ≤ rank roots order id middle → (at : ℕ) → middle ≤ at → at < length order → most ≤ rank roots order id at
all_after roots order id are middle most here at from inside = omega (arith, rises roots order id are middle at from inside, here)

-- a root's id compares as equal where it is the id, and only there
equal_index : (o : Ordering) → 1 ≤ ordering_index o → ordering_index o < 2 → is_eq o ≡ true
equal_index Less from to = absurd (omega arith)
equal_index Equal from to = refl
equal_index Greater from to = absurd (omega arith)

same_id : (a b : List ℕ) → 1 ≤ ordering_index (slice_cmp nat_cmp a b) → ordering_index (slice_cmp nat_cmp a b) < 2 → a ≡ b
same_id a b from to = (bytes_eq-Decides a b).0 (sym (is_eq-slice_cmp a b) ∙ equal_index (slice_cmp nat_cmp a b) from to)

index_itself : (a : List ℕ) → ordering_index (slice_cmp nat_cmp a a) ≡ 1
index_itself a = ap ordering_index (tied_itself nat_list_cmp_total a)

-- ---- the list made

range_apart : (a n : ℕ) → range_with_len a (n + 1) ≡ range_with_len a n ++ (a + n) ∷ []
range_apart a zero = let here : a ≡ a + 0 = omega arith in ap (λ (m : ℕ). m ∷ []) here
range_apart a (suc n) =
    let more : suc n + 1 ≡ suc (n + 1) = omega arith in
    let next : a + 1 + n ≡ a + suc n = omega arith in
    rw more (ap (λ (ms : List ℕ). a ∷ ms) (range_apart (a + 1) n ∙ ap (λ (m : ℕ). range_with_len (a + 1) n ++ m ∷ []) next))

pub range_more : (n : ℕ) → range_with_len 0 n ++ n ∷ [] ≡ range_with_len 0 (n + 1)
range_more n = let same : n ≡ 0 + n = omega arith in ap (λ (m : ℕ). range_with_len 0 n ++ m ∷ []) same ∙ sym (range_apart 0 n)

in_range : (n root : ℕ) → Contains (range_with_len 0 n) root ↔ root < n
in_range n root = (
  λ there.
      let inside : there.0 < n = omega (arith, there.1, length-range_with_len 0 n) in
      let is : 0 + there.0 ≡ root = sym (get_or-range_with_len 0 n there.0 root inside) ∙ there.2 in
      omega (arith, is, inside),
  λ below. (root, omega (arith, below, length-range_with_len 0 n), get_or-range_with_len 0 n root root below ∙ omega arith),
)

abbrev number : Named → ℕ
number one = one.root

abbrev HasOwnId : List Root → Named → Type 0
HasOwnId roots one = one.id.now ≡ id_of roots one.root

sorted_roots : (roots : List Root) (named : List Named) → All (HasOwnId roots) named → IsSortedByKey (λ (one : Named). one.id.now) (slice_cmp nat_cmp) named → IsSortedByKey (id_of roots) (slice_cmp nat_cmp) (map number named)
sorted_roots roots [] own sorted k d from below = absurd (omega arith)
sorted_roots roots (first ∷ rest) own sorted k d from below =
    let named : List Named = first ∷ rest in
    let long : length (map number named) ≡ length named = length-map named number in
    let key : (at : ℕ) → at < length named → id_of roots (get_or (map number named) at d) ≡ (get_or named at first).id.now =
    λ at inside. ap (id_of roots) (get_or-map number named at first d inside) ∙ sym (own at first inside) in
    let later : k + 1 < length named = omega (arith, below, long) in
    ap (λ (id : List ℕ). is_lt (slice_cmp nat_cmp id (id_of roots (get_or (map number named) k d)))) (key (k + 1) later)
    ∙ ap (λ (id : List ℕ). is_lt (slice_cmp nat_cmp (get_or named (k + 1) first).id.now id)) (key k (omega (arith, later)))
    ∙ sorted k first from later

pub sorted_by_id : (roots : List Root) (named sorted : List Named) (order : List ℕ) → map number named ≡ range_with_len 0 (length roots) → All (HasOwnId roots) named → IsPermutation named sorted
    → IsSortedByKey (λ (one : Named). one.id.now) (slice_cmp nat_cmp) sorted → order ≡ map number sorted → AreById roots order
sorted_by_id roots named sorted order are own moved up is =
    let same : IsPermutation (map number named) (map number sorted) = IsPermutation-map number named sorted moved in
    subst (AreById roots) (sym is) (record {
      all = λ root. (
        λ there. (in_range (length roots) root).0 (subst (λ (ns : List ℕ). Contains ns root) are (Contains-permutation (map number sorted) (map number named) root (IsPermutation-sym (map number named) (map number sorted) same) there)),
        λ below. Contains-permutation (map number named) (map number sorted) root same (subst (λ (ns : List ℕ). Contains ns root) (sym are) ((in_range (length roots) root).1 below)),
      );
      sorted = sorted_roots roots sorted (All-permutation (HasOwnId roots) named sorted moved own) up;
    })

-- ---- the roots between those before an id and those up to it

pub one_there : (roots : List Root) (order : List ℕ) (at : ℕ) → AreById roots order → at < length order → get_or order at 0 < length roots
one_there roots order at are inside = (are.all (get_or order at 0)).0 (at, inside, get_or_default order at (get_or order at 0) 0 inside)

pub between : (roots : List Root) (order id : List ℕ) (first end : ℕ) → AreById roots order → AreUpTo roots order id false first → AreUpTo roots order id true end
    → (root : ℕ) → Contains (take (end - first) (drop first order)) root ↔ ((root < length roots) × (id_of roots root ≡ id))
between roots order id first end are low high root = (from, to)
  where
    own : List ℕ
    own = take (end - first) (drop first order)

    long : length own ≡ end - first
    long = length-take-le (end - first) (drop first order) (omega (arith, length-drop first order, high.within))

    read : (k d : ℕ) → k < end - first → get_or own k d ≡ get_or order (first + k) d
    read k d below = get_or-take (end - first) (drop first order) k d below ∙ get_or-drop first order k d

    from : Contains own root → (root < length roots) × (id_of roots root ≡ id)
    from there =
        let below : there.0 < end - first = omega (arith, there.1, long) in
        let at : ℕ = first + there.0 in
        let inside : at < length order = omega (arith, below, high.within) in
        let is : get_or order at 0 ≡ root = get_or_default order at 0 root inside ∙ sym (read there.0 root below) ∙ there.2 in
        let same : id_of roots (get_or order at 0) ≡ id = same_id (id_of roots (get_or order at 0)) id (low.after at (omega arith) inside) (high.before at (omega (arith, below))) in
        (subst (λ (n : ℕ). n < length roots) is (one_there roots order at are inside), ap (id_of roots) (sym is) ∙ same)

    to : (root < length roots) × (id_of roots root ≡ id) → Contains own root
    to has =
        let there = (are.all root).1 has.0 in
        let at : ℕ = there.0 in
        let is : get_or order at 0 ≡ root = get_or_default order at 0 root there.1 ∙ there.2 in
        let one : rank roots order id at ≡ 1 = ap (λ (n : ℕ). ordering_index (slice_cmp nat_cmp (id_of roots n) id)) is ∙ ap (λ (own : List ℕ). ordering_index (slice_cmp nat_cmp own id)) has.1 ∙ index_itself id in
        elim (cases_lt at first) [
          | inl early ↦ absurd (omega (arith, low.before at early, one))
          | inr from ↦ elim (cases_lt at end) [
            | inl below ↦
                let k : ℕ = at - first in
                let on : first + k ≡ at = omega (arith, from) in
                (k, omega (arith, long, from, below), read k root (omega (arith, from, below)) ∙ ap (λ (n : ℕ). get_or order n root) on ∙ there.2)
            | inr past ↦ absurd (omega (arith, high.after at past there.1, one))
          ]
        ]
