-- Names that ascend, seen from one of them: where another name can stand before, at and after it.
use Rattle.std.proofs.Common.{◌≡◌, ℕ, zero, suc, ◌+◌, ◌<◌, List as Seq, [], ◌∷◌, map, length, take, drop, get_or, refl, sym, ap, ◌∙◌, subst, arith, add-one, Some, None, Ordering, Less, Equal, Greater, nat_cmp, is_eq, bytes_eq}
use Rattle.std.proofs.lemmas.Cmp.{nat_list_cmp_total}
use Rattle.std.proofs.lemmas.Map.Lookups.{exact_bytes}
use Rattle.std.proofs.lemmas.Map.Text.{is_eq-slice_cmp}
use Rattle.std.specs.Cmp.Lexicographic.{slice_cmp}
use Rattle.std.specs.List.{AllByRecursion}
use Rattle.std.specs.List.Sorted.{IsStrictlySortedBy}
use Rattle.std.specs.Ordering.{ordering_reverse}
use Rattle.tree_json.specs.Names.{IsAscending}
use Rattle.tree_json.specs.Value.{members_of, member_of}
use Rattle.tree_json.specs.View.{view, entries}
use Rattle.tree_json.specs.declared.value.Json.{Json}

abbrev Pair : Type 0
Pair = Seq ℕ × Json

abbrev compared : Seq ℕ → Seq ℕ → Ordering
compared = slice_cmp nat_cmp

-- each name comes after k
abbrev AllAfter : Seq ℕ → Seq Pair → Type 0
AllAfter k ms = AllByRecursion (λ y. compared k y ≡ Less) (map (λ m. m.0) (entries ms))

-- ---- a comparison's answer as a test

same_from : (k name : Seq ℕ) (r : Ordering) → compared k name ≡ r → bytes_eq k name ≡ is_eq r
same_from k name r h = sym (is_eq-slice_cmp k name) ∙ ap is_eq h

pub reversed : (x y : Seq ℕ) (r : Ordering) → compared x y ≡ r → compared y x ≡ ordering_reverse r
reversed x y r h = nat_list_cmp_total.antisymm y x ∙ ap ordering_reverse h

-- ---- one name against a list

pub after_at : (k : Seq ℕ) (ms : Seq Pair) (i : ℕ) (m : Pair) → AllAfter k ms → i < length ms → m ≡ get_or ms i m → compared k m.0 ≡ Less
after_at k [] i m all h e = absurd (omega arith)
after_at k (x ∷ ms) zero m all h e = subst (λ (p : Pair). compared k p.0 ≡ Less) (sym e) all.0
after_at k (x ∷ ms) (suc i) m all h e = let more : i < length ms = omega arith in after_at k ms i m all.1 more e

after-take : (k : Seq ℕ) (ms : Seq Pair) (i : ℕ) → AllAfter k ms → AllAfter k (take i ms)
after-take k [] zero all = tt
after-take k [] (suc i) all = tt
after-take k (x ∷ ms) zero all = tt
after-take k (x ∷ ms) (suc i) all = (all.0, after-take k ms i all.1)

none_after : (name k : Seq ℕ) (ms : Seq Pair) → compared name k ≡ Less → AllAfter k ms → member_of (members_of (entries ms)) name ≡ None
none_after name k [] less all = refl
none_after name k (x ∷ ms) less all =
    let above = nat_list_cmp_total.trans name k x.0 less all.0 in
    rw (same_from x.0 name Greater (reversed name x.0 Less above)) (none_after name k ms less all.1)

-- ---- the three answers at place i

pub after_less : (ms : Seq Pair) (i : ℕ) (m : Pair) (name : Seq ℕ) → IsAscending (entries ms) → i < length ms → m ≡ get_or ms i m → compared m.0 name ≡ Less
    → IsAscending (entries (drop (i + 1) ms)) × (member_of (members_of (entries (drop (i + 1) ms))) name ≡ member_of (members_of (entries ms)) name)
unfolding IsStrictlySortedBy
after_less [] i m name up h e less = absurd (omega arith)
after_less (x ∷ ms) zero m name up h e less = (up.1, rw (same_from x.0 name Less (subst (λ (p : Pair). compared p.0 name ≡ Less) e less)) refl)
after_less (x ∷ ms) (suc i) m name up h e less =
    let more : i < length ms = omega arith in
    let below = nat_list_cmp_total.trans x.0 m.0 name (after_at x.0 ms i m up.0 more e) less in
    let rest = rw add-one at (after_less ms i m name up.1 more e less) in
    rw add-one (rest.0, rw (same_from x.0 name Less below) rest.1)

pub before_greater : (ms : Seq Pair) (i : ℕ) (m : Pair) (name : Seq ℕ) → IsAscending (entries ms) → i < length ms → m ≡ get_or ms i m → compared m.0 name ≡ Greater
    → IsAscending (entries (take i ms)) × (member_of (members_of (entries (take i ms))) name ≡ member_of (members_of (entries ms)) name)
unfolding IsStrictlySortedBy
before_greater [] i m name up h e greater = absurd (omega arith)
before_greater (x ∷ ms) zero m name up h e greater =
    let above = subst (λ (p : Pair). compared p.0 name ≡ Greater) e greater in
    (tt, rw (same_from x.0 name Greater above) (sym (none_after name x.0 ms (reversed x.0 name Greater above) up.0)))
before_greater (x ∷ ms) (suc i) m name up h e greater =
    let more : i < length ms = omega arith in
    let rest = before_greater ms i m name up.1 more e greater in
    ((after-take x.0 ms i up.0, rest.0), rw rest.1 refl)

pub found_equal : (ms : Seq Pair) (i : ℕ) (m : Pair) (name : Seq ℕ) → IsAscending (entries ms) → i < length ms → m ≡ get_or ms i m → compared m.0 name ≡ Equal
    → member_of (members_of (entries ms)) name ≡ Some (view m.1)
unfolding IsStrictlySortedBy
found_equal [] i m name up h e equal = absurd (omega arith)
found_equal (x ∷ ms) zero m name up h e equal = rw (same_from x.0 name Equal (subst (λ (p : Pair). compared p.0 name ≡ Equal) e equal)) (ap (λ (p : Pair). Some (view p.1)) (sym e))
found_equal (x ∷ ms) (suc i) m name up h e equal =
    let more : i < length ms = omega arith in
    let below = subst (λ (n : Seq ℕ). compared x.0 n ≡ Less) (exact_bytes m.0 name equal) (after_at x.0 ms i m up.0 more e) in
    rw (same_from x.0 name Less below) (found_equal ms i m name up.1 more e equal)

pub ruleset halves = (after_less, before_greater, found_equal)
