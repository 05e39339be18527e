-- A page of rows, without those that come before it.
use Rattle.std.specs.Prelude.{◌≡◌, ℕ, suc, ◌+◌, ◌-◌, ◌<◌, ◌≤◌, Bool, true, false, not, List, [], ◌∷◌, ◌++◌, take, drop, filter, length, get_or, refl}
use Rattle.std.specs.Cmp.{IsStrictWeakOrder}
use Rattle.std.specs.List.{count_by}
use Rattle.std.specs.List.Sorted.{IsPermutation, IsSplitAroundBy}
use Rattle.std.proofs.Common.{arith, ap, sym, ◌∙◌}
use Rattle.std.proofs.lemmas.Bool.{true≢false}
use Rattle.std.proofs.lemmas.List.{drop_all, drop-drop, drop-take, length-take}
use Rattle.std.proofs.lemmas.List.Sorted.{sum_by-IsPermutation}
use Rattle.std.proofs.lemmas.List.Sums.{length-filter, sum_by-cons}
use Rattle.query_ast.specs.Compare.{in_order}
use Rattle.hit_order.specs.Indexed.{first_of}
use Rattle.hit_order.proofs.Cutting.{Laws}
use Rattle.hit_order.proofs.Parting.{behind_near, one}
use Rattle.hit_order.proofs.Selecting.{length-in_order, split}

pub none_there : (lt : ℕ → ℕ → Bool) (from most : ℕ) (rows : List ℕ) → length rows ≤ from → [] ≡ drop from (first_of lt most rows)
none_there lt from most rows few =
    sym (drop_all from (first_of lt most rows) (omega (arith, few, length-take most (in_order lt rows), length-in_order lt rows)))

-- ---- a row that few come before

module _ (lt : ℕ → ℕ → Bool) (o : IsStrictWeakOrder lt) (row : ℕ) where
  itself : lt row row ≡ false
  itself = split (lt row row) (λ yes. o.one_way row row yes) (λ no. no)

  none_of : (back : List ℕ) → ((k d : ℕ) → k < length back → lt (get_or back k d) row ≡ false) → count_by (λ other. lt other row) back ≡ 0
  none_of [] not_less = refl
  none_of (x ∷ back) not_less =
      let own : one (lt x row) ≡ 0 = rw (not_less 0 x (omega arith)) refl in
      omega (arith, own, sum_by-cons (λ other. one (lt other row)) x back, none_of back (λ k d below. not_less (suc k) d (omega (arith, below))))

  few_of : (front back : List ℕ) → ((k d : ℕ) → k < length back → lt (get_or back k d) row ≡ false) → count_by (λ other. lt other row) (front ++ row ∷ back) ≤ length front
  few_of [] back not_less =
      let own : one (lt row row) ≡ 0 = rw itself refl in
      omega (arith, own, sum_by-cons (λ other. one (lt other row)) row back, none_of back not_less)
  few_of (x ∷ front) back not_less =
      let own : one (lt x row) ≤ 1 = split (lt x row) (λ yes. rw yes (omega arith)) (λ no. rw no (omega arith)) in
      omega (arith, own, sum_by-cons (λ other. one (lt other row)) x (front ++ row ∷ back), few_of front back not_less)

  pub few_before : (rows front back : List ℕ) → IsPermutation rows (front ++ row ∷ back) → IsSplitAroundBy lt front row back → length (filter (λ other. lt other row) rows) ≤ length front
  few_before rows front back moved cut =
      omega (
        arith,
        length-filter (λ other. lt other row) rows,
        sum_by-IsPermutation (λ other. one (lt other row)) rows (front ++ row ∷ back) moved,
        few_of front back cut.1,
      )

-- ---- the rows that are left

before_down : (lt : ℕ → ℕ → Bool) → IsStrictWeakOrder lt → (first x y : ℕ) → lt x y ≡ false → lt x first ≡ true → lt y first ≡ true
before_down lt o first x y behind before =
    split (lt y first) (λ yes. yes) (λ no. absurd (true≢false (sym before ∙ o.chain x y first behind no)))

pub page_is : (lt : ℕ → ℕ → Bool) → Laws lt → (from most first skipped : ℕ) (rows rest : List ℕ) → rest ≡ filter (λ row. not (lt row first)) rows → skipped ≡ length (filter (λ row. lt row first) rows) → skipped ≤ from → from ≤ most
    → drop (from - skipped) (first_of lt (most - skipped) rest) ≡ drop from (first_of lt most rows)
page_is lt laws from most first skipped rows rest is count few within =
    let all = in_order lt rows in
    let near : ℕ → Bool = λ row. lt row first in
    let left : in_order lt rest ≡ drop skipped all =
    ap (in_order lt) is ∙ (behind_near near lt laws.order (before_down lt laws.order first) rows ∙ ap (λ n. drop n all) (sym count)) in
    let upto : skipped + (most - skipped) ≡ most = omega (arith, few, within) in
    let on : skipped + (from - skipped) ≡ from = omega (arith, few) in
    ap (λ ys. drop (from - skipped) (take (most - skipped) ys)) left
    ∙ (ap (drop (from - skipped)) (sym (drop-take skipped (most - skipped) all) ∙ ap (λ n. drop skipped (take n all)) upto)
    ∙ (drop-drop (from - skipped) skipped (take most all) ∙ ap (λ n. drop n (take most all)) on))
