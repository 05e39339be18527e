-- Numbers that ascend: parts of them, and what stands at one place.
use Rattle.std.proofs.Common.{ℕ, zero, suc, ◌+◌, ◌<◌, ◌≤◌, Bool, List, [], ◌∷◌, ◌++◌, length, get_or, map, filter, arith}
use Rattle.layout.proofs.Goes.{split}
use Rattle.layout.specs.Ascending.{Ascend}

pub ascend_end : (numbers : List ℕ) (from end : ℕ) → Ascend from numbers end → from ≤ end
ascend_end [] from end is = is
ascend_end (n ∷ numbers) from end is = omega (arith, is.0, ascend_end numbers (n + 1) end is.1)

pub ascend_wider : (numbers : List ℕ) (from less end more : ℕ) → less ≤ from → end ≤ more → Ascend from numbers end → Ascend less numbers more
ascend_wider [] from less end more h k is = omega (arith, h, k, is)
ascend_wider (n ∷ numbers) from less end more h k is = (omega (arith, h, is.0), ascend_wider numbers (n + 1) (n + 1) end more (omega arith) k is.1)

-- ---- in two parts

-- where the first part ends
abbrev pub middle : ℕ → List ℕ → ℕ
middle from [] = from
middle from (n ∷ numbers) = middle (n + 1) numbers

pub ascend_first : (xs ys : List ℕ) (from end : ℕ) → Ascend from (xs ++ ys) end → Ascend from xs (middle from xs)
ascend_first [] ys from end is = omega arith
ascend_first (n ∷ xs) ys from end is = (is.0, ascend_first xs ys (n + 1) end is.1)

pub ascend_second : (xs ys : List ℕ) (from end : ℕ) → Ascend from (xs ++ ys) end → Ascend (middle from xs) ys end
ascend_second [] ys from end is = is
ascend_second (n ∷ xs) ys from end is = ascend_second xs ys (n + 1) end is.1

pub ascend_both : (xs ys : List ℕ) (from mid end : ℕ) → Ascend from xs mid → Ascend mid ys end → Ascend from (xs ++ ys) end
ascend_both [] ys from mid end one two = ascend_wider ys mid from end end one (omega arith) two
ascend_both (n ∷ xs) ys from mid end one two = (one.0, ascend_both xs ys (n + 1) mid end one.1 two)

-- ---- at a place

pub ascend_at : (numbers : List ℕ) (from end place d : ℕ) → Ascend from numbers end → place < length numbers → (from ≤ get_or numbers place d) × (get_or numbers place d < end)
ascend_at [] from end place d is h = absurd (omega arith)
ascend_at (n ∷ numbers) from end zero d is h = (is.0, omega (arith, ascend_end numbers (n + 1) end is.1))
ascend_at (n ∷ numbers) from end (suc place) d is h =
    let rest = ascend_at numbers (n + 1) end place d is.1 (omega (arith, h)) in
    (omega (arith, is.0, rest.0), rest.1)

pub ascend_two : (numbers : List ℕ) (from end one two d : ℕ) → Ascend from numbers end → one < two → two < length numbers → get_or numbers one d < get_or numbers two d
ascend_two [] from end one two d is h k = absurd (omega arith)
ascend_two (n ∷ numbers) from end one zero d is h k = absurd (omega (arith, h))
ascend_two (n ∷ numbers) from end zero (suc two) d is h k = omega (arith, (ascend_at numbers (n + 1) end two d is.1 (omega (arith, k))).0)
ascend_two (n ∷ numbers) from end (suc one) (suc two) d is h k = ascend_two numbers (n + 1) end one two d is.1 (omega (arith, h)) (omega (arith, k))

-- ---- fewer of them

pub ascend_filter : {A : Type 0} (number : A → ℕ) (test : A → Bool) (xs : List A) (from end : ℕ) → Ascend from (map number xs) end → Ascend from (map number (filter test xs)) end
ascend_filter number test [] from end is = is
ascend_filter number test (x ∷ xs) from end is =
    split (test x)
    (λ stays. rw stays (is.0, ascend_filter number test xs (number x + 1) end is.1))
    (λ goes. rw goes (ascend_wider (map number (filter test xs)) (number x + 1) from end end (omega (arith, is.0)) (omega arith) (ascend_filter number test xs (number x + 1) end is.1)))
