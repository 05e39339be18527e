-- No two segments that are made have the same number: each that is made has one above all that stand behind it.
use Rattle.std.proofs.Common.{◌≡◌, ℕ, zero, suc, ◌+◌, ◌<◌, ◌≤◌, cond, List, [], ◌∷◌, length, map, filter, get_or, Option, Some, None, Result, Ok, Err, refl, sym, subst, arith}
use Rattle.std.specs.Prelude.{IfOk}
use Rattle.layout.proofs.Goes.{split}
use Rattle.merge_policy.proofs.Counting.{anew_few}
use Rattle.merge_policy.proofs.Passes.{put, anew}
use Rattle.merge_policy.specs.Policy.{run_in, standing_from, stays, is_uneven, put_before, all_even, is_too_dead, all_anew, evened_from, settled_runs}
use Rattle.merge_policy.specs.Runs.{AreApart, HaveOwnNumbers}
use Rattle.merge_policy.specs.declared.counts.SegmentCount.{SegmentCount}
use Rattle.merge_policy.specs.declared.neighbours.Neighbour.{Neighbour}
use Rattle.merge_policy.specs.declared.runs.Run.{Run}
use Rattle.merge_policy.specs.declared.runs.SettledRuns.{SettledRuns}

-- ---- numbers below a number

abbrev pub Below : ℕ → Option ℕ → Type 0
Below n None = Unit {0}
Below n (Some m) = m < n

abbrev pub AllBelow : ℕ → List Neighbour → Type 0
AllBelow n [] = Unit {0}
AllBelow n (a ∷ ns) = Below n a.run.made × AllBelow n ns

below_more : (n k : ℕ) (m : Option ℕ) → n ≤ k → Below n m → Below k m
below_more n k None h b = tt
below_more n k (Some m) h b = omega (arith, h, b)

all_below_more : (n k : ℕ) (ns : List Neighbour) → n ≤ k → AllBelow n ns → AllBelow k ns
all_below_more n k [] h b = tt
all_below_more n k (a ∷ ns) h b = (below_more n k a.run.made h b.0, all_below_more n k ns h b.1)

-- ---- one number beside others

abbrev pub ApartFrom : Option ℕ → List Neighbour → Type 0
ApartFrom m [] = Unit {0}
ApartFrom m (a ∷ ns) = AreApart m a.run.made × ApartFrom m ns

abbrev pub Apart : List Neighbour → Type 0
Apart [] = Unit {0}
Apart (a ∷ ns) = ApartFrom a.run.made ns × Apart ns

apart_none : (m : Option ℕ) → AreApart None m
apart_none None = tt
apart_none (Some m) = tt

apart_above : (n : ℕ) (m : Option ℕ) → Below n m → AreApart (Some n) m
apart_above n None b = tt
apart_above n (Some m) b = λ e. absurd (omega (arith, b, e))

apart_below : (n k : ℕ) (m : Option ℕ) → n ≤ k → Below n m → AreApart m (Some k)
apart_below n k None h b = tt
apart_below n k (Some m) h b = λ e. absurd (omega (arith, h, b, e))

none_apart : (ns : List Neighbour) → ApartFrom None ns
none_apart [] = tt
none_apart (a ∷ ns) = (apart_none a.run.made, none_apart ns)

above_apart : (n : ℕ) (ns : List Neighbour) → AllBelow n ns → ApartFrom (Some n) ns
above_apart n [] b = tt
above_apart n (a ∷ ns) b = (apart_above n a.run.made b.0, above_apart n ns b.1)

-- ---- what stands wasn't made

abbrev pub NoneMade : List Neighbour → Type 0
NoneMade [] = Unit {0}
NoneMade (a ∷ ns) = (a.run.made ≡ None) × NoneMade ns

standing_none : (from : ℕ) (cs : List SegmentCount) → NoneMade (standing_from from cs)
standing_none from [] = tt
standing_none from (c ∷ cs) = (refl, standing_none (from + 1) cs)

left_none : (ns : List Neighbour) → NoneMade ns → NoneMade (filter stays ns)
left_none [] h = tt
left_none (a ∷ ns) h =
    split (stays a)
    (λ t. subst (λ b. NoneMade (cond b (a ∷ filter stays ns) (filter stays ns))) (sym t) (h.0, left_none ns h.1))
    (λ f. subst (λ b. NoneMade (cond b (a ∷ filter stays ns) (filter stays ns))) (sym f) (left_none ns h.1))

-- ---- uneven neighbours

put_below : (factor : ℕ) (a : Neighbour) (ns : List Neighbour) (made : ℕ) → a.run.made ≡ None → AllBelow made ns → AllBelow (put_before factor a ns made).made (put_before factor a ns made).neighbours
put_below factor a [] made none b = (subst (Below made) (sym none) tt, tt)
put_below factor a (c ∷ later) made none b =
    split (is_uneven factor a c)
    (λ t. subst (λ x. AllBelow (put factor a c later made x).made (put factor a c later made x).neighbours) (sym t) (omega arith, all_below_more made (made + 1) later (omega arith) b.1))
    (λ f. subst (λ x. AllBelow (put factor a c later made x).made (put factor a c later made x).neighbours) (sym f) (subst (Below made) (sym none) tt, b))

even_below : (factor : ℕ) (ns : List Neighbour) → NoneMade ns → AllBelow (all_even factor ns).made (all_even factor ns).neighbours
even_below factor [] h = tt
even_below factor (a ∷ ns) h = put_below factor a (all_even factor ns).neighbours (all_even factor ns).made h.0 (even_below factor ns h.1)

put_apart : (factor : ℕ) (a : Neighbour) (ns : List Neighbour) (made : ℕ) → a.run.made ≡ None → AllBelow made ns → Apart ns → Apart (put_before factor a ns made).neighbours
put_apart factor a [] made none b h = (tt, tt)
put_apart factor a (c ∷ later) made none b h =
    split (is_uneven factor a c)
    (λ t. subst (λ x. Apart (put factor a c later made x).neighbours) (sym t) (above_apart made later b.1, h.1))
    (λ f. subst (λ x. Apart (put factor a c later made x).neighbours) (sym f) (subst (λ m. ApartFrom m (c ∷ later)) (sym none) (none_apart (c ∷ later)), h))

even_apart : (factor : ℕ) (ns : List Neighbour) → NoneMade ns → Apart (all_even factor ns).neighbours
even_apart factor [] h = tt
even_apart factor (a ∷ ns) h =
    put_apart factor a (all_even factor ns).neighbours (all_even factor ns).made h.0 (even_below factor ns h.1) (even_apart factor ns h.1)

-- ---- what is made anew

anew_below : (made : ℕ) (ns : List Neighbour) → AllBelow made ns → AllBelow (all_anew made ns).made (all_anew made ns).neighbours
anew_below made [] b = tt
anew_below made (a ∷ ns) b =
    let later : List Neighbour = (all_anew made ns).neighbours in
    let more : ℕ = (all_anew made ns).made in
    let rest = anew_below made ns b.1 in
    split (is_too_dead a)
    (λ t. subst (λ x. AllBelow (anew a later more x).made (anew a later more x).neighbours) (sym t) (omega arith, all_below_more more (more + 1) later (omega arith) rest))
    (λ f. subst (λ x. AllBelow (anew a later more x).made (anew a later more x).neighbours) (sym f) (below_more made more a.run.made (anew_few made ns).0 b.0, rest))

anew_from : (made : ℕ) (m : Option ℕ) (ns : List Neighbour) → Below made m → ApartFrom m ns → ApartFrom m (all_anew made ns).neighbours
anew_from made m [] b h = tt
anew_from made m (a ∷ ns) b h =
    let later : List Neighbour = (all_anew made ns).neighbours in
    let more : ℕ = (all_anew made ns).made in
    split (is_too_dead a)
    (λ t. subst (λ x. ApartFrom m (anew a later more x).neighbours) (sym t) (apart_below made more m (anew_few made ns).0 b, anew_from made m ns b h.1))
    (λ f. subst (λ x. ApartFrom m (anew a later more x).neighbours) (sym f) (h.0, anew_from made m ns b h.1))

anew_apart : (made : ℕ) (ns : List Neighbour) → AllBelow made ns → Apart ns → Apart (all_anew made ns).neighbours
anew_apart made [] b h = tt
anew_apart made (a ∷ ns) b h =
    let later : List Neighbour = (all_anew made ns).neighbours in
    let more : ℕ = (all_anew made ns).made in
    split (is_too_dead a)
    (λ t. subst (λ x. Apart (anew a later more x).neighbours) (sym t) (above_apart more later (anew_below made ns b.1), anew_apart made ns b.1 h.1))
    (λ f. subst (λ x. Apart (anew a later more x).neighbours) (sym f) (anew_from made a.run.made ns b.0 h.0, anew_apart made ns b.1 h.1))

-- ---- of the runs

at_from : (m : Option ℕ) (ns : List Neighbour) (j : ℕ) (d : Run) → ApartFrom m ns → j < length (map run_in ns) → AreApart m (get_or (map run_in ns) j d).made
at_from m [] j d h low = absurd (omega (arith, low))
at_from m (a ∷ ns) zero d h low = h.0
at_from m (a ∷ ns) (suc j) d h low = at_from m ns j d h.1 (omega (arith, low))

pairs_apart : (ns : List Neighbour) (i j : ℕ) (d : Run) → Apart ns → i < j → j < length (map run_in ns) → AreApart (get_or (map run_in ns) i d).made (get_or (map run_in ns) j d).made
pairs_apart [] i j d h k low = absurd (omega (arith, low))
pairs_apart (a ∷ ns) i zero d h k low = absurd (omega (arith, k))
pairs_apart (a ∷ ns) zero (suc j) d h k low = at_from a.run.made ns j d h.0 (omega (arith, low))
pairs_apart (a ∷ ns) (suc i) (suc j) d h k low = pairs_apart ns i j d h.1 (omega (arith, k)) (omega (arith, low))

pub settled_apart : (factor : ℕ) (cs : List SegmentCount) → HaveOwnNumbers (settled_runs factor cs)
settled_apart factor cs =
    let none = left_none (standing_from 0 cs) (standing_none 0 cs) in
    let below = even_below factor (filter stays (standing_from 0 cs)) none in
    let apart = anew_apart (evened_from factor 0 cs).made (evened_from factor 0 cs).neighbours below (even_apart factor (filter stays (standing_from 0 cs)) none) in
    λ i j d k low. pairs_apart (all_anew (evened_from factor 0 cs).made (evened_from factor 0 cs).neighbours).neighbours i j d apart k low

pub own_of : {E : Type 0} (r : Result SettledRuns E) (factor : ℕ) (cs : List SegmentCount) → IfOk r (λ s. s.runs.items ≡ settled_runs factor cs) → IfOk r (λ s. HaveOwnNumbers s.runs.items)
own_of (Ok s) factor cs runs = subst HaveOwnNumbers (sym runs) (settled_apart factor cs)
own_of (Err e) factor cs runs = tt
