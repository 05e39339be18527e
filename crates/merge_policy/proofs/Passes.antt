-- The three passes of settling, on a layout and on its runs: what `layout` calls settling is what `Policy` makes of its counts.
use Rattle.std.proofs.Common.{◌≡◌, inl, inr, ℕ, zero, suc, ◌+◌, ◌-◌, ◌*◌, ◌<◌, ◌≤◌, nat_lt, ◌==◌, Bool, true, false, not, ◌&&◌, ◌||◌, cond, List, [], ◌∷◌, ◌++◌, length, map, filter, take, drop, Some, None, refl, sym, ap, subst, ◌∙◌, append_assoc, append-nil, length-append, drop-drop, arith}
use Rattle.std.specs.List.{All, count_by, flat_map}
use Rattle.std.proofs.lemmas.Bool.{eqb-true, ltb-true, ltb-false, le-ltb}
use Rattle.std.proofs.lemmas.List.Elements.{All-head, All-tail}
use Rattle.std.proofs.lemmas.List.Sums.{sum_by-cons}
use Rattle.layout.proofs.Goes.{split, true_false}
use Rattle.layout.specs.Layout.{SegmentOf, OpenMerge, Layout, live_in, remade, is_spent, is_half_dead, are_uneven, each_remade, last_below, last_uneven, evened_at, evened, all_remade, all_evened, settled}
use Rattle.merge_policy.proofs.Places.{Has, place, moved_by}
use Rattle.merge_policy.proofs.Standing.{held_at, segs, Gap, IsRun, Stands, middle, gap_joined, no_gap, stands_first, stands_second, stands_behind, stands_both, segs_length, anew_run, joined_run, run_gap}
use Rattle.merge_policy.proofs.Steps.{mean, AreAmong, at_spent, at_half_dead, spent_step, anew_step, at_uneven, joined_step}
use Rattle.merge_policy.specs.Policy.{Settling, run_in, standing, standing_from, stays, is_uneven, joined, put_before, all_even, is_too_dead, made_anew, all_anew, settling_of, settled_runs, settled_made}
use Rattle.merge_policy.specs.Runs.{count_at, counts_from, counts_of, IsAmong, ends_before, run_segment, moved, laid_by}
use Rattle.merge_policy.specs.declared.counts.SegmentCount.{SegmentCount}
use Rattle.merge_policy.specs.declared.neighbours.Neighbour.{Neighbour}
use Rattle.merge_policy.specs.declared.runs.Run.{Run}

-- ---- tests

free_of : (h : Bool) (c : Bool) → (not h && c) ≡ true → (h ≡ false) × (c ≡ true)
free_of true c e = true_false (sym e)
free_of false c e = (refl, e)

zero_of : (n : ℕ) → (n == 0) ≡ true → n ≡ 0
zero_of n e = eqb-true n 0 e

-- what doesn't stay is spent
spent_goes : (a : Neighbour) → (not a.count.held && (a.count.live == 0)) ≡ not (stays a)
spent_goes a = tests a.count.held (a.count.live == 0) where
  tests : (h z : Bool) → (not h && z) ≡ not (h || not z)
  tests true z = refl
  tests false true = refl
  tests false false = refl

-- what is free has live items
abbrev pub Lively : List Neighbour → Type 0
Lively [] = Unit {0}
Lively (a ∷ ns) = (a.count.held ≡ false → 0 < a.count.live) × Lively ns

stays_lively : (a : Neighbour) → stays a ≡ true → a.count.held ≡ false → 0 < a.count.live
stays_lively a s free = some a.count.live (sym (ap (λ h. h || not (a.count.live == 0)) free) ∙ s) where
  some : (n : ℕ) → not (n == 0) ≡ true → 0 < n
  some zero e = true_false (sym e)
  some (suc n) e = omega arith

pub left_lively : (ns : List Neighbour) → Lively (filter stays ns)
left_lively [] = tt
left_lively (a ∷ ns) =
    split (stays a)
    (λ t. rw t (stays_lively a t, left_lively ns))
    (λ f. rw f (left_lively ns))

-- ---- runs stand after each pass as before it

pub left_stands : {A : Type 0} (start : Layout A) (ns : List Neighbour) (from end : ℕ) → Stands start from ns end → Stands start from (filter stays ns) end
left_stands start [] from end s = s
left_stands start (a ∷ ns) from end s =
    split (stays a)
    (λ t. subst (λ xs. Stands start from xs end) (sym (ap (λ b. cond b (a ∷ filter stays ns) (filter stays ns)) t)) (s.0, (s.1.0, left_stands start ns (a.run.last + 1) end s.1.1)))
    (λ f.
    let free = free_of a.count.held (a.count.live == 0) (spent_goes a ∙ ap not f) in
    let gap = gap_joined start from a.run.first (a.run.last + 1) s.0 (run_gap start a s.1.0 free.0 (zero_of a.count.live free.1)) in
    subst (λ xs. Stands start from xs end) (sym (ap (λ b. cond b (a ∷ filter stays ns) (filter stays ns)) f))
    (stands_behind start (filter stays ns) from (a.run.last + 1) end gap (left_stands start ns (a.run.last + 1) end s.1.1)))

-- of two that are uneven both are free, and the second has live items
record AreUneven (factor : ℕ) (a b : Neighbour) : Type 0 where
  first : a.count.held ≡ false
  second : b.count.held ≡ false
  less : a.count.live < factor * b.count.live

uneven_parts : (factor : ℕ) (a b : Neighbour) → is_uneven factor a b ≡ true → AreUneven factor a b
uneven_parts factor a b e =
    let one = free_of a.count.held (not b.count.held && nat_lt a.count.live (factor * b.count.live)) e in
    let two = free_of b.count.held (nat_lt a.count.live (factor * b.count.live)) one.1 in
    record { first = one.0; second = two.0; less = ltb-true a.count.live (factor * b.count.live) two.1 }

abbrev pub put : ℕ → Neighbour → Neighbour → List Neighbour → ℕ → Bool → Settling
put factor a b later made uneven = cond uneven (record { neighbours = joined made a b ∷ later; made = made + 1 }) (record { neighbours = a ∷ (b ∷ later); made = made })

put_lively : (factor : ℕ) (a : Neighbour) (ns : List Neighbour) (made : ℕ) → (a.count.held ≡ false → 0 < a.count.live) → Lively ns → Lively (put_before factor a ns made).neighbours
put_lively factor a [] made h l = (h, tt)
put_lively factor a (b ∷ later) made h l =
    split (is_uneven factor a b)
    (λ t.
    let u = uneven_parts factor a b t in
    let some = l.0 u.second in
    subst (λ x. Lively (put factor a b later made x).neighbours) (sym t) ((λ _. omega (arith, some)), l.1))
    (λ f. subst (λ x. Lively (put factor a b later made x).neighbours) (sym f) (h, l))

put_stands : {A : Type 0} (start : Layout A) (factor : ℕ) (a : Neighbour) (ns : List Neighbour) (made from end : ℕ) → Gap start from a.run.first → IsRun start a → Stands start (a.run.last + 1) ns end → Lively ns
    → Stands start from (put_before factor a ns made).neighbours end
put_stands start factor a [] made from end gap run s l = (gap, (run, s))
put_stands start factor a (b ∷ later) made from end gap run s l =
    split (is_uneven factor a b)
    (λ t.
    let u = uneven_parts factor a b t in
    subst (λ x. Stands start from (put factor a b later made x).neighbours end) (sym t)
    (gap, (joined_run start a b made run s.0 s.1.0 u.first u.second (l.0 u.second), s.1.1)))
    (λ f. subst (λ x. Stands start from (put factor a b later made x).neighbours end) (sym f) (gap, (run, s)))

pub even_lively : (factor : ℕ) (ns : List Neighbour) → Lively ns → Lively (all_even factor ns).neighbours
even_lively factor [] l = tt
even_lively factor (a ∷ ns) l = put_lively factor a (all_even factor ns).neighbours (all_even factor ns).made l.0 (even_lively factor ns l.1)

pub even_stands : {A : Type 0} (start : Layout A) (factor : ℕ) (ns : List Neighbour) (from end : ℕ) → Stands start from ns end → Lively ns → Stands start from (all_even factor ns).neighbours end
even_stands start factor [] from end s l = s
even_stands start factor (a ∷ ns) from end s l =
    put_stands start factor a (all_even factor ns).neighbours (all_even factor ns).made from end s.0 s.1.0
    (even_stands start factor ns (a.run.last + 1) end s.1.1 l.1) (even_lively factor ns l.1)

abbrev pub anew : Neighbour → List Neighbour → ℕ → Bool → Settling
anew a later made dead = cond dead (record { neighbours = made_anew made a ∷ later; made = made + 1 }) (record { neighbours = a ∷ later; made = made })

pub anew_stands : {A : Type 0} (start : Layout A) (made : ℕ) (ns : List Neighbour) (from end : ℕ) → Stands start from ns end → Lively ns → Stands start from (all_anew made ns).neighbours end
anew_stands start made [] from end s l = s
anew_stands start made (a ∷ ns) from end s l =
    let rest = anew_stands start made ns (a.run.last + 1) end s.1.1 l.1 in
    split (is_too_dead a)
    (λ t.
    let free = free_of a.count.held (nat_lt a.count.live a.count.dead) t in
    subst (λ x. Stands start from (anew a (all_anew made ns).neighbours (all_anew made ns).made x).neighbours end) (sym t)
    (s.0, (anew_run start a (all_anew made ns).made s.1.0 (l.0 free.0), rest)))
    (λ f. subst (λ x. Stands start from (anew a (all_anew made ns).neighbours (all_anew made ns).made x).neighbours end) (sym f) (s.0, (s.1.0, rest)))

-- ---- what is even

-- no two neighbours are uneven
abbrev pub EvenFirst : ℕ → Neighbour → List Neighbour → Type 0
EvenFirst factor a [] = Unit {0}
EvenFirst factor a (b ∷ later) = is_uneven factor a b ≡ false

abbrev pub Even : ℕ → List Neighbour → Type 0
Even factor [] = Unit {0}
Even factor (a ∷ ns) = EvenFirst factor a ns × Even factor ns

-- one more live item doesn't make uneven what is even
more_even : (factor made : ℕ) (a b : Neighbour) (later : List Neighbour) → b.count.held ≡ false → EvenFirst factor b later → EvenFirst factor (joined made a b) later
more_even factor made a b [] free e = tt
more_even factor made a b (c ∷ later) free e =
    split (not c.count.held)
    (λ t.
    let low : nat_lt b.count.live (factor * c.count.live) ≡ false =
    sym (ap (λ h. not h && (not c.count.held && nat_lt b.count.live (factor * c.count.live))) free ∙ ap (λ h. h && nat_lt b.count.live (factor * c.count.live)) t) ∙ e in
    let over = ltb-false b.count.live (factor * c.count.live) low in
    ap (λ h. h && nat_lt (a.count.live + b.count.live) (factor * c.count.live)) t ∙ le-ltb (a.count.live + b.count.live) (factor * c.count.live) (omega (arith, over)))
    (λ f. ap (λ h. h && nat_lt (a.count.live + b.count.live) (factor * c.count.live)) f)

put_even : (factor : ℕ) (a : Neighbour) (ns : List Neighbour) (made : ℕ) → Even factor ns → Even factor (put_before factor a ns made).neighbours
put_even factor a [] made e = (tt, tt)
put_even factor a (b ∷ later) made e =
    split (is_uneven factor a b)
    (λ t. subst (λ x. Even factor (put factor a b later made x).neighbours) (sym t) (more_even factor made a b later (uneven_parts factor a b t).second e.0, e.1))
    (λ f. subst (λ x. Even factor (put factor a b later made x).neighbours) (sym f) (f, e))

pub all_are_even : (factor : ℕ) (ns : List Neighbour) → Even factor (all_even factor ns).neighbours
all_are_even factor [] = tt
all_are_even factor (a ∷ ns) = put_even factor a (all_even factor ns).neighbours (all_even factor ns).made (all_are_even factor ns)

-- ---- the last that passes

last_is : (test : ℕ → Bool) (i n : ℕ) → i < n → test i ≡ true → ((k : ℕ) → i < k → k < n → test k ≡ false) → last_below test n ≡ Some i
last_is test i zero h is none = absurd (omega (arith, h))
last_is test i (suc n) h is none =
    split (nat_lt i n)
    (λ t.
    let low = ltb-true i n t in
    ap (λ b. cond b (Some n) (last_below test n)) (none n low (omega arith))
    ∙ last_is test i n low is (λ k lo hi. none k lo (omega (arith, hi))))
    (λ f.
    let e : i ≡ n = omega (arith, h, ltb-false i n f) in
    ap (λ b. cond b (Some n) (last_below test n)) (ap test (sym e) ∙ is) ∙ ap Some (sym e))

last_none : (test : ℕ → Bool) (n : ℕ) → ((k : ℕ) → k < n → test k ≡ false) → last_below test n ≡ None
last_none test zero none = refl
last_none test (suc n) none =
    ap (λ b. cond b (Some n) (last_below test n)) (none n (omega arith))
    ∙ last_none test n (λ k hi. none k (omega (arith, hi)))

-- ---- the passes

module _ {A : Type 0} (start : Layout A) (among : AreAmong start) where
  -- one more of those before
  one_more : (before : List Neighbour) (a : Neighbour) (later : List Neighbour) → Stands start 0 (before ++ (a ∷ later)) (length start.segments) → Stands start 0 ((before ++ (a ∷ [])) ++ later) (length start.segments)
  one_more before a later s = subst (λ ns. Stands start 0 ns (length start.segments)) (sym (append_assoc before (a ∷ []) later)) s

  -- those behind give way to what stands as they did
  others : (before xs ys : List Neighbour) → Stands start 0 (before ++ xs) (length start.segments) → ((from : ℕ) → Stands start from xs (length start.segments) → Stands start from ys (length start.segments))
      → Stands start 0 (before ++ ys) (length start.segments)
  others before xs ys s goes =
      stands_both start before ys 0 (middle 0 before) (length start.segments) (stands_first start before xs 0 (length start.segments) s)
      (goes (middle 0 before) (stands_second start before xs 0 (length start.segments) s))

  spent_pass : (before ns : List Neighbour) → Stands start 0 (before ++ ns) (length start.segments)
      → each_remade is_spent (length before + length ns) (mean start (before ++ ns) 0) ≡ each_remade is_spent (length before) (mean start (before ++ filter stays ns) 0)
  spent_pass before [] s = let e : length before + 0 ≡ length before = omega arith in ap (λ n. each_remade is_spent n (mean start (before ++ []) 0)) e
  spent_pass before (a ∷ ns) s =
      let n : length before + length (a ∷ ns) ≡ length (before ++ (a ∷ [])) + length ns = omega (arith, length-append before (a ∷ [])) in
      let m : length (before ++ (a ∷ [])) ≡ suc (length before) = omega (arith, length-append before (a ∷ [])) in
      let left : List Neighbour = filter stays ns in
      let now : Stands start 0 (before ++ (a ∷ left)) (length start.segments) =
      others before (a ∷ ns) (a ∷ left) s (λ from t. (t.0, (t.1.0, left_stands start ns (a.run.last + 1) (length start.segments) t.1.1))) in
      let l : Layout A = mean start (before ++ (a ∷ left)) 0 in
      let step : cond (is_spent l (length before)) (remade (length before) 1 l) l ≡ mean start (before ++ filter stays (a ∷ ns)) 0 =
      ap (λ b. cond b (remade (length before) 1 l) l) (at_spent start among before left a 0 now ∙ spent_goes a)
      ∙ split (stays a)
      (λ t. ap (λ b. cond (not b) (remade (length before) 1 l) l) t ∙ ap (λ b. mean start (before ++ cond b (a ∷ left) left) 0) (sym t))
      (λ f.
      let free = free_of a.count.held (a.count.live == 0) (spent_goes a ∙ ap not f) in
      ap (λ b. cond (not b) (remade (length before) 1 l) l) f
      ∙ spent_step start among before left a 0 now free.0 (zero_of a.count.live free.1)
      ∙ ap (λ b. mean start (before ++ cond b (a ∷ left) left) 0) (sym f)) in
      ap (λ c. each_remade is_spent c (mean start (before ++ (a ∷ ns)) 0)) n
      ∙ ap (λ xs. each_remade is_spent (length (before ++ (a ∷ [])) + length ns) (mean start xs 0)) (sym (append_assoc before (a ∷ []) ns))
      ∙ spent_pass (before ++ (a ∷ [])) ns (one_more before a ns s)
      ∙ ap (λ xs. each_remade is_spent (length (before ++ (a ∷ []))) (mean start xs 0)) (append_assoc before (a ∷ []) left)
      ∙ ap (λ c. each_remade is_spent c l) m
      ∙ ap (each_remade is_spent (length before)) step

  anew_pass : (made : ℕ) (before ns : List Neighbour) → Stands start 0 (before ++ ns) (length start.segments) → Lively ns
      → each_remade is_half_dead (length before + length ns) (mean start (before ++ ns) made) ≡ each_remade is_half_dead (length before) (mean start (before ++ (all_anew made ns).neighbours) (all_anew made ns).made)
  anew_pass made before [] s l = let e : length before + 0 ≡ length before = omega arith in ap (λ n. each_remade is_half_dead n (mean start (before ++ []) made)) e
  anew_pass made before (a ∷ ns) s lively =
      let n : length before + length (a ∷ ns) ≡ length (before ++ (a ∷ [])) + length ns = omega (arith, length-append before (a ∷ [])) in
      let m : length (before ++ (a ∷ [])) ≡ suc (length before) = omega (arith, length-append before (a ∷ [])) in
      let later : List Neighbour = (all_anew made ns).neighbours in
      let more : ℕ = (all_anew made ns).made in
      let now : Stands start 0 (before ++ (a ∷ later)) (length start.segments) =
      others before (a ∷ ns) (a ∷ later) s (λ from t. (t.0, (t.1.0, anew_stands start made ns (a.run.last + 1) (length start.segments) t.1.1 lively.1))) in
      let l : Layout A = mean start (before ++ (a ∷ later)) more in
      let step : cond (is_half_dead l (length before)) (remade (length before) 1 l) l ≡ mean start (before ++ (all_anew made (a ∷ ns)).neighbours) (all_anew made (a ∷ ns)).made =
      ap (λ b. cond b (remade (length before) 1 l) l) (at_half_dead start among before later a more now)
      ∙ split (is_too_dead a)
      (λ t.
      let free = free_of a.count.held (nat_lt a.count.live a.count.dead) t in
      ap (λ b. cond b (remade (length before) 1 l) l) t
      ∙ anew_step start among before later a more now free.0 (lively.0 free.0)
      ∙ ap (λ b. mean start (before ++ (anew a later more b).neighbours) (anew a later more b).made) (sym t))
      (λ f.
      ap (λ b. cond b (remade (length before) 1 l) l) f
      ∙ ap (λ b. mean start (before ++ (anew a later more b).neighbours) (anew a later more b).made) (sym f)) in
      ap (λ c. each_remade is_half_dead c (mean start (before ++ (a ∷ ns)) made)) n
      ∙ ap (λ xs. each_remade is_half_dead (length (before ++ (a ∷ [])) + length ns) (mean start xs made)) (sym (append_assoc before (a ∷ []) ns))
      ∙ anew_pass made (before ++ (a ∷ [])) ns (one_more before a ns s) lively.1
      ∙ ap (λ xs. each_remade is_half_dead (length (before ++ (a ∷ []))) (mean start xs more)) (append_assoc before (a ∷ []) later)
      ∙ ap (λ c. each_remade is_half_dead c l) m
      ∙ ap (each_remade is_half_dead (length before)) step

  -- from some on, no two neighbours are uneven
  none_uneven : (factor made : ℕ) (before ns : List Neighbour) → Stands start 0 (before ++ ns) (length start.segments) → Even factor ns
      → (k : ℕ) → length before ≤ k → k + 1 < length before + length ns → are_uneven factor (mean start (before ++ ns) made) k ≡ false
  none_uneven factor made before [] s even k low high = absurd (omega (arith, low, high))
  none_uneven factor made before (a ∷ []) s even k low high = absurd (omega (arith, low, high))
  none_uneven factor made before (a ∷ (b ∷ later)) s even k low high =
      split (nat_lt (length before) k)
      (λ t.
      let past = ltb-true (length before) k t in
      let m = length-append before (a ∷ []) in
      ap (λ xs. are_uneven factor (mean start xs made) k) (sym (append_assoc before (a ∷ []) (b ∷ later)))
      ∙ none_uneven factor made (before ++ (a ∷ [])) (b ∷ later) (one_more before a (b ∷ later) s) even.1 k (omega (arith, m, past)) (omega (arith, m, high)))
      (λ f.
      let e : k ≡ length before = omega (arith, low, ltb-false (length before) k f) in
      ap (are_uneven factor (mean start (before ++ (a ∷ (b ∷ later))) made)) e ∙ at_uneven start among before later a b made s factor ∙ even.0)

  mean_length : (ns : List Neighbour) (made : ℕ) → Stands start 0 ns (length start.segments) → length (mean start ns made).segments ≡ length ns
  mean_length ns made s = segs_length start ns 0 (length start.segments) s

  -- where all are even nothing happens
  even_stays : (factor made : ℕ) (ns : List Neighbour) → Stands start 0 ns (length start.segments) → Even factor ns → (steps : ℕ) → evened steps factor (mean start ns made) ≡ mean start ns made
  even_stays factor made ns s even zero = refl
  even_stays factor made ns s even (suc steps) =
      let n = mean_length ns made s in
      ap (λ index. evened steps factor (evened_at index (mean start ns made)))
      (last_none (are_uneven factor (mean start ns made)) (length (mean start ns made).segments - 1) (λ k high. none_uneven factor made [] ns s even k (omega arith) (omega (arith, high, n))))
      ∙ even_stays factor made ns s even steps

  -- the last two neighbours that are uneven, where all behind are even
  last_two : (factor made : ℕ) (before later : List Neighbour) (a b : Neighbour) → Stands start 0 (before ++ (a ∷ (b ∷ later))) (length start.segments) → Even factor (b ∷ later) → is_uneven factor a b ≡ true
      → last_uneven factor (mean start (before ++ (a ∷ (b ∷ later))) made) ≡ Some (length before)
  last_two factor made before later a b s even uneven =
      let ns : List Neighbour = before ++ (a ∷ (b ∷ later)) in
      let n = mean_length ns made s in
      let c = length-append before (a ∷ (b ∷ later)) in
      let m = length-append before (a ∷ []) in
      last_is (are_uneven factor (mean start ns made)) (length before) (length (mean start ns made).segments - 1) (omega (arith, n, c)) (at_uneven start among before later a b made s factor ∙ uneven)
      (λ k low high.
      ap (λ xs. are_uneven factor (mean start xs made) k) (sym (append_assoc before (a ∷ []) (b ∷ later)))
      ∙ none_uneven factor made (before ++ (a ∷ [])) (b ∷ later) (one_more before a (b ∷ later) s) even k (omega (arith, m, low)) (omega (arith, m, high, n, c)))

  -- one that stands before those that are even
  put_step : (factor : ℕ) (before : List Neighbour) (a : Neighbour) (ns : List Neighbour) (made : ℕ) → Stands start 0 (before ++ (a ∷ ns)) (length start.segments) → Even factor ns → Lively ns
      → (d : ℕ) × ((put_before factor a ns made).made ≡ made + d) × ((steps : ℕ) → evened (d + steps) factor (mean start (before ++ (a ∷ ns)) made) ≡ evened steps factor (mean start (before ++ (put_before factor a ns made).neighbours) (put_before factor a ns made).made))
  put_step factor before a [] made s even lively = (0, (omega arith), (λ steps. let e : 0 + steps ≡ steps = omega arith in ap (λ n. evened n factor (mean start (before ++ (a ∷ [])) made)) e))
  put_step factor before a (b ∷ later) made s even lively =
      split (is_uneven factor a b)
      (λ t.
      let u = uneven_parts factor a b t in (
        1,
        ap (λ x. (put factor a b later made x).made) t,
        (λ steps.
            let e : 1 + steps ≡ suc steps = omega arith in
            ap (λ n. evened n factor (mean start (before ++ (a ∷ (b ∷ later))) made)) e
            ∙ ap (λ index. evened steps factor (evened_at index (mean start (before ++ (a ∷ (b ∷ later))) made))) (last_two factor made before later a b s even t)
            ∙ ap (evened steps factor) (joined_step start among before later a b made s u.first u.second (lively.0 u.second))
            ∙ ap (λ x. evened steps factor (mean start (before ++ (put factor a b later made x).neighbours) (put factor a b later made x).made)) (sym t)),
      ))
      (λ f.
      let same : (put factor a b later made (is_uneven factor a b)).made ≡ made = ap (λ x. (put factor a b later made x).made) f in (
        0,
        omega (arith, same),
        (λ steps.
            let e : 0 + steps ≡ steps = omega arith in
            ap (λ n. evened n factor (mean start (before ++ (a ∷ (b ∷ later))) made)) e
            ∙ ap (λ x. evened steps factor (mean start (before ++ (put factor a b later made x).neighbours) (put factor a b later made x).made)) (sym f)),
      ))

  even_pass : (factor : ℕ) (before ns : List Neighbour) → Stands start 0 (before ++ ns) (length start.segments) → Lively ns → (steps : ℕ)
      → evened ((all_even factor ns).made + steps) factor (mean start (before ++ ns) 0) ≡ evened steps factor (mean start (before ++ (all_even factor ns).neighbours) (all_even factor ns).made)
  even_pass factor before [] s lively steps = let e : 0 + steps ≡ steps = omega arith in ap (λ n. evened n factor (mean start (before ++ []) 0)) e
  even_pass factor before (a ∷ ns) s lively steps =
      let later : List Neighbour = (all_even factor ns).neighbours in
      let more : ℕ = (all_even factor ns).made in
      let now : Stands start 0 (before ++ (a ∷ later)) (length start.segments) =
      others before (a ∷ ns) (a ∷ later) s (λ from t. (t.0, (t.1.0, even_stands start factor ns (a.run.last + 1) (length start.segments) t.1.1 lively.1))) in
      let step = put_step factor before a later more now (all_are_even factor ns) (even_lively factor ns lively.1) in
      let n : (all_even factor (a ∷ ns)).made + steps ≡ more + (step.0 + steps) = omega (arith, step.1) in
      ap (λ c. evened c factor (mean start (before ++ (a ∷ ns)) 0)) n
      ∙ ap (λ xs. evened (more + (step.0 + steps)) factor (mean start xs 0)) (sym (append_assoc before (a ∷ []) ns))
      ∙ even_pass factor (before ++ (a ∷ [])) ns (one_more before a ns s) lively.1 (step.0 + steps)
      ∙ ap (λ xs. evened (step.0 + steps) factor (mean start xs more)) (append_assoc before (a ∷ []) later)
      ∙ step.2 steps

-- ---- what a layout begins with

count_more : (p : Run → Bool) (a : Run) (runs : List Run) → count_by p (a ∷ runs) ≡ cond (p a) 1 0 + count_by p runs
count_more p a runs = sum_by-cons (λ x. cond (p x) 1 0) a runs

place_count : (k : ℕ) (ns : List Neighbour) → place k ns ≡ count_by (ends_before k) (map run_in ns)
place_count k [] = refl
place_count k (a ∷ ns) = ap (λ n. cond (nat_lt a.run.last k) 1 0 + n) (place_count k ns) ∙ sym (count_more (ends_before k) a.run (map run_in ns))

segs_flat : {A : Type 0} (start : Layout A) (ns : List Neighbour) → segs start ns ≡ flat_map (run_segment start) (map run_in ns)
segs_flat start [] = refl
segs_flat start (a ∷ ns) = ap (λ ss. run_segment start a.run ++ ss) (segs_flat start ns)

moved_same : (ns : List Neighbour) (ms : List OpenMerge) → map (moved_by ns) ms ≡ map (moved (map run_in ns)) ms
moved_same ns [] = refl
moved_same ns (m ∷ ms) = λ i. (let x : OpenMerge = record m { from = place_count m.from ns i } in x) ∷ moved_same ns ms i

mean_laid : {A : Type 0} (start : Layout A) (ns : List Neighbour) (made : ℕ) → mean start ns made ≡ laid_by (map run_in ns) made start
mean_laid start ns made = λ i. record {
  segments = segs_flat start ns i;
  buffer = start.buffer;
  merges = moved_same ns start.merges i;
  started = start.started;
  made = start.made + made;
  factor = start.factor;
}

place_standing : (cs : List SegmentCount) (from k : ℕ) → from ≤ k → k ≤ from + length cs → place k (standing_from from cs) ≡ k - from
place_standing [] from k low high = omega (arith, low, high)
place_standing (c ∷ cs) from k low high =
    split (nat_lt from k)
    (λ t.
    let one : ◌≡◌ {A = ℕ} (cond (nat_lt from k) 1 0) 1 = ap (λ b. cond b 1 0) t in
    omega (arith, one, ltb-true from k t, place_standing cs (from + 1) k (omega (arith, ltb-true from k t)) (omega (arith, high))))
    (λ f.
    let none : ◌≡◌ {A = ℕ} (cond (nat_lt from k) 1 0) 0 = ap (λ b. cond b 1 0) f in
    omega (arith, none, low, ltb-false from k f, place_before cs (from + 1) k (omega (arith, ltb-false from k f)))) where
      place_before : (xs : List SegmentCount) (at n : ℕ) → n ≤ at → place n (standing_from at xs) ≡ 0
      place_before [] at n h = refl
      place_before (x ∷ xs) at n h =
          let none : ◌≡◌ {A = ℕ} (cond (nat_lt at n) 1 0) 0 = ap (λ b. cond b 1 0) (le-ltb at n h) in
          omega (arith, none, place_before xs (at + 1) n (omega (arith, h)))

counts_length : {A : Type 0} (ms : List OpenMerge) (from : ℕ) (ss : List (SegmentOf A)) → length (counts_from ms from ss) ≡ length ss
counts_length ms from [] = refl
counts_length ms from (s ∷ ss) = ap suc (counts_length ms (from + 1) ss)

-- one segment more, at the end
pub counts_push : {A : Type 0} (ms : List OpenMerge) (from : ℕ) (ss : List (SegmentOf A)) (s : SegmentOf A) → counts_from ms from (ss ++ s ∷ []) ≡ counts_from ms from ss ++ count_at ms (from + length ss) s ∷ []
counts_push ms from [] s = let e : from ≡ from + 0 = omega arith in ap (λ n. count_at ms n s ∷ []) e
counts_push ms from (t ∷ ss) s =
    let e : from + 1 + length ss ≡ from + suc (length ss) = omega arith in
    ap (λ cs. count_at ms from t ∷ cs) (counts_push ms (from + 1) ss s ∙ ap (λ n. counts_from ms (from + 1) ss ++ count_at ms n s ∷ []) e)

-- from some index on, a layout's segments stand as they are counted
take_one : {X : Type 0} (from : ℕ) (x : X) (xs ys : List X) → drop from ys ≡ x ∷ xs → take (from + 1 - from) (drop from ys) ≡ x ∷ []
take_one from x xs ys e =
    let n : from + 1 - from ≡ 1 = omega arith in
    ap (λ k. take k (drop from ys)) n ∙ ap (take 1) e

drop_one : {X : Type 0} (from : ℕ) (x : X) (xs ys : List X) → drop from ys ≡ x ∷ xs → drop (from + 1) ys ≡ xs
drop_one from x xs ys e = sym (drop-drop 1 from ys) ∙ ap (drop 1) e

standing_segs : {A : Type 0} (start : Layout A) (from : ℕ) (ss : List (SegmentOf A)) → drop from start.segments ≡ ss → segs start (standing_from from (counts_from start.merges from ss)) ≡ ss
standing_segs start from [] e = refl
standing_segs start from (s ∷ ss) e =
    ap (λ xs. xs ++ segs start (standing_from (from + 1) (counts_from start.merges (from + 1) ss))) (take_one from s ss start.segments e)
    ∙ ap (λ xs. s ∷ xs) (standing_segs start (from + 1) ss (drop_one from s ss start.segments e))

standing_run : {A : Type 0} (start : Layout A) (from : ℕ) (s : SegmentOf A) (ss : List (SegmentOf A)) → drop from start.segments ≡ s ∷ ss → IsRun start (standing from (count_at start.merges from s))
standing_run start from s ss e = record {
  ordered = omega arith;
  one = s;
  is = take_one from s ss start.segments e;
  live = sym (append-nil (live_in s)) ∙ sym (ap (flat_map live_in) (take_one from s ss start.segments e));
  lives = refl;
  deads = refl;
  held = λ index low high. let same : index ≡ from = omega (arith, low, high) in ap (held_at start) same;
  alone = λ _. refl;
}

standing_stands : {A : Type 0} (start : Layout A) (from end : ℕ) (ss : List (SegmentOf A)) → drop from start.segments ≡ ss → from + length ss ≡ end → Stands start from (standing_from from (counts_from start.merges from ss)) end
standing_stands start from end [] e n = let same : from ≡ end = omega (arith, n) in subst (λ k. Gap start from k) same (no_gap start from)
standing_stands start from end (s ∷ ss) e n =
    (no_gap start from, (standing_run start from s ss e, standing_stands start (from + 1) end ss (drop_one from s ss start.segments e) (omega (arith, n))))

-- the first runs of a layout
abbrev pub firsts : {A : Type 0} → Layout A → List Neighbour
firsts start = standing_from 0 (counts_of start)

pub firsts_stand : {A : Type 0} (start : Layout A) → Stands start 0 (firsts start) (length start.segments)
firsts_stand start = standing_stands start 0 (length start.segments) start.segments refl (omega arith)

stays_put : {A : Type 0} (start : Layout A) (ms : List OpenMerge) → ((m : OpenMerge) → Has m ms → IsAmong (length start.segments) m) → map (moved_by (firsts start)) ms ≡ ms
stays_put start [] among = refl
stays_put start (m ∷ ms) among =
    let w = (among m (inl refl)).within in
    let n = counts_length start.merges 0 start.segments in
    let same : place m.from (firsts start) ≡ m.from = place_standing (counts_of start) 0 m.from (omega arith) (omega (arith, w, n)) ∙ omega arith in
    λ i. (let x : OpenMerge = record m { from = same i } in x) ∷ stays_put start ms (λ x has. among x (inr has)) i

mean_firsts : {A : Type 0} (start : Layout A) → AreAmong start → mean start (firsts start) 0 ≡ start
mean_firsts start among =
    let more : start.made + 0 ≡ start.made = omega arith in
    λ i. record {
      segments = standing_segs start 0 start.segments refl i;
      buffer = start.buffer;
      merges = stays_put start start.merges among i;
      started = start.started;
      made = more i;
      factor = start.factor;
    }

all_among : (n : ℕ) (ms : List OpenMerge) → All (IsAmong n) ms → (m : OpenMerge) → Has m ms → IsAmong n m
all_among n [] all m has = absurd has
all_among n (x ∷ ms) all m (inl e) = subst (IsAmong n) (sym e) (All-head (IsAmong n) x ms all)
all_among n (x ∷ ms) all m (inr has) = all_among n ms (All-tail (IsAmong n) x ms all) m has

-- ---- settling

put_few : (factor : ℕ) (a : Neighbour) (ns : List Neighbour) (made : ℕ) → (put_before factor a ns made).made + length (put_before factor a ns made).neighbours ≡ made + suc (length ns)
put_few factor a [] made = refl
put_few factor a (b ∷ later) made =
    split (is_uneven factor a b)
    (λ t. ap (λ x. (put factor a b later made x).made + length (put factor a b later made x).neighbours) t ∙ omega arith)
    (λ f. ap (λ x. (put factor a b later made x).made + length (put factor a b later made x).neighbours) f)

-- each that is made takes the place of two
pub even_few : (factor : ℕ) (ns : List Neighbour) → (all_even factor ns).made + length (all_even factor ns).neighbours ≡ length ns
even_few factor [] = omega arith
even_few factor (a ∷ ns) =
    put_few factor a (all_even factor ns).neighbours (all_even factor ns).made ∙ omega (arith, even_few factor ns)

-- what `layout` calls settling is what is made of the counts
pub settles : {A : Type 0} (factor : ℕ) (start : Layout A) → AreAmong start
    → settled (Some factor) start ≡ mean start (settling_of factor (counts_of start)).neighbours (settling_of factor (counts_of start)).made
settles {A} factor start among =
    let end : ℕ = length start.segments in
    let all = firsts_stand start in
    let left : List Neighbour = filter stays (firsts start) in
    let lively = left_lively (firsts start) in
    let stands = left_stands start (firsts start) 0 end all in
    let even : List Neighbour = (all_even factor left).neighbours in
    let more : ℕ = (all_even factor left).made in
    let even_stand = even_stands start factor left 0 end stands lively in
    let begin = sym (mean_firsts start among) in
    let n : length start.segments ≡ 0 + length (firsts start) = omega (arith, segs_length start (firsts start) 0 end all, ap (λ l. length l.segments) begin) in
    let one : all_remade is_spent start ≡ mean start left 0 =
    ap (λ l. each_remade is_spent (length start.segments) l) begin
    ∙ ap (λ c. each_remade is_spent c (mean start (firsts start) 0)) n
    ∙ spent_pass start among [] (firsts start) all in
    let c : length (mean start left 0).segments ≡ more + (length left - more) = omega (arith, mean_length start among left 0 stands, even_few factor left) in
    let two : all_evened factor (mean start left 0) ≡ mean start even more =
    ap (λ k. evened k factor (mean start left 0)) c
    ∙ even_pass start among factor [] left stands lively (length left - more)
    ∙ even_stays start among factor more even even_stand (all_are_even factor left) (length left - more) in
    let d : length (mean start even more).segments ≡ 0 + length even = omega (arith, mean_length start among even more even_stand) in
    let three : all_remade is_half_dead (mean start even more) ≡ mean start (all_anew more even).neighbours (all_anew more even).made =
    ap (λ k. each_remade is_half_dead k (mean start even more)) d
    ∙ anew_pass start among more [] even even_stand (even_lively factor left lively) in
    ap (λ l. all_remade is_half_dead (all_evened factor l)) one ∙ ap (all_remade is_half_dead) two ∙ three

pub settles_by_runs : {A : Type 0} (factor : ℕ) (start : Layout A) → All (IsAmong (length start.segments)) start.merges
    → settled (Some factor) start ≡ laid_by (settled_runs factor (counts_of start)) (settled_made factor (counts_of start)) start
settles_by_runs factor start among =
    settles factor start (all_among (length start.segments) start.merges among)
    ∙ mean_laid start (settling_of factor (counts_of start)).neighbours (settling_of factor (counts_of start)).made

-- for whoever has runs and a layout of the counts that they are of
pub settles_as : {A : Type 0} (factor : ℕ) (cs : List SegmentCount) (runs : List Run) (made : ℕ) (layout : Layout A) → runs ≡ settled_runs factor cs → made ≡ settled_made factor cs → counts_of layout ≡ cs
    → All (IsAmong (length layout.segments)) layout.merges → settled (Some factor) layout ≡ laid_by runs made layout
settles_as factor cs runs made layout r m same among =
    let p : settled_runs factor (counts_of layout) ≡ runs = ap (settled_runs factor) same ∙ sym r in
    let q : settled_made factor (counts_of layout) ≡ made = ap (settled_made factor) same ∙ sym m in
    settles_by_runs factor layout among ∙ (λ i. laid_by (p i) (q i) layout)
