-- How many settling makes, how many live items the runs have, and in which order they stand: from the counts alone.
use Rattle.std.proofs.Common.{◌≡◌, ℕ, suc, ◌+◌, ◌-◌, ◌<◌, ◌≤◌, cond, List, [], ◌∷◌, length, map, filter, reverse, get_or, drop, Option, Some, None, Result, Ok, Err, refl, sym, ap, subst, ◌∙◌, arith}
use Rattle.std.specs.Prelude.{IfOk}
use Rattle.std.specs.List.{All, sum_by}
use Rattle.std.proofs.lemmas.List.{length-drop, length-reverse}
use Rattle.std.proofs.lemmas.List.Sorted.{IsPermutation-reverse, sum_by-IsPermutation}
use Rattle.std.proofs.lemmas.List.Sums.{sum_by-cons, sum_by-drop_more, sum_by-take-drop}
use Rattle.layout.proofs.Goes.{split}
use Rattle.layout.specs.Layout.{Layout, settled}
use Rattle.merge_policy.proofs.Passes.{put, anew, even_few, settles_as}
use Rattle.merge_policy.specs.Policy.{run_in, standing, standing_from, live_of, live_in_all, stays, is_uneven, joined, put_before, all_even, is_too_dead, all_anew, evened_from, settling_in, settled_runs, settled_made}
use Rattle.merge_policy.specs.Runs.{counts_of, live_counted, IsAmong, laid_by, IsRunOf, AreRuns}
use Rattle.merge_policy.specs.declared.counts.SegmentCount.{SegmentCount}
use Rattle.merge_policy.specs.declared.neighbours.Behind.{Behind}
use Rattle.merge_policy.specs.declared.neighbours.Neighbour.{Neighbour}
use Rattle.merge_policy.specs.declared.runs.Run.{Run}
use Rattle.merge_policy.specs.declared.runs.SettledRuns.{SettledRuns}

-- ---- live items

lives_more : (a : Neighbour) (ns : List Neighbour) → live_in_all (a ∷ ns) ≡ a.count.live + live_in_all ns
lives_more a ns = sum_by-cons live_of a ns

pub lives_reverse : (ns : List Neighbour) → live_in_all (reverse ns) ≡ live_in_all ns
lives_reverse ns = sum_by-IsPermutation live_of ns (reverse ns) (IsPermutation-reverse ns)

left_lives : (ns : List Neighbour) → live_in_all (filter stays ns) ≤ live_in_all ns
left_lives [] = omega arith
left_lives (a ∷ ns) =
    split (stays a)
    (λ t. subst (λ b. live_in_all (cond b (a ∷ filter stays ns) (filter stays ns)) ≤ live_in_all (a ∷ ns)) (sym t) (omega (arith, lives_more a ns, lives_more a (filter stays ns), left_lives ns)))
    (λ f. subst (λ b. live_in_all (cond b (a ∷ filter stays ns) (filter stays ns)) ≤ live_in_all (a ∷ ns)) (sym f) (omega (arith, lives_more a ns, left_lives ns)))

put_lives : (factor : ℕ) (a : Neighbour) (ns : List Neighbour) (made : ℕ) → live_in_all (put_before factor a ns made).neighbours ≡ a.count.live + live_in_all ns
put_lives factor a [] made = lives_more a []
put_lives factor a (b ∷ later) made =
    split (is_uneven factor a b)
    (λ t. ap (λ x. live_in_all (put factor a b later made x).neighbours) t ∙ omega (arith, lives_more (joined made a b) later, lives_more b later))
    (λ f. ap (λ x. live_in_all (put factor a b later made x).neighbours) f ∙ lives_more a (b ∷ later))

even_lives : (factor : ℕ) (ns : List Neighbour) → live_in_all (all_even factor ns).neighbours ≡ live_in_all ns
even_lives factor [] = refl
even_lives factor (a ∷ ns) = put_lives factor a (all_even factor ns).neighbours (all_even factor ns).made ∙ omega (arith, even_lives factor ns, lives_more a ns)

standing_lives : (from : ℕ) (cs : List SegmentCount) → live_in_all (standing_from from cs) ≡ sum_by live_counted cs
standing_lives from [] = refl
standing_lives from (c ∷ cs) = lives_more (standing from c) (standing_from (from + 1) cs) ∙ omega (arith, standing_lives (from + 1) cs, sum_by-cons live_counted c cs)

pub evened_lives : (factor from : ℕ) (cs : List SegmentCount) → live_in_all (evened_from factor from cs).neighbours ≤ sum_by live_counted cs
evened_lives factor from cs = omega (arith, even_lives factor (filter stays (standing_from from cs)), left_lives (standing_from from cs), standing_lives from cs)

-- ---- how many are made

left_length : (ns : List Neighbour) → length (filter stays ns) ≤ length ns
left_length [] = omega arith
left_length (a ∷ ns) =
    split (stays a)
    (λ t. subst (λ b. length (cond b (a ∷ filter stays ns) (filter stays ns)) ≤ length (a ∷ ns)) (sym t) (omega (arith, left_length ns)))
    (λ f. subst (λ b. length (cond b (a ∷ filter stays ns) (filter stays ns)) ≤ length (a ∷ ns)) (sym f) (omega (arith, left_length ns)))

standing_length : (from : ℕ) (cs : List SegmentCount) → length (standing_from from cs) ≡ length cs
standing_length from [] = refl
standing_length from (c ∷ cs) = ap suc (standing_length (from + 1) cs)

pub evened_few : (factor from : ℕ) (cs : List SegmentCount) → (evened_from factor from cs).made + length (evened_from factor from cs).neighbours ≤ length cs
evened_few factor from cs = omega (arith, even_few factor (filter stays (standing_from from cs)), left_length (standing_from from cs), standing_length from cs)

pub anew_few : (made : ℕ) (ns : List Neighbour) → (made ≤ (all_anew made ns).made) × ((all_anew made ns).made ≤ made + length ns)
anew_few made [] = (omega arith, omega arith)
anew_few made (a ∷ ns) =
    let rest = anew_few made ns in
    split (is_too_dead a)
    (λ t. subst (λ x. (made ≤ (anew a (all_anew made ns).neighbours (all_anew made ns).made x).made) × ((anew a (all_anew made ns).neighbours (all_anew made ns).made x).made ≤ made + length (a ∷ ns))) (sym t) (omega (arith, rest.0), omega (arith, rest.1)))
    (λ f. subst (λ x. (made ≤ (anew a (all_anew made ns).neighbours (all_anew made ns).made x).made) × ((anew a (all_anew made ns).neighbours (all_anew made ns).made x).made ≤ made + length (a ∷ ns))) (sym f) (rest.0, omega (arith, rest.1)))

pub settled_few : (factor : ℕ) (cs : List SegmentCount) → settled_made factor cs ≤ length cs
settled_few factor cs = omega (arith, (anew_few (evened_from factor 0 cs).made (evened_from factor 0 cs).neighbours).1, evened_few factor 0 cs)

-- ---- in which order

runs_wider : (made less from end : ℕ) (ns : List Neighbour) → less ≤ from → AreRuns made from (map run_in ns) end → AreRuns made less (map run_in ns) end
runs_wider made less from end [] h r = omega (arith, h, r)
runs_wider made less from end (a ∷ ns) h r = (omega (arith, h, r.0), r.1)

of_more : (made more : ℕ) (run : Run) (m : Option ℕ) → made ≤ more → IsRunOf made run m → IsRunOf more run m
of_more made more run None h r = r
of_more made more run (Some before) h r = omega (arith, h, r)

runs_more : (made more from end : ℕ) (ns : List Neighbour) → made ≤ more → AreRuns made from (map run_in ns) end → AreRuns more from (map run_in ns) end
runs_more made more from end [] h r = r
runs_more made more from end (a ∷ ns) h r = (r.0, (r.1.0, (of_more made more a.run a.run.made h r.1.1.0, runs_more made more (a.run.last + 1) end ns h r.1.1.1)))

standing_runs : (from end : ℕ) (cs : List SegmentCount) → from + length cs ≤ end → AreRuns 0 from (map run_in (standing_from from cs)) end
standing_runs from end [] h = omega (arith, h)
standing_runs from end (c ∷ cs) h = (omega arith, (omega arith, (refl, standing_runs (from + 1) end cs (omega (arith, h)))))

left_runs : (made from end : ℕ) (ns : List Neighbour) → AreRuns made from (map run_in ns) end → AreRuns made from (map run_in (filter stays ns)) end
left_runs made from end [] r = r
left_runs made from end (a ∷ ns) r =
    let rest = left_runs made (a.run.last + 1) end ns r.1.1.1 in
    split (stays a)
    (λ t. subst (λ b. AreRuns made from (map run_in (cond b (a ∷ filter stays ns) (filter stays ns))) end) (sym t) (r.0, (r.1.0, (r.1.1.0, rest))))
    (λ f.
    let low = r.0 in
    let high = r.1.0 in
    subst (λ b. AreRuns made from (map run_in (cond b (a ∷ filter stays ns) (filter stays ns))) end) (sym f) (runs_wider made from (a.run.last + 1) end (filter stays ns) (omega arith) rest))

put_runs : (factor made from end : ℕ) (a : Neighbour) (ns : List Neighbour) → from ≤ a.run.first → a.run.first ≤ a.run.last → IsRunOf made a.run a.run.made → AreRuns made (a.run.last + 1) (map run_in ns) end
    → AreRuns (put_before factor a ns made).made from (map run_in (put_before factor a ns made).neighbours) end
put_runs factor made from end a [] low high of r = (low, (high, (of, r)))
put_runs factor made from end a (b ∷ later) low high of r =
    let next = r.0 in
    let long = r.1.0 in
    split (is_uneven factor a b)
    (λ t. subst (λ x. AreRuns (put factor a b later made x).made from (map run_in (put factor a b later made x).neighbours) end) (sym t)
    (low, (omega arith, (omega arith, runs_more made (made + 1) (b.run.last + 1) end later (omega arith) r.1.1.1))))
    (λ f. subst (λ x. AreRuns (put factor a b later made x).made from (map run_in (put factor a b later made x).neighbours) end) (sym f) (low, (high, (of, r))))

even_runs : (factor from end : ℕ) (ns : List Neighbour) → AreRuns 0 from (map run_in ns) end → AreRuns (all_even factor ns).made from (map run_in (all_even factor ns).neighbours) end
even_runs factor from end [] r = r
even_runs factor from end (a ∷ ns) r =
    put_runs factor (all_even factor ns).made from end a (all_even factor ns).neighbours r.0 r.1.0 (of_more 0 (all_even factor ns).made a.run a.run.made (omega arith) r.1.1.0)
    (even_runs factor (a.run.last + 1) end ns r.1.1.1)

anew_runs : (made from end : ℕ) (ns : List Neighbour) → AreRuns made from (map run_in ns) end → AreRuns (all_anew made ns).made from (map run_in (all_anew made ns).neighbours) end
anew_runs made from end [] r = r
anew_runs made from end (a ∷ ns) r =
    let later : List Neighbour = (all_anew made ns).neighbours in
    let more : ℕ = (all_anew made ns).made in
    let rest = anew_runs made (a.run.last + 1) end ns r.1.1.1 in
    split (is_too_dead a)
    (λ t. subst (λ x. AreRuns (anew a later more x).made from (map run_in (anew a later more x).neighbours) end) (sym t)
    (r.0, (r.1.0, (omega arith, runs_more more (more + 1) (a.run.last + 1) end later (omega arith) rest))))
    (λ f. subst (λ x. AreRuns (anew a later more x).made from (map run_in (anew a later more x).neighbours) end) (sym f)
    (r.0, (r.1.0, (of_more made more a.run a.run.made (anew_few made ns).0 r.1.1.0, rest))))

pub settled_order : (factor : ℕ) (cs : List SegmentCount) → AreRuns (settled_made factor cs) 0 (settled_runs factor cs) (length cs)
settled_order factor cs =
    anew_runs (evened_from factor 0 cs).made 0 (length cs) (evened_from factor 0 cs).neighbours
    (even_runs factor 0 (length cs) (filter stays (standing_from 0 cs)) (left_runs 0 0 (length cs) (standing_from 0 cs) (standing_runs 0 (length cs) cs (omega arith))))

-- ---- one segment more, from the last on

pub lives_next : (cs : List SegmentCount) (place : ℕ) (a : Neighbour) (d : SegmentCount) → a ≡ standing place (get_or cs place d) → place < length cs → a.count.live + sum_by live_counted (drop (place + 1) cs) ≤ sum_by live_counted cs
lives_next cs place a d is h =
    let n : a.count.live ≡ (get_or cs place d).live = ap live_of is in
    omega (arith, n, sum_by-drop_more live_counted cs place d h, sum_by-take-drop live_counted cs place)

-- what those have that are settled from an index on
pub behind_lives : (cs : List SegmentCount) (factor from : ℕ) (b : Behind) → settling_in b ≡ evened_from factor from (drop from cs) → live_in_all b.neighbours.items ≤ sum_by live_counted (drop from cs)
behind_lives cs factor from b h =
    let n : live_in_all (reverse b.neighbours.items) ≡ live_in_all (evened_from factor from (drop from cs)).neighbours = ap (λ s. live_in_all s.neighbours) h in
    omega (arith, n, lives_reverse b.neighbours.items, evened_lives factor from (drop from cs))

pub behind_made : (cs : List SegmentCount) (factor from : ℕ) (b : Behind) → settling_in b ≡ evened_from factor from (drop from cs) → b.made + length b.neighbours.items ≤ length cs - from
behind_made cs factor from b h =
    let n : b.made + length (reverse b.neighbours.items) ≡ (evened_from factor from (drop from cs)).made + length (evened_from factor from (drop from cs)).neighbours = ap (λ s. s.made + length s.neighbours) h in
    omega (arith, n, length-reverse b.neighbours.items, evened_few factor from (drop from cs), length-drop from cs)

-- ---- what is said of the result

pub order_of : {E : Type 0} (r : Result SettledRuns E) (factor : ℕ) (cs : List SegmentCount) → IfOk r (λ s. s.runs.items ≡ settled_runs factor cs) → IfOk r (λ s. s.made ≡ settled_made factor cs)
    → IfOk r (λ s. AreRuns s.made 0 s.runs.items (length cs))
order_of (Ok s) factor cs runs made = subst (λ n. AreRuns n 0 s.runs.items (length cs)) (sym made) (subst (λ rs. AreRuns (settled_made factor cs) 0 rs (length cs)) (sym runs) (settled_order factor cs))
order_of (Err e) factor cs runs made = tt

pub few_of : {E : Type 0} (r : Result SettledRuns E) (factor : ℕ) (cs : List SegmentCount) → IfOk r (λ s. s.made ≡ settled_made factor cs) → IfOk r (λ s. s.made ≤ length cs)
few_of (Ok s) factor cs made = omega (arith, made, settled_few factor cs)
few_of (Err e) factor cs made = tt

pub layout_of : {E : Type 0} (r : Result SettledRuns E) (factor : ℕ) (cs : List SegmentCount) → IfOk r (λ s. s.runs.items ≡ settled_runs factor cs) → IfOk r (λ s. s.made ≡ settled_made factor cs)
    → IfOk r (λ s. (layout : Layout ℕ) → counts_of layout ≡ cs → All (IsAmong (length layout.segments)) layout.merges → settled (Some factor) layout ≡ laid_by s.runs.items s.made layout)
layout_of (Ok s) factor cs runs made = λ layout same among. settles_as factor cs s.runs.items s.made layout runs made same among
layout_of (Err e) factor cs runs made = tt
