-- Runs beside the layout that they were counted of: each has what is live in its range, and between them nothing is live.
use Rattle.std.proofs.Common.{◌≡◌, ℕ, suc, ◌+◌, ◌-◌, ◌<◌, ◌≤◌, nat_lt, Bool, true, false, List, [], ◌∷◌, ◌++◌, length, map, filter, take, drop, refl, sym, ap, ◌∙◌, append_assoc, drop-drop, arith}
use Rattle.std.specs.List.{flat_map, list_any}
use Rattle.std.proofs.Math.Seq.{take-add}
use Rattle.std.proofs.lemmas.Bool.{ltb-true, ltb-false}
use Rattle.std.proofs.lemmas.List.{length-map}
use Rattle.std.proofs.lemmas.List.Concat.{flat_map-append}
use Rattle.layout.proofs.Goes.{split, true_false}
use Rattle.layout.specs.Layout.{SegmentOf, Layout, is_live, item_in, live_in, live_count, dead_count, alive, segment_of, covers}
use Rattle.merge_policy.specs.Policy.{joined, made_anew}
use Rattle.merge_policy.specs.Runs.{run_segment}
use Rattle.merge_policy.specs.declared.neighbours.Neighbour.{Neighbour}

-- whether an open merge has the segment at an index
abbrev pub held_at : {A : Type 0} → Layout A → ℕ → Bool
held_at start index = list_any (covers index) start.merges

-- what is live from an index to before another
abbrev pub live_between : {A : Type 0} → Layout A → ℕ → ℕ → List A
live_between start from end = flat_map live_in (take (end - from) (drop from start.segments))

-- the segments of runs
abbrev pub segs : {A : Type 0} → Layout A → List Neighbour → List (SegmentOf A)
segs start [] = []
segs start (a ∷ ns) = run_segment start a.run ++ segs start ns

-- nothing is live and nothing is held from an index to before another
pub record Gap {A : Type 0} (start : Layout A) (from end : ℕ) : Type 0 where
  pub ordered : from ≤ end
  pub none : live_between start from end ≡ []
  pub free : (index : ℕ) → from ≤ index → index < end → held_at start index ≡ false

-- a run gives way to one segment, which has what is live in its range
pub record IsRun {A : Type 0} (start : Layout A) (a : Neighbour) : Type 0 where
  pub ordered : a.run.first ≤ a.run.last
  pub one : SegmentOf A
  pub is : run_segment start a.run ≡ one ∷ []
  pub live : live_in one ≡ live_between start a.run.first (a.run.last + 1)
  pub lives : live_count one ≡ a.count.live
  pub deads : dead_count one ≡ a.count.dead
  pub held : (index : ℕ) → a.run.first ≤ index → index ≤ a.run.last → held_at start index ≡ a.count.held
  pub alone : a.count.held ≡ true → a.run.first ≡ a.run.last

-- runs stand in order from an index to before another
abbrev pub Stands : {A : Type 0} → Layout A → ℕ → List Neighbour → ℕ → Type 0
Stands start from [] end = Gap start from end
Stands start from (a ∷ ns) end = Gap start from a.run.first × (IsRun start a × Stands start (a.run.last + 1) ns end)

-- where the first runs end
abbrev pub middle : ℕ → List Neighbour → ℕ
middle from [] = from
middle from (a ∷ ns) = middle (a.run.last + 1) ns

none_of : {A : Type 0} (xs : List A) → length xs ≡ 0 → xs ≡ []
none_of [] h = refl
none_of (x ∷ xs) h = absurd (omega (arith, h))

-- ---- what is live between

pub live_joined : {A : Type 0} (start : Layout A) (from mid end : ℕ) → from ≤ mid → mid ≤ end → live_between start from end ≡ live_between start from mid ++ live_between start mid end
live_joined start from mid end h k =
    let n : end - from ≡ (mid - from) + (end - mid) = omega arith in
    let m : from + (mid - from) ≡ mid = omega arith in
    ap (λ c. flat_map live_in (take c (drop from start.segments))) n
    ∙ ap (flat_map live_in) (take-add (mid - from) (end - mid) (drop from start.segments))
    ∙ flat_map-append live_in (take (mid - from) (drop from start.segments)) (take (end - mid) (drop (mid - from) (drop from start.segments)))
    ∙ ap (λ xs. live_between start from mid ++ flat_map live_in (take (end - mid) xs)) (drop-drop (mid - from) from start.segments ∙ ap (λ c. drop c start.segments) m)

pub gap_joined : {A : Type 0} (start : Layout A) (from mid end : ℕ) → Gap start from mid → Gap start mid end → Gap start from end
gap_joined start from mid end g h =
    let one = g.ordered in
    let two = h.ordered in
    record {
      ordered = omega arith;
      none = live_joined start from mid end one two ∙ ap (λ xs. xs ++ live_between start mid end) g.none ∙ h.none;
      free = λ index low high. split (nat_lt index mid) (λ t. g.free index low (ltb-true index mid t)) (λ f. h.free index (ltb-false index mid f) high);
    }

pub no_gap : {A : Type 0} (start : Layout A) (from : ℕ) → Gap start from from
no_gap start from =
    let n : from - from ≡ 0 = omega arith in
    record {
      ordered = omega arith;
      none = ap (λ c. flat_map live_in (take c (drop from start.segments))) n;
      free = λ index low high. absurd (omega (arith, low, high));
    }

-- ---- in two parts

pub stands_first : {A : Type 0} (start : Layout A) (xs ys : List Neighbour) (from end : ℕ) → Stands start from (xs ++ ys) end → Stands start from xs (middle from xs)
stands_first start [] ys from end s = no_gap start from
stands_first start (a ∷ xs) ys from end s = (s.0, (s.1.0, stands_first start xs ys (a.run.last + 1) end s.1.1))

pub stands_second : {A : Type 0} (start : Layout A) (xs ys : List Neighbour) (from end : ℕ) → Stands start from (xs ++ ys) end → Stands start (middle from xs) ys end
stands_second start [] ys from end s = s
stands_second start (a ∷ xs) ys from end s = stands_second start xs ys (a.run.last + 1) end s.1.1

pub stands_behind : {A : Type 0} (start : Layout A) (ys : List Neighbour) (from mid end : ℕ) → Gap start from mid → Stands start mid ys end → Stands start from ys end
stands_behind start [] from mid end g s = gap_joined start from mid end g s
stands_behind start (a ∷ ys) from mid end g s = (gap_joined start from mid a.run.first g s.0, s.1)

pub stands_both : {A : Type 0} (start : Layout A) (xs ys : List Neighbour) (from mid end : ℕ) → Stands start from xs mid → Stands start mid ys end → Stands start from (xs ++ ys) end
stands_both start [] ys from mid end g s = stands_behind start ys from mid end g s
stands_both start (a ∷ xs) ys from mid end one two = (one.0, (one.1.0, stands_both start xs ys (a.run.last + 1) mid end one.1.1 two))

pub stands_order : {A : Type 0} (start : Layout A) (ns : List Neighbour) (from end : ℕ) → Stands start from ns end → from ≤ end
stands_order start [] from end g = g.ordered
stands_order start (a ∷ ns) from end s = omega (arith, s.0.ordered, s.1.0.ordered, stands_order start ns (a.run.last + 1) end s.1.1)

-- ---- their segments

pub segs_append : {A : Type 0} (start : Layout A) (xs ys : List Neighbour) → segs start (xs ++ ys) ≡ segs start xs ++ segs start ys
segs_append start [] ys = refl
segs_append start (a ∷ xs) ys = ap (λ ss. run_segment start a.run ++ ss) (segs_append start xs ys) ∙ sym (append_assoc (run_segment start a.run) (segs start xs) (segs start ys))

pub segs_length : {A : Type 0} (start : Layout A) (ns : List Neighbour) (from end : ℕ) → Stands start from ns end → length (segs start ns) ≡ length ns
segs_length start [] from end s = refl
segs_length start (a ∷ ns) from end s = ap (λ ss. length (ss ++ segs start ns)) s.1.0.is ∙ ap suc (segs_length start ns (a.run.last + 1) end s.1.1)

-- all that is live where they stand is live in them
pub segs_live : {A : Type 0} (start : Layout A) (ns : List Neighbour) (from end : ℕ) → Stands start from ns end → flat_map live_in (segs start ns) ≡ live_between start from end
segs_live start [] from end g = sym g.none
segs_live start (a ∷ ns) from end s =
    let gap = s.0 in
    let run = s.1.0 in
    let one = gap.ordered in
    let two = run.ordered in
    let three = stands_order start ns (a.run.last + 1) end s.1.1 in
    ap (λ ss. flat_map live_in (ss ++ segs start ns)) run.is
    ∙ ap (λ xs. xs ++ flat_map live_in (segs start ns)) run.live
    ∙ ap (λ xs. live_between start a.run.first (a.run.last + 1) ++ xs) (segs_live start ns (a.run.last + 1) end s.1.1)
    ∙ sym (live_joined start a.run.first (a.run.last + 1) end (omega arith) three)
    ∙ sym (live_joined start from a.run.first end one (omega arith) ∙ ap (λ xs. xs ++ live_between start a.run.first end) gap.none)

-- ---- a segment that is made

-- the one segment that is made of some items
pub record OneMade {A : Type 0} (id : ℕ) (xs : List A) : Type 0 where
  pub one : SegmentOf A
  pub is : segment_of id xs ≡ one ∷ []
  pub live : live_in one ≡ xs
  pub dead : dead_count one ≡ 0

all_live : {A : Type 0} (xs : List A) → map item_in (filter is_live (map alive xs)) ≡ xs
all_live [] = refl
all_live (x ∷ xs) = ap (λ ys. x ∷ ys) (all_live xs)

none_dead : {A : Type 0} (xs : List A) → length (map alive xs) - length (map item_in (filter is_live (map alive xs))) ≡ 0
none_dead xs =
    let n = length-map xs alive in
    let m : length (map item_in (filter is_live (map alive xs))) ≡ length xs = ap length (all_live xs) in
    omega (arith, n, m)

pub made_one : {A : Type 0} (id : ℕ) (xs : List A) → 0 < length xs → OneMade id xs
made_one id [] h = absurd (omega (arith, h))
made_one id (x ∷ xs) h = record {
  one = record { id = id; items = map alive (x ∷ xs) };
  is = refl;
  live = all_live (x ∷ xs);
  dead = none_dead (x ∷ xs);
}

-- a run that is made anew
pub anew_run : {A : Type 0} (start : Layout A) (a : Neighbour) (made : ℕ) → IsRun start a → 0 < a.count.live → IsRun start (made_anew made a)
anew_run start a made r h =
    let some : 0 < length (live_between start a.run.first (a.run.last + 1)) = omega (arith, h, r.lives, ap length r.live) in
    let o = made_one (start.made + made) (live_between start a.run.first (a.run.last + 1)) some in
    record {
      ordered = r.ordered;
      one = o.one;
      is = o.is;
      live = o.live;
      lives = ap length o.live ∙ sym (ap length r.live) ∙ r.lives;
      deads = o.dead;
      held = r.held;
      alone = r.alone;
    }

-- two that are made one
pub joined_run : {A : Type 0} (start : Layout A) (a b : Neighbour) (made : ℕ) → IsRun start a → Gap start (a.run.last + 1) b.run.first → IsRun start b
    → a.count.held ≡ false → b.count.held ≡ false → 0 < b.count.live → IsRun start (joined made a b)
joined_run start a b made r gap s af bf h =
    let one = r.ordered in
    let two = gap.ordered in
    let three = s.ordered in
    let whole : live_between start a.run.first (b.run.last + 1) ≡ live_between start a.run.first (a.run.last + 1) ++ live_between start b.run.first (b.run.last + 1) =
    live_joined start a.run.first (a.run.last + 1) (b.run.last + 1) (omega arith) (omega arith)
    ∙ ap (λ xs. live_between start a.run.first (a.run.last + 1) ++ xs) (live_joined start (a.run.last + 1) b.run.first (b.run.last + 1) two (omega arith) ∙ ap (λ xs. xs ++ live_between start b.run.first (b.run.last + 1)) gap.none) in
    let n : length (live_between start a.run.first (b.run.last + 1)) ≡ a.count.live + b.count.live =
    ap length whole ∙ lengths (live_between start a.run.first (a.run.last + 1)) (live_between start b.run.first (b.run.last + 1)) a.count.live b.count.live (sym (ap length r.live) ∙ r.lives) (sym (ap length s.live) ∙ s.lives) in
    let o = made_one (start.made + made) (live_between start a.run.first (b.run.last + 1)) (omega (arith, n, h)) in
    record {
      ordered = omega arith;
      one = o.one;
      is = o.is;
      live = o.live;
      lives = ap length o.live ∙ n;
      deads = o.dead;
      held = λ index low high. split (nat_lt index (a.run.last + 1))
          (λ t. r.held index low (omega (arith, ltb-true index (a.run.last + 1) t)) ∙ af)
          (λ f. split (nat_lt index b.run.first)
          (λ t. gap.free index (ltb-false index (a.run.last + 1) f) (ltb-true index b.run.first t))
          (λ g. s.held index (ltb-false index b.run.first g) high ∙ bf));
      alone = λ e. true_false (sym e);
    } where
      lengths : {B : Type 0} (xs ys : List B) (n m : ℕ) → length xs ≡ n → length ys ≡ m → length (xs ++ ys) ≡ n + m
      lengths [] ys n m p q = omega (arith, p, q)
      lengths (x ∷ xs) ys n m p q = omega (arith, p, q, lengths xs ys (length xs) m refl q)

-- a run of which nothing is live, and which is free, leaves a gap
pub run_gap : {A : Type 0} (start : Layout A) (a : Neighbour) → IsRun start a → a.count.held ≡ false → a.count.live ≡ 0 → Gap start a.run.first (a.run.last + 1)
run_gap start a r free none =
    let one = r.ordered in
    record {
      ordered = omega arith;
      none = none_of (live_between start a.run.first (a.run.last + 1)) (sym (ap length r.live) ∙ r.lives ∙ none);
      free = λ index low high. r.held index low (omega (arith, high)) ∙ free;
    }
