-- Where open merges stand among runs: one begins behind as many segments as runs stand before it.
use Rattle.std.proofs.Common.{◌≡◌, ◌⊎◌, inl, inr, ℕ, zero, suc, ◌+◌, ◌-◌, ◌<◌, ◌≤◌, nat_lt, nat_le, Bool, true, false, ◌&&◌, ◌||◌, cond, List, [], ◌∷◌, ◌++◌, length, map, refl, sym, ap, ◌∙◌, arith}
use Rattle.std.specs.List.{list_any}
use Rattle.std.proofs.lemmas.Bool.{ltb-true, ltb-false, lt-ltb, le-ltb, leb-true, leb-false, le-leb, lt-leb}
use Rattle.layout.proofs.Goes.{split, true_false}
use Rattle.layout.specs.Layout.{OpenMerge, Layout, covers, shifted}
use Rattle.merge_policy.proofs.Standing.{held_at, no_gap, Stands, stands_order}
use Rattle.merge_policy.specs.Runs.{IsAmong}
use Rattle.merge_policy.specs.declared.neighbours.Neighbour.{Neighbour}

-- how many runs stand before an index
abbrev pub place : ℕ → List Neighbour → ℕ
place index [] = 0
place index (a ∷ ns) = cond (nat_lt a.run.last index) 1 0 + place index ns

abbrev pub moved_by : List Neighbour → OpenMerge → OpenMerge
moved_by ns merge = record merge { from = place merge.from ns }

-- a merge is one of some
abbrev pub Has : OpenMerge → List OpenMerge → Type 0
Has m [] = ⊥
Has m (x ∷ xs) = (m ≡ x) ⊎ Has m xs

-- ---- what one merge has

and_true : (a b : Bool) → a ≡ true → b ≡ true → (a && b) ≡ true
and_true a b p q = ap (λ x. x && b) p ∙ q

held_by : (m : OpenMerge) (ms : List OpenMerge) (k : ℕ) → Has m ms → covers k m ≡ true → list_any (covers k) ms ≡ true
held_by m [] k has is = absurd has
held_by m (x ∷ xs) k (inl e) is = ap (λ b. b || list_any (covers k) xs) (sym (ap (covers k) e) ∙ is)
held_by m (x ∷ xs) k (inr has) is =
    split (covers k x)
    (λ t. ap (λ b. b || list_any (covers k) xs) t)
    (λ f. ap (λ b. b || list_any (covers k) xs) f ∙ held_by m xs k has is)

covers_within : (m : OpenMerge) (k : ℕ) → m.from ≤ k → k < m.from + m.count → covers k m ≡ true
covers_within m k low high = and_true (nat_le m.from k) (nat_lt k (m.from + m.count)) (le-leb m.from k low) (lt-ltb k (m.from + m.count) high)

held_within : {A : Type 0} (start : Layout A) (m : OpenMerge) (k : ℕ) → Has m start.merges → m.from ≤ k → k < m.from + m.count → held_at start k ≡ true
held_within start m k has low high = held_by m start.merges k has (covers_within m k low high)

pub any_same : (p q : OpenMerge → Bool) (f : OpenMerge → OpenMerge) (ms : List OpenMerge) → ((m : OpenMerge) → Has m ms → p (f m) ≡ q m) → list_any p (map f ms) ≡ list_any q ms
any_same p q f [] same = refl
any_same p q f (m ∷ ms) same = λ i. same m (inl refl) i || any_same p q f ms (λ x has. same x (inr has)) i

pub map_same : (f g h : OpenMerge → OpenMerge) (ms : List OpenMerge) → ((m : OpenMerge) → Has m ms → f (g m) ≡ h m) → map f (map g ms) ≡ map h ms
map_same f g h [] same = refl
map_same f g h (m ∷ ms) same = λ i. same m (inl refl) i ∷ map_same f g h ms (λ x has. same x (inr has)) i

-- ---- places

pub place_append : (k : ℕ) (xs ys : List Neighbour) → place k (xs ++ ys) ≡ place k xs + place k ys
place_append k [] ys = omega arith
place_append k (a ∷ xs) ys = omega (arith, place_append k xs ys)

counts_one : (n k : ℕ) → n < k → ◌≡◌ {A = ℕ} (cond (nat_lt n k) 1 0) 1
counts_one n k h = ap (λ b. cond b 1 0) (lt-ltb n k h)

counts_none : (n k : ℕ) → k ≤ n → ◌≡◌ {A = ℕ} (cond (nat_lt n k) 1 0) 0
counts_none n k h = ap (λ b. cond b 1 0) (le-ltb n k h)

place_length : (k : ℕ) (ns : List Neighbour) → place k ns ≤ length ns
place_length k [] = omega arith
place_length k (a ∷ ns) =
    split (nat_lt a.run.last k)
    (λ t. omega (arith, counts_one a.run.last k (ltb-true a.run.last k t), place_length k ns))
    (λ f. omega (arith, counts_none a.run.last k (ltb-false a.run.last k f), place_length k ns))

pub place_earlier : {A : Type 0} (start : Layout A) (ns : List Neighbour) (from end k : ℕ) → Stands start from ns end → end ≤ k → place k ns ≡ length ns
place_earlier start [] from end k s h = refl
place_earlier start (a ∷ ns) from end k s h =
    let rest = stands_order start ns (a.run.last + 1) end s.1.1 in
    omega (arith, counts_one a.run.last k (omega (arith, rest, h)), place_earlier start ns (a.run.last + 1) end k s.1.1 h)

pub place_later : {A : Type 0} (start : Layout A) (ns : List Neighbour) (from end k : ℕ) → Stands start from ns end → k ≤ from → place k ns ≡ 0
place_later start [] from end k s h = refl
place_later start (a ∷ ns) from end k s h =
    let one = s.0.ordered in
    let two = s.1.0.ordered in
    omega (arith, counts_none a.run.last k (omega arith), place_later start ns (a.run.last + 1) end k s.1.1 (omega arith))

place_more : (ns : List Neighbour) (k l : ℕ) → k ≤ l → place k ns ≤ place l ns
place_more [] k l h = omega arith
place_more (a ∷ ns) k l h =
    split (nat_lt a.run.last k)
    (λ t. let low = ltb-true a.run.last k t in omega (arith, counts_one a.run.last k low, counts_one a.run.last l (omega arith), place_more ns k l h))
    (λ f. omega (arith, counts_none a.run.last k (ltb-false a.run.last k f), place_more ns k l h))

-- an index that is held is a run by itself
place_next : {A : Type 0} (start : Layout A) (ns : List Neighbour) (from end k : ℕ) → Stands start from ns end → from ≤ k → k < end → held_at start k ≡ true → place (k + 1) ns ≡ place k ns + 1
place_next start [] from end k s low high held = true_false (sym held ∙ s.free k low high)
place_next start (a ∷ ns) from end k s low high held =
    split (nat_lt k a.run.first)
    (λ t. true_false (sym held ∙ s.0.free k low (ltb-true k a.run.first t)))
    (λ f. split (nat_lt a.run.last k)
    (λ t.
    let past = ltb-true a.run.last k t in
    omega (arith, counts_one a.run.last k past, counts_one a.run.last (k + 1) (omega arith), place_next start ns (a.run.last + 1) end k s.1.1 (omega arith) high held))
    (λ g.
    let first = ltb-false k a.run.first f in
    let last = ltb-false a.run.last k g in
    let alone = s.1.0.alone (sym (s.1.0.held k first last) ∙ held) in
    omega (arith, counts_none a.run.last k last, counts_one a.run.last (k + 1) (omega arith), place_later start ns (a.run.last + 1) end k s.1.1 (omega arith), place_later start ns (a.run.last + 1) end (k + 1) s.1.1 (omega arith))))

-- so many segments of a merge are as many runs
places_held : {A : Type 0} (start : Layout A) (ns : List Neighbour) (end : ℕ) (m : OpenMerge) → Stands start 0 ns end → Has m start.merges → m.from + m.count ≤ end
    → (t : ℕ) → t ≤ m.count → place (m.from + t) ns ≡ place m.from ns + t
places_held start ns end m s has within zero h = let e : m.from + zero ≡ m.from = omega arith in ap (λ k. place k ns) e ∙ omega arith
places_held start ns end m s has within (suc t) h =
    let e : m.from + suc t ≡ (m.from + t) + 1 = omega arith in
    let next = place_next start ns 0 end (m.from + t) s (omega arith) (omega arith) (held_within start m (m.from + t) has (omega arith) (omega arith)) in
    let rest = places_held start ns end m s has within t (omega arith) in
    ap (λ k. place k ns) e ∙ omega (arith, next, rest)

-- ---- a step moves merges as the runs do

-- runs that are free give way to others in the same range
pub shift_step : {A : Type 0} (start : Layout A) (before mid new after : List Neighbour) (p q end : ℕ) (m : OpenMerge)
    → Stands start 0 before p → Stands start p mid q → Stands start p new q → Stands start q after end → ((k : ℕ) → p ≤ k → k < q → held_at start k ≡ false) → 0 < length mid
    → Has m start.merges → IsAmong end m
    → shifted (length before) (length mid) (length new) (moved_by (before ++ (mid ++ after)) m) ≡ moved_by (before ++ (new ++ after)) m
shift_step start before mid new after p q end m sb sm sn sa free some has among =
    let old : place m.from (before ++ (mid ++ after)) ≡ place m.from before + (place m.from mid + place m.from after) =
    place_append m.from before (mid ++ after) ∙ ap (λ n. place m.from before + n) (place_append m.from mid after) in
    let now : place m.from (before ++ (new ++ after)) ≡ place m.from before + (place m.from new + place m.from after) =
    place_append m.from before (new ++ after) ∙ ap (λ n. place m.from before + n) (place_append m.from new after) in
    let low = stands_order start before 0 p sb in
    let high = stands_order start mid p q sm in
    let from : ℕ = place m.from (before ++ (mid ++ after)) in
    split (nat_lt m.from p)
    (λ t.
    let less = ltb-true m.from p t in
    let stays : place m.from (before ++ (mid ++ after)) ≡ place m.from (before ++ (new ++ after)) =
    omega (arith, old, now, place_later start mid p q m.from sm (omega arith), place_later start new p q m.from sn (omega arith)) in
    let short : place m.from (before ++ (mid ++ after)) < length before + length mid =
    omega (arith, old, some, place_length m.from before, place_later start mid p q m.from sm (omega arith), place_later start after q end m.from sa (omega arith)) in
    ap (λ b. cond b (let x : OpenMerge = record m { from = from - length mid + length new } in x) (moved_by (before ++ (mid ++ after)) m)) (lt-leb (length before + length mid) from short)
    ∙ ap (λ f. let x : OpenMerge = record m { from = f } in x) stays)
    (λ f. split (nat_lt m.from q)
    (λ t.
    let inside = ltb-true m.from q t in
    let behind = ltb-false m.from p f in
    true_false (sym (held_within start m m.from has (omega arith) (omega (arith, among.some))) ∙ free m.from behind inside))
    (λ g.
    let past = ltb-false m.from q g in
    let b = place_earlier start before 0 p m.from sb (omega arith) in
    let o = place_earlier start mid p q m.from sm past in
    let n = place_earlier start new p q m.from sn past in
    let long : length before + length mid ≤ from = omega (arith, old, b, o) in
    let goes : from - length mid + length new ≡ place m.from (before ++ (new ++ after)) = omega (arith, old, now, b, o, n) in
    ap (λ c. cond c (let x : OpenMerge = record m { from = from - length mid + length new } in x) (moved_by (before ++ (mid ++ after)) m)) (le-leb (length before + length mid) from long)
    ∙ ap (λ h. let x : OpenMerge = record m { from = h } in x) goes))

-- ---- a run is held where its first segment was

same_tests : (x i y u v w : ℕ) → (x ≤ i → i < y → (u ≤ v) × (v < w)) → (u ≤ v → v < w → (x ≤ i) × (i < y)) → (nat_le x i && nat_lt i y) ≡ (nat_le u v && nat_lt v w)
same_tests x i y u v w there back =
    split (nat_le x i && nat_lt i y)
    (λ t.
    let both = parts (nat_le x i) (nat_lt i y) t in
    let to = there (leb-true x i both.0) (ltb-true i y both.1) in
    t ∙ sym (and_true (nat_le u v) (nat_lt v w) (le-leb u v to.0) (lt-ltb v w to.1)))
    (λ f. split (nat_le u v && nat_lt v w)
    (λ t.
    let both = parts (nat_le u v) (nat_lt v w) t in
    let to = back (leb-true u v both.0) (ltb-true v w both.1) in
    true_false (sym (and_true (nat_le x i) (nat_lt i y) (le-leb x i to.0) (lt-ltb i y to.1)) ∙ f))
    (λ g. f ∙ sym g)) where
      parts : (a b : Bool) → (a && b) ≡ true → (a ≡ true) × (b ≡ true)
      parts true b h = (refl, h)
      parts false b h = true_false (sym h)

pub covers_place : {A : Type 0} (start : Layout A) (before after : List Neighbour) (a : Neighbour) (p end : ℕ) (m : OpenMerge)
    → Stands start 0 before p → Stands start p (a ∷ after) end → Stands start 0 (before ++ (a ∷ after)) end → Has m start.merges → IsAmong end m
    → covers (length before) (moved_by (before ++ (a ∷ after)) m) ≡ covers a.run.first m
covers_place start before after a p end m sb sa whole has among =
    let gap = sa.0.ordered in
    let run = sa.1.0.ordered in
    let rest = stands_order start after (a.run.last + 1) end sa.1.1 in
    let all : List Neighbour = before ++ (a ∷ after) in
    let first : place a.run.first all ≡ length before =
    omega (arith, place_append a.run.first before (a ∷ after), place_earlier start before 0 p a.run.first sb gap, place_later start (a ∷ after) a.run.first end a.run.first (no_gap start a.run.first, sa.1) (omega arith)) in
    let last : place (a.run.last + 1) all ≡ length before + 1 =
    omega (arith, place_append (a.run.last + 1) before (a ∷ after), place_earlier start before 0 p (a.run.last + 1) sb (omega arith), counts_one a.run.last (a.run.last + 1) (omega arith), place_later start after (a.run.last + 1) end (a.run.last + 1) sa.1.1 (omega arith)) in
    let width = places_held start all end m whole has among.within m.count (omega arith) in
    -- what a merge has of the run, it has as a run by itself
    let alone : m.from ≤ a.run.last → a.run.first < m.from + m.count → (k : ℕ) → m.from ≤ k → k < m.from + m.count → a.run.first ≤ k → k ≤ a.run.last → a.run.first ≡ a.run.last =
    λ _ _ k low high one two. sa.1.0.alone (sym (sa.1.0.held k one two) ∙ held_within start m k has low high) in
    same_tests (place m.from all) (length before) (place m.from all + m.count) m.from a.run.first (m.from + m.count)
    (λ low high. split (nat_le m.from a.run.first)
    (λ t. (
      leb-true m.from a.run.first t,
      split (nat_lt a.run.first (m.from + m.count))
          (λ u. ltb-true a.run.first (m.from + m.count) u)
          (λ u.
          let over = ltb-false a.run.first (m.from + m.count) u in
          absurd (omega (arith, high, width, first, place_more all (m.from + m.count) a.run.first over))),
    ))
    (λ f.
    let later = leb-false m.from a.run.first f in
    split (nat_le m.from a.run.last)
    (λ t.
    let within = leb-true m.from a.run.last t in
    let e = alone within (omega arith) m.from (omega arith) (omega (arith, among.some)) (omega arith) within in
    absurd (omega (arith, later, within, e)))
    (λ g.
    let past = leb-false m.from a.run.last g in
    absurd (omega (arith, low, last, place_more all (a.run.last + 1) m.from (omega arith))))))
    (λ low high.
    let e = alone (omega arith) high a.run.first low high (omega arith) run in
    (omega (arith, first, place_more all m.from a.run.first low), omega (arith, last, width, place_more all (a.run.last + 1) (m.from + m.count) (omega arith))))
