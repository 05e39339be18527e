-- One step of settling, on a layout and on its runs: a layout in the middle of settling is what its runs make of the first.
use Rattle.std.proofs.Common.{◌≡◌, ℕ, ◌+◌, ◌*◌, ◌<◌, ◌≤◌, nat_lt, ◌==◌, false, not, ◌&&◌, List, [], ◌∷◌, ◌++◌, length, map, take, drop, get_or, sym, ap, subst, ◌∙◌, append_assoc, append-nil, length-append, arith}
use Rattle.std.specs.List.{flat_map}
use Rattle.std.proofs.Math.Seq.{take-append_seam, drop-append_seam, get_or-append_seam, drop-append-add}
use Rattle.std.proofs.lemmas.Bool.{ltb-true, ltb-false}
use Rattle.layout.proofs.Goes.{split}
use Rattle.layout.specs.Layout.{OpenMerge, Layout, live_in, live_count, dead_count, segment_of, shifted, merged_range, remade, no_segment, segment_at, covers, is_free, is_spent, is_half_dead, are_uneven}
use Rattle.merge_policy.proofs.Places.{Has, moved_by, any_same, map_same, shift_step, covers_place}
use Rattle.merge_policy.proofs.Standing.{held_at, live_between, segs, Stands, middle, gap_joined, no_gap, stands_first, stands_second, segs_append, segs_length, segs_live, anew_run, joined_run, run_gap}
use Rattle.merge_policy.specs.Policy.{is_uneven, joined, is_too_dead, made_anew}
use Rattle.merge_policy.specs.Runs.{IsAmong}
use Rattle.merge_policy.specs.declared.neighbours.Neighbour.{Neighbour}

-- the layout that runs make of the one that they were counted of
abbrev pub mean : {A : Type 0} → Layout A → List Neighbour → ℕ → Layout A
mean start ns made = record start { segments = segs start ns; merges = map (moved_by ns) start.merges; made = start.made + made }

-- the merges of a layout are among its segments
abbrev pub AreAmong : {A : Type 0} → Layout A → Type 0
AreAmong start = (m : OpenMerge) → Has m start.merges → IsAmong (length start.segments) m

-- ---- lists in three parts

take_first : {X : Type 0} (xs ys : List X) (n : ℕ) → length xs ≡ n → take n (xs ++ ys) ≡ xs
take_first xs ys n h = ap (λ k. take k (xs ++ ys)) (sym h) ∙ take-append_seam xs ys

drop_first : {X : Type 0} (xs ys : List X) (n : ℕ) → length xs ≡ n → drop n (xs ++ ys) ≡ ys
drop_first xs ys n h = ap (λ k. drop k (xs ++ ys)) (sym h) ∙ drop-append_seam xs ys

drop_both : {X : Type 0} (xs ys zs : List X) (n m : ℕ) → length xs ≡ n → length ys ≡ m → drop (n + m) (xs ++ (ys ++ zs)) ≡ zs
drop_both xs ys zs n m h k =
    ap (λ c. drop (c + m) (xs ++ (ys ++ zs))) (sym h)
    ∙ drop-append-add xs (ys ++ zs) m
    ∙ drop_first ys zs m k

-- ---- a range gives way

-- what runs in the middle make
record InThree {A : Type 0} (start : Layout A) (before mid after : List Neighbour) : Type 0 where
  whole : segs start (before ++ (mid ++ after)) ≡ segs start before ++ (segs start mid ++ segs start after)
  first : take (length before) (segs start (before ++ (mid ++ after))) ≡ segs start before
  middle : take (length mid) (drop (length before) (segs start (before ++ (mid ++ after)))) ≡ segs start mid
  last : drop (length before + length mid) (segs start (before ++ (mid ++ after))) ≡ segs start after

in_three : {A : Type 0} (start : Layout A) (before mid after : List Neighbour) → length (segs start before) ≡ length before → length (segs start mid) ≡ length mid → InThree start before mid after
in_three start before mid after h k =
    let w : segs start (before ++ (mid ++ after)) ≡ segs start before ++ (segs start mid ++ segs start after) =
    segs_append start before (mid ++ after) ∙ ap (λ ss. segs start before ++ ss) (segs_append start mid after) in
    record {
      whole = w;
      first = ap (take (length before)) w ∙ take_first (segs start before) (segs start mid ++ segs start after) (length before) h;
      middle = ap (λ ss. take (length mid) (drop (length before) ss)) w
          ∙ ap (take (length mid)) (drop_first (segs start before) (segs start mid ++ segs start after) (length before) h)
          ∙ take_first (segs start mid) (segs start after) (length mid) k;
      last = ap (drop (length before + length mid)) w ∙ drop_both (segs start before) (segs start mid) (segs start after) (length before) (length mid) h k;
    }

pub remade_step : {A : Type 0} (start : Layout A) (before mid new after : List Neighbour) (made p q : ℕ) → AreAmong start
    → Stands start 0 before p → Stands start p mid q → Stands start p new q → Stands start q after (length start.segments)
    → ((k : ℕ) → p ≤ k → k < q → held_at start k ≡ false) → 0 < length mid
    → segs start new ≡ segment_of (start.made + made) (flat_map live_in (segs start mid))
    → remade (length before) (length mid) (mean start (before ++ (mid ++ after)) made) ≡ mean start (before ++ (new ++ after)) (made + length new)
remade_step {A} start before mid new after made p q among sb sm sn sa free some gives =
    let t = in_three start before mid after (segs_length start before 0 p sb) (segs_length start mid p q sm) in
    let old : Layout A = mean start (before ++ (mid ++ after)) made in
    let one : merged_range (length before) (length mid) old ≡ segs start new =
    ap (λ ss. segment_of (start.made + made) (flat_map live_in ss)) t.middle ∙ sym gives in
    let n : length (merged_range (length before) (length mid) old) ≡ length new = ap length one ∙ segs_length start new p q sn in
    let same : take (length before) old.segments ++ (merged_range (length before) (length mid) old ++ drop (length before + length mid) old.segments) ≡ segs start (before ++ (new ++ after)) =
    ap (λ ss. ss ++ (merged_range (length before) (length mid) old ++ drop (length before + length mid) old.segments)) t.first
    ∙ ap (λ ss. segs start before ++ (ss ++ drop (length before + length mid) old.segments)) one
    ∙ ap (λ ss. segs start before ++ (segs start new ++ ss)) t.last
    ∙ ap (λ ss. segs start before ++ ss) (sym (segs_append start new after))
    ∙ sym (segs_append start before (new ++ after)) in
    let moves : map (shifted (length before) (length mid) (length (merged_range (length before) (length mid) old))) old.merges ≡ map (moved_by (before ++ (new ++ after))) start.merges =
    ap (λ c. map (shifted (length before) (length mid) c) old.merges) n
    ∙ map_same (shifted (length before) (length mid) (length new)) (moved_by (before ++ (mid ++ after))) (moved_by (before ++ (new ++ after))) start.merges
    (λ m has. shift_step start before mid new after p q (length start.segments) m sb sm sn sa free some has (among m has)) in
    let more : (start.made + made) + length (merged_range (length before) (length mid) old) ≡ start.made + (made + length new) = omega (arith, n) in
    λ i. record {
      segments = same i;
      buffer = start.buffer;
      merges = moves i;
      started = start.started;
      made = more i;
      factor = start.factor;
    }

-- ---- what stands behind some runs

module _ {A : Type 0} (start : Layout A) (among : AreAmong start) (before after : List Neighbour) (a : Neighbour) (made : ℕ) (s : Stands start 0 (before ++ (a ∷ after)) (length start.segments)) where
  pub at_segment : segment_at (mean start (before ++ (a ∷ after)) made) (length before) ≡ (stands_second start before (a ∷ after) 0 (length start.segments) s).1.0.one
  at_segment =
      let sb = stands_first start before (a ∷ after) 0 (length start.segments) s in
      let r = (stands_second start before (a ∷ after) 0 (length start.segments) s).1.0 in
      let w : segs start (before ++ (a ∷ after)) ≡ segs start before ++ (r.one ∷ segs start after) =
      segs_append start before (a ∷ after) ∙ ap (λ ss. segs start before ++ (ss ++ segs start after)) r.is in
      ap (λ ss. get_or ss (length before) no_segment) w
      ∙ ap (λ n. get_or (segs start before ++ (r.one ∷ segs start after)) n no_segment) (sym (segs_length start before 0 (middle 0 before) sb))
      ∙ get_or-append_seam (segs start before) r.one (segs start after) no_segment

  pub at_live : live_count (segment_at (mean start (before ++ (a ∷ after)) made) (length before)) ≡ a.count.live
  at_live = ap live_count at_segment ∙ (stands_second start before (a ∷ after) 0 (length start.segments) s).1.0.lives

  pub at_dead : dead_count (segment_at (mean start (before ++ (a ∷ after)) made) (length before)) ≡ a.count.dead
  at_dead = ap dead_count at_segment ∙ (stands_second start before (a ∷ after) 0 (length start.segments) s).1.0.deads

  pub at_free : is_free (mean start (before ++ (a ∷ after)) made) (length before) ≡ not a.count.held
  at_free =
      let sb = stands_first start before (a ∷ after) 0 (length start.segments) s in
      let sa = stands_second start before (a ∷ after) 0 (length start.segments) s in
      let ordered = sa.1.0.ordered in
      ap not (any_same (covers (length before)) (covers a.run.first) (moved_by (before ++ (a ∷ after))) start.merges
      (λ m has. covers_place start before after a (middle 0 before) (length start.segments) m sb sa s has (among m has)))
      ∙ ap not (sa.1.0.held a.run.first (omega arith) ordered)

  pub at_spent : is_spent (mean start (before ++ (a ∷ after)) made) (length before) ≡ (not a.count.held && (a.count.live == 0))
  at_spent = λ i. at_free i && (at_live i == 0)

  pub at_half_dead : is_half_dead (mean start (before ++ (a ∷ after)) made) (length before) ≡ is_too_dead a
  at_half_dead = λ i. at_free i && nat_lt (at_live i) (at_dead i)

  -- ---- one run gives way

  -- what a free run has is free
  run_free : a.count.held ≡ false → (k : ℕ) → middle 0 before ≤ k → k < a.run.last + 1 → held_at start k ≡ false
  run_free free k low high =
      let sa = stands_second start before (a ∷ after) 0 (length start.segments) s in
      split (nat_lt k a.run.first)
      (λ t. sa.0.free k low (ltb-true k a.run.first t))
      (λ f. sa.1.0.held k (ltb-false k a.run.first f) (omega (arith, high)) ∙ free)

  -- nothing of it is live: it goes
  pub spent_step : a.count.held ≡ false → a.count.live ≡ 0 → remade (length before) 1 (mean start (before ++ (a ∷ after)) made) ≡ mean start (before ++ after) made
  spent_step free none =
      let sb = stands_first start before (a ∷ after) 0 (length start.segments) s in
      let sa = stands_second start before (a ∷ after) 0 (length start.segments) s in
      let r = sa.1.0 in
      let gap = gap_joined start (middle 0 before) a.run.first (a.run.last + 1) sa.0 (run_gap start a r free none) in
      let alone : Stands start (middle 0 before) (a ∷ []) (a.run.last + 1) = (sa.0, (r, no_gap start (a.run.last + 1))) in
      let gives : segs start [] ≡ segment_of (start.made + made) (flat_map live_in (segs start (a ∷ []))) =
      sym (ap (segment_of (start.made + made)) (segs_live start (a ∷ []) (middle 0 before) (a.run.last + 1) alone ∙ gap.none)) in
      let e : made + 0 ≡ made = omega arith in
      remade_step start before (a ∷ []) [] after made (middle 0 before) (a.run.last + 1) among sb alone gap sa.1.1 (run_free free) (omega arith) gives
      ∙ ap (mean start (before ++ after)) e

  -- it is made anew
  pub anew_step : a.count.held ≡ false → 0 < a.count.live → remade (length before) 1 (mean start (before ++ (a ∷ after)) made) ≡ mean start (before ++ (made_anew made a ∷ after)) (made + 1)
  anew_step free some =
      let sb = stands_first start before (a ∷ after) 0 (length start.segments) s in
      let sa = stands_second start before (a ∷ after) 0 (length start.segments) s in
      let r = sa.1.0 in
      let alone : Stands start (middle 0 before) (a ∷ []) (a.run.last + 1) = (sa.0, (r, no_gap start (a.run.last + 1))) in
      let anew : Stands start (middle 0 before) (made_anew made a ∷ []) (a.run.last + 1) = (sa.0, (anew_run start a made r some, no_gap start (a.run.last + 1))) in
      let ordered = r.ordered in
      let has : flat_map live_in (segs start (a ∷ [])) ≡ live_between start a.run.first (a.run.last + 1) =
      segs_live start (a ∷ []) a.run.first (a.run.last + 1) (no_gap start a.run.first, (r, no_gap start (a.run.last + 1))) in
      let gives : segs start (made_anew made a ∷ []) ≡ segment_of (start.made + made) (flat_map live_in (segs start (a ∷ []))) =
      append-nil (segment_of (start.made + made) (live_between start a.run.first (a.run.last + 1))) ∙ ap (segment_of (start.made + made)) (sym has) in
      remade_step start before (a ∷ []) (made_anew made a ∷ []) after made (middle 0 before) (a.run.last + 1) among sb alone anew sa.1.1 (run_free free) (omega arith) gives

-- ---- two are made one

module _ {A : Type 0} (start : Layout A) (among : AreAmong start) (before after : List Neighbour) (a b : Neighbour) (made : ℕ) (s : Stands start 0 (before ++ (a ∷ (b ∷ after))) (length start.segments)) where
  again : Stands start 0 ((before ++ (a ∷ [])) ++ (b ∷ after)) (length start.segments)
  again = subst (λ ns. Stands start 0 ns (length start.segments)) (sym (append_assoc before (a ∷ []) (b ∷ after))) s

  second : length (before ++ (a ∷ [])) ≡ length before + 1
  second = length-append before (a ∷ [])

  pub at_uneven : (factor : ℕ) → are_uneven factor (mean start (before ++ (a ∷ (b ∷ after))) made) (length before) ≡ is_uneven factor a b
  at_uneven factor =
      let l : Layout A = mean start (before ++ (a ∷ (b ∷ after))) made in
      let first_free = at_free start among before (b ∷ after) a made s in
      let first_live = at_live start among before (b ∷ after) a made s in
      let next_free : is_free l (length before + 1) ≡ not b.count.held =
      ap (λ n. is_free l n) (sym second)
      ∙ ap (λ ns. is_free (mean start ns made) (length (before ++ (a ∷ [])))) (sym (append_assoc before (a ∷ []) (b ∷ after)))
      ∙ at_free start among (before ++ (a ∷ [])) after b made again in
      let next_live : live_count (segment_at l (length before + 1)) ≡ b.count.live =
      ap (λ n. live_count (segment_at l n)) (sym second)
      ∙ ap (λ ns. live_count (segment_at (mean start ns made) (length (before ++ (a ∷ []))))) (sym (append_assoc before (a ∷ []) (b ∷ after)))
      ∙ at_live start among (before ++ (a ∷ [])) after b made again in
      λ i. first_free i && (next_free i && nat_lt (first_live i) (factor * next_live i))

  pub joined_step : a.count.held ≡ false → b.count.held ≡ false → 0 < b.count.live
      → remade (length before) 2 (mean start (before ++ (a ∷ (b ∷ after))) made) ≡ mean start (before ++ (joined made a b ∷ after)) (made + 1)
  joined_step af bf some =
      let sb = stands_first start before (a ∷ (b ∷ after)) 0 (length start.segments) s in
      let sa = stands_second start before (a ∷ (b ∷ after)) 0 (length start.segments) s in
      let r = sa.1.0 in
      let gap = sa.1.1.0 in
      let t = sa.1.1.1.0 in
      let end : ℕ = b.run.last + 1 in
      let two : Stands start (middle 0 before) (a ∷ (b ∷ [])) end = (sa.0, (r, (gap, (t, no_gap start end)))) in
      let run = joined_run start a b made r gap t af bf some in
      let one : Stands start (middle 0 before) (joined made a b ∷ []) end = (sa.0, (run, no_gap start end)) in
      let has : flat_map live_in (segs start (a ∷ (b ∷ []))) ≡ live_between start a.run.first end =
      segs_live start (a ∷ (b ∷ [])) a.run.first end (no_gap start a.run.first, (r, (gap, (t, no_gap start end)))) in
      let gives : segs start (joined made a b ∷ []) ≡ segment_of (start.made + made) (flat_map live_in (segs start (a ∷ (b ∷ [])))) =
      append-nil (segment_of (start.made + made) (live_between start a.run.first end)) ∙ ap (segment_of (start.made + made)) (sym has) in
      let free : (k : ℕ) → middle 0 before ≤ k → k < end → held_at start k ≡ false = λ k low high.
      split (nat_lt k a.run.first)
      (λ e. sa.0.free k low (ltb-true k a.run.first e))
      (λ f. run.held k (ltb-false k a.run.first f) (omega (arith, high))) in
      remade_step start before (a ∷ (b ∷ [])) (joined made a b ∷ []) after made (middle 0 before) end among sb two one sa.1.1.1.1 free (omega arith) gives
