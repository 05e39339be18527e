-- The bound on segments after settling where no merge is open.
use Rattle.std.proofs.Common.{◌≡◌, ℕ, suc, ◌+◌, ◌-◌, ◌*◌, ◌^◌, ◌<◌, ◌≤◌, nat_lt, false, not, ◌&&◌, List, [], ◌∷◌, ◌++◌, length, filter, Some, sym, ap, subst, ◌∙◌, length-append, arith}
use Rattle.std.specs.List.{All, flat_map, list_any}
use Rattle.std.proofs.Math.Nat.{mul_comm, mul-le-mul_right, pow-zero}
use Rattle.std.proofs.lemmas.Bool.{ltb-false}
use Rattle.std.proofs.lemmas.Grind.{pow_more}
use Rattle.std.proofs.lemmas.List.Elements.{All-nil, All-cons}
use Rattle.layout.proofs.Goes.{split}
use Rattle.layout.specs.Layout.{SegmentOf, Layout, live_in, live_count, dead_count, covers, settled, with_buffer_last, sealed}
use Rattle.layout.specs.Settled.{HasFewSegments}
use Rattle.merge_policy.proofs.Passes.{Lively, Even, EvenFirst, anew, left_lively, left_stands, even_lively, even_stands, anew_stands, all_are_even, firsts, firsts_stand, settles}
use Rattle.merge_policy.proofs.Places.{Has}
use Rattle.merge_policy.proofs.Standing.{segs, IsRun, Stands, segs_length}
use Rattle.merge_policy.proofs.Steps.{mean, AreAmong}
use Rattle.merge_policy.specs.Policy.{stays, all_even, is_too_dead, made_anew, all_anew}
use Rattle.merge_policy.specs.Runs.{run_segment}
use Rattle.merge_policy.specs.declared.neighbours.Neighbour.{Neighbour}

-- ---- what is made anew has as many live items as before

anew_first : (factor : ℕ) (a : Neighbour) (made : ℕ) (ns : List Neighbour) → EvenFirst factor a ns → EvenFirst factor a (all_anew made ns).neighbours
anew_first factor a made [] e = tt
anew_first factor a made (b ∷ ns) e =
    split (is_too_dead b)
    (λ t. subst (λ x. EvenFirst factor a (anew b (all_anew made ns).neighbours (all_anew made ns).made x).neighbours) (sym t) e)
    (λ f. subst (λ x. EvenFirst factor a (anew b (all_anew made ns).neighbours (all_anew made ns).made x).neighbours) (sym f) e)

anew_even : (factor made : ℕ) (ns : List Neighbour) → Even factor ns → Even factor (all_anew made ns).neighbours
anew_even factor made [] e = tt
anew_even factor made (a ∷ ns) e =
    split (is_too_dead a)
    (λ t. subst (λ x. Even factor (anew a (all_anew made ns).neighbours (all_anew made ns).made x).neighbours) (sym t) (again (all_anew made ns).neighbours (all_anew made ns).made (anew_first factor a made ns e.0), anew_even factor made ns e.1))
    (λ f. subst (λ x. Even factor (anew a (all_anew made ns).neighbours (all_anew made ns).made x).neighbours) (sym f) (anew_first factor a made ns e.0, anew_even factor made ns e.1)) where
      again : (later : List Neighbour) (n : ℕ) → EvenFirst factor a later → EvenFirst factor (made_anew n a) later
      again [] n h = tt
      again (b ∷ later) n h = h

anew_lively : (made : ℕ) (ns : List Neighbour) → Lively ns → Lively (all_anew made ns).neighbours
anew_lively made [] l = tt
anew_lively made (a ∷ ns) l =
    split (is_too_dead a)
    (λ t. subst (λ x. Lively (anew a (all_anew made ns).neighbours (all_anew made ns).made x).neighbours) (sym t) (l.0, anew_lively made ns l.1))
    (λ f. subst (λ x. Lively (anew a (all_anew made ns).neighbours (all_anew made ns).made x).neighbours) (sym f) (l.0, anew_lively made ns l.1))

-- what is free has no more dead than live items
abbrev pub Sound : List Neighbour → Type 0
Sound [] = Unit {0}
Sound (a ∷ ns) = (a.count.held ≡ false → a.count.dead ≤ a.count.live) × Sound ns

anew_sound : (made : ℕ) (ns : List Neighbour) → Sound (all_anew made ns).neighbours
anew_sound made [] = tt
anew_sound made (a ∷ ns) =
    split (is_too_dead a)
    (λ t. subst (λ x. Sound (anew a (all_anew made ns).neighbours (all_anew made ns).made x).neighbours) (sym t) ((λ _. omega arith), anew_sound made ns))
    (λ f. subst (λ x. Sound (anew a (all_anew made ns).neighbours (all_anew made ns).made x).neighbours) (sym f)
    ((λ free. ltb-false a.count.live a.count.dead (sym (ap (λ h. not h && nat_lt a.count.live a.count.dead) free) ∙ f)), anew_sound made ns))

-- ---- each more multiplies

-- all are free
abbrev pub Free : List Neighbour → Type 0
Free [] = Unit {0}
Free (a ∷ ns) = (a.count.held ≡ false) × Free ns

stands_free : {A : Type 0} (start : Layout A) (ns : List Neighbour) (from end : ℕ) → start.merges ≡ [] → Stands start from ns end → Free ns
stands_free start [] from end none s = tt
stands_free start (a ∷ ns) from end none s =
    let ordered = s.1.0.ordered in
    (sym (s.1.0.held a.run.first (omega arith) ordered) ∙ ap (list_any (covers a.run.first)) none, stands_free start ns (a.run.last + 1) end none s.1.1)

times_more : (factor n live next : ℕ) → factor ^ n ≤ next → factor * next ≤ live → factor ^ suc n ≤ live
times_more factor n live next h k =
    let e : suc n ≡ n + 1 = omega arith in
    let p : factor ^ suc n ≡ factor ^ n * factor = ap (λ c. factor ^ c) e ∙ pow_more factor n in
    let q : factor ^ n * factor ≤ next * factor = mul-le-mul_right factor h in
    let r : next * factor ≡ factor * next = mul_comm next factor in
    omega (arith, p, q, r, k)

pub first_has_most : (factor : ℕ) (a : Neighbour) (later : List Neighbour) → Free (a ∷ later) → Lively (a ∷ later) → Even factor (a ∷ later) → factor ^ length later ≤ a.count.live
first_has_most factor a [] free lively even = let some = lively.0 free.0 in let one : factor ^ 0 ≡ 1 = pow-zero factor in omega (arith, one, some)
first_has_most factor a (b ∷ later) free lively even =
    let rest = first_has_most factor b later free.1 lively.1 even.1 in
    let low : nat_lt a.count.live (factor * b.count.live) ≡ false =
    sym (ap (λ h. not h && (not b.count.held && nat_lt a.count.live (factor * b.count.live))) free.0 ∙ ap (λ h. not h && nat_lt a.count.live (factor * b.count.live)) free.1.0) ∙ even.0 in
    times_more factor (length later) a.count.live b.count.live rest (ltb-false a.count.live (factor * b.count.live) low)

-- ---- their segments

all_both : {X : Type 0} (P : X → Type 0) (xs ys : List X) (x : X) → xs ≡ x ∷ [] → P x → All P ys → All P (xs ++ ys)
all_both P xs ys x e p rest = subst (λ zs. All P (zs ++ ys)) (sym e) (All-cons P x ys p rest)

segs_lively : {A : Type 0} (start : Layout A) (ns : List Neighbour) (from end : ℕ) → Stands start from ns end → Free ns → Lively ns → All (λ (segment : SegmentOf A). 0 < live_count segment) (segs start ns)
segs_lively start [] from end s free lively = All-nil (λ segment. 0 < live_count segment)
segs_lively start (a ∷ ns) from end s free lively =
    let some = lively.0 free.0 in
    let n = s.1.0.lives in
    all_both (λ segment. 0 < live_count segment) (run_segment start a.run) (segs start ns) s.1.0.one s.1.0.is (subst (λ k. 0 < k) (sym n) some)
    (segs_lively start ns (a.run.last + 1) end s.1.1 free.1 lively.1)

segs_sound : {A : Type 0} (start : Layout A) (ns : List Neighbour) (from end : ℕ) → Stands start from ns end → Free ns → Sound ns → All (λ (segment : SegmentOf A). dead_count segment ≤ live_count segment) (segs start ns)
segs_sound start [] from end s free sound = All-nil (λ segment. dead_count segment ≤ live_count segment)
segs_sound start (a ∷ ns) from end s free sound =
    let less = sound.0 free.0 in
    let n = s.1.0.lives in
    let m = s.1.0.deads in
    all_both (λ segment. dead_count segment ≤ live_count segment) (run_segment start a.run) (segs start ns) s.1.0.one s.1.0.is (subst (λ k. k ≤ live_count s.1.0.one) (sym m) (subst (λ k. a.count.dead ≤ k) (sym n) less))
    (segs_sound start ns (a.run.last + 1) end s.1.1 free.1 sound.1)

first_within : {A : Type 0} (start : Layout A) (a : Neighbour) (ns : List Neighbour) (rest : List A) → IsRun start a → a.count.live ≤ length (flat_map live_in (segs start (a ∷ ns)) ++ rest)
first_within start a ns rest r =
    let e : flat_map live_in (segs start (a ∷ ns)) ≡ live_in r.one ++ flat_map live_in (segs start ns) = ap (λ ss. flat_map live_in (ss ++ segs start ns)) r.is in
    let n = length-append (flat_map live_in (segs start (a ∷ ns))) rest in
    let m = length-append (live_in r.one) (flat_map live_in (segs start ns)) in
    let l : length (live_in r.one) ≡ a.count.live = r.lives in
    omega (arith, n, m, ap length e, l)

few_of : {A : Type 0} (start : Layout A) (factor made : ℕ) (ns : List Neighbour) → Stands start 0 ns (length start.segments) → Free ns → Lively ns → Even factor ns → Sound ns → HasFewSegments factor (mean start ns made)
few_of {A} start factor made ns s free lively even sound = record {
  few = few ns s free lively even;
  live = segs_lively start ns 0 (length start.segments) s free lively;
  dead = segs_sound start ns 0 (length start.segments) s free sound;
} where
  few : (xs : List Neighbour) → Stands start 0 xs (length start.segments) → Free xs → Lively xs → Even factor xs
      → 0 < length (segs start xs) → factor ^ (length (segs start xs) - 1) ≤ length (flat_map live_in (segs start xs) ++ start.buffer)
  few [] t f l e h = absurd (omega (arith, h))
  few (a ∷ xs) t f l e h =
      let n = segs_length start (a ∷ xs) 0 (length start.segments) t in
      let m : length (segs start (a ∷ xs)) - 1 ≡ length xs = omega (arith, n) in
      let p : factor ^ (length (segs start (a ∷ xs)) - 1) ≡ factor ^ length xs = ap (λ c. factor ^ c) m in
      let q = first_has_most factor a xs f l e in
      let r = first_within start a xs start.buffer t.1.0 in
      omega (arith, p, q, r)

-- ---- settled, and sealed

none_among : {A : Type 0} (start : Layout A) → start.merges ≡ [] → AreAmong start
none_among start none m has = absurd (subst (Has m) none has)

pub settled_few : {A : Type 0} (factor : ℕ) (start : Layout A) → start.merges ≡ [] → HasFewSegments factor (settled (Some factor) start)
settled_few {A} factor start none =
    let end : ℕ = length start.segments in
    let left : List Neighbour = filter stays (firsts start) in
    let lively = left_lively (firsts start) in
    let stands = left_stands start (firsts start) 0 end (firsts_stand start) in
    let even : List Neighbour = (all_even factor left).neighbours in
    let more : ℕ = (all_even factor left).made in
    let even_stand = even_stands start factor left 0 end stands lively in
    let now = anew_stands start more even 0 end even_stand (even_lively factor left lively) in
    subst (HasFewSegments {A = A} factor) (sym (settles factor start (none_among start none)))
    (few_of start factor (all_anew more even).made (all_anew more even).neighbours now (stands_free start (all_anew more even).neighbours 0 end none now)
    (anew_lively more even (even_lively factor left lively)) (anew_even factor more even (all_are_even factor left)) (anew_sound more even))

pub sealed_few : {A : Type 0} (factor : ℕ) (layout : Layout A) → layout.factor ≡ Some factor → layout.merges ≡ [] → HasFewSegments factor (sealed layout)
unfolding sealed
sealed_few {A} factor layout set none =
    subst (λ o. HasFewSegments {A = A} factor (settled o (with_buffer_last layout))) (sym set) (settled_few factor (with_buffer_last layout) none)
