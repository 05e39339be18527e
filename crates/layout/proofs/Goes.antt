-- One live item goes: what becomes of marked items, of segments and of the buffer, where no other item goes.
use Rattle.std.proofs.Common.{◌≡◌, ℕ, zero, suc, ◌+◌, ◌≤◌, Bool, true, false, cond, List, [], ◌∷◌, ◌++◌, map, filter, take, drop, set, slice_get, Some, refl, sym, ap, ◌∙◌, arith}
use Rattle.std.specs.List.{count_by, flat_map}
use Rattle.std.proofs.lemmas.List.Sums.{sum_by-cons, sum_by-append}
use Rattle.layout.specs.Layout.{Marked, SegmentOf, is_live, item_in, live_in, staying, killed_if, killed_in}

-- cases of a test, with its equation
pub split : {C : Type 0} (t : Bool) → (t ≡ true → C) → (t ≡ false → C) → C
split true left right = left refl
split false left right = right refl

pub true_false : {C : Type 0} → true ≡ false → C
true_false e = absurd (cc (e))

module _ {A : Type 0} (goes : A → Bool) where
  pub counted : (x : A) (xs : List A) → count_by goes (x ∷ xs) ≡ cond (goes x) 1 0 + count_by goes xs
  counted x xs = sum_by-cons (λ y. cond (goes y) 1 0) x xs

  pub counted_both : (xs ys : List A) → count_by goes (xs ++ ys) ≡ count_by goes xs + count_by goes ys
  counted_both xs ys = sum_by-append (λ y. cond (goes y) 1 0) xs ys

  counted_one : (x : A) (xs : List A) → goes x ≡ true → count_by goes (x ∷ xs) ≡ 1 + count_by goes xs
  counted_one x xs is = counted x xs ∙ ap (λ b. cond b 1 0 + count_by goes xs) is

  counted_no : (x : A) (xs : List A) → goes x ≡ false → count_by goes (x ∷ xs) ≡ count_by goes xs
  counted_no x xs isnt =
      let no : ◌≡◌ {A = ℕ} (cond (goes x) 1 0) 0 = ap (λ b. cond b 1 0) isnt in
      omega (arith, counted x xs, no)

  -- where none goes, the first doesn't, nor do the others
  none_first : (x : A) (xs : List A) → count_by goes (x ∷ xs) ≡ 0 → (goes x ≡ false) × (count_by goes xs ≡ 0)
  none_first x xs none =
      split (goes x)
      (λ is. absurd (omega (arith, none, counted_one x xs is)))
      (λ isnt. (isnt, sym (counted_no x xs isnt) ∙ none))

  pub none_goes : (xs : List A) → count_by goes xs ≡ 0 → filter (staying goes) xs ≡ xs
  none_goes [] none = refl
  none_goes (x ∷ xs) none =
      let first = none_first x xs none in
      rw first.0 (ap (λ (rest : List A). x ∷ rest) (none_goes xs first.1))

  -- ---- marked items

  abbrev pub live : List (Marked A) → List A
  live marked = map item_in (filter is_live marked)

  live_first : (m : Marked A) (ms : List (Marked A)) → m.live ≡ true → live (m ∷ ms) ≡ m.item ∷ live ms
  live_first m ms is = rw is refl

  dead_first : (m : Marked A) (ms : List (Marked A)) → m.live ≡ false → live (m ∷ ms) ≡ live ms
  dead_first m ms isnt = rw isnt refl

  same_dead : (m : Marked A) → m.live ≡ false → killed_if goes m ≡ m
  same_dead m isnt =
      split (goes m.item)
      (λ is. rw is (ap (λ l. let same : Marked A = record { item = m.item; live = l } in same) (sym isnt)))
      (λ not. rw not refl)

  pub none_killed : (ms : List (Marked A)) → count_by goes (live ms) ≡ 0 → map (killed_if goes) ms ≡ ms
  none_killed [] none = refl
  none_killed (m ∷ ms) none =
      split m.live
      (λ is.
      let first = none_first m.item (live ms) (sym (ap (count_by goes) (live_first m ms is)) ∙ none) in
      rw first.0 (ap (λ (rest : List (Marked A)). m ∷ rest) (none_killed ms first.1)))
      (λ isnt. rw (same_dead m isnt) (ap (λ (rest : List (Marked A)). m ∷ rest) (none_killed ms (sym (ap (count_by goes) (dead_first m ms isnt)) ∙ none))))

  abbrev pub dead : ℕ → List (Marked A) → List (Marked A)
  dead place [] = []
  dead zero (m ∷ ms) = record { item = m.item; live = false } ∷ ms
  dead (suc place) (m ∷ ms) = m ∷ dead place ms

  pub dead_items : {B : Type 0} (f : A → B) (place : ℕ) (ms : List (Marked A)) → map (λ (m : Marked A). f m.item) (dead place ms) ≡ map (λ (m : Marked A). f m.item) ms
  dead_items f place [] = refl
  dead_items f zero (m ∷ ms) = refl
  dead_items f (suc place) (m ∷ ms) = ap (λ rest. f m.item ∷ rest) (dead_items f place ms)

  -- a live item that goes is counted
  some_goes : (ms : List (Marked A)) (place : ℕ) (m : Marked A) → slice_get ms place ≡ Some m → m.live ≡ true → goes m.item ≡ true → 1 ≤ count_by goes (live ms)
  some_goes [] place m at is may = absurd (cc (at))
  some_goes (first ∷ ms) zero m at is may =
      let same : first ≡ m = cc (at) in
      let alive : first.live ≡ true = ap (λ (x : Marked A). x.live) same ∙ is in
      let passes : goes first.item ≡ true = ap (λ (x : Marked A). goes x.item) same ∙ may in
      omega (arith, ap (count_by goes) (live_first first ms alive), counted_one first.item (live ms) passes)
  some_goes (first ∷ ms) (suc place) m at is may =
      let rest = some_goes ms place m at is may in
      split first.live
      (λ alive. split (goes first.item)
      (λ passes. omega (arith, ap (count_by goes) (live_first first ms alive), counted_one first.item (live ms) passes))
      (λ fails. omega (arith, rest, ap (count_by goes) (live_first first ms alive), counted_no first.item (live ms) fails)))
      (λ isnt. omega (arith, rest, ap (count_by goes) (dead_first first ms isnt)))

  -- the one that goes is dead, and the others stay as they are
  pub one_killed : (ms : List (Marked A)) (place : ℕ) (m : Marked A) → count_by goes (live ms) ≤ 1 → slice_get ms place ≡ Some m → m.live ≡ true → goes m.item ≡ true → map (killed_if goes) ms ≡ dead place ms
  one_killed [] place m one at is may = absurd (cc (at))
  one_killed (first ∷ ms) zero m one at is may =
      let same : first ≡ m = cc (at) in
      let alive : first.live ≡ true = ap (λ (x : Marked A). x.live) same ∙ is in
      let passes : goes first.item ≡ true = ap (λ (x : Marked A). goes x.item) same ∙ may in
      let none : count_by goes (live ms) ≡ 0 = omega (arith, one, ap (count_by goes) (live_first first ms alive), counted_one first.item (live ms) passes) in
      rw (passes, none_killed ms none) refl
  one_killed (first ∷ ms) (suc place) m one at is may =
      let some = some_goes ms place m at is may in
      split first.live
      (λ alive. split (goes first.item)
      (λ passes. absurd (omega (arith, one, some, ap (count_by goes) (live_first first ms alive), counted_one first.item (live ms) passes)))
      (λ fails.
      let less : count_by goes (live ms) ≤ 1 = omega (arith, one, ap (count_by goes) (live_first first ms alive), counted_no first.item (live ms) fails) in
      rw (fails, one_killed ms place m less at is may) refl))
      (λ isnt.
      let less : count_by goes (live ms) ≤ 1 = omega (arith, one, ap (count_by goes) (dead_first first ms isnt)) in
      rw (same_dead first isnt, one_killed ms place m less at is may) refl)

  -- ---- segments

  pub none_in : (segments : List (SegmentOf A)) → count_by goes (flat_map live_in segments) ≡ 0 → map (killed_in goes) segments ≡ segments
  none_in [] none = refl
  none_in (s ∷ segments) none =
      let both = counted_both (live_in s) (flat_map live_in segments) in
      let first : count_by goes (live s.items) ≡ 0 = omega (arith, none, both) in
      rw (none_killed s.items first, none_in segments (omega (arith, none, both))) refl

  abbrev pub dead_in : ℕ → SegmentOf A → SegmentOf A
  dead_in place segment = record segment { items = dead place segment.items }

  pub some_in : (segments : List (SegmentOf A)) (index place : ℕ) (s : SegmentOf A) (m : Marked A) → slice_get segments index ≡ Some s → slice_get s.items place ≡ Some m → m.live ≡ true → goes m.item ≡ true → 1 ≤ count_by goes (flat_map live_in segments)
  some_in [] index place s m here at is may = absurd (cc (here))
  some_in (first ∷ segments) zero place s m here at is may =
      let same : first ≡ s = cc (here) in
      let own : slice_get first.items place ≡ Some m = ap (λ (x : SegmentOf A). slice_get x.items place) same ∙ at in
      omega (arith, some_goes first.items place m own is may, counted_both (live_in first) (flat_map live_in segments))
  some_in (first ∷ segments) (suc index) place s m here at is may =
      omega (arith, some_in segments index place s m here at is may, counted_both (live_in first) (flat_map live_in segments))

  pub one_in : (segments : List (SegmentOf A)) (index place : ℕ) (s : SegmentOf A) (m : Marked A) → count_by goes (flat_map live_in segments) ≤ 1 → slice_get segments index ≡ Some s → slice_get s.items place ≡ Some m → m.live ≡ true → goes m.item ≡ true
      → map (killed_in goes) segments ≡ set segments index (dead_in place s)
  one_in [] index place s m one here at is may = absurd (cc (here))
  one_in (first ∷ segments) zero place s m one here at is may =
      let same : first ≡ s = cc (here) in
      let own : slice_get first.items place ≡ Some m = ap (λ (x : SegmentOf A). slice_get x.items place) same ∙ at in
      let both = counted_both (live_in first) (flat_map live_in segments) in
      let none : count_by goes (flat_map live_in segments) ≡ 0 = omega (arith, one, both, some_goes first.items place m own is may) in
      rw (one_killed first.items place m (omega (arith, one, both)) own is may, none_in segments none) (ap (λ (x : SegmentOf A). dead_in place x ∷ segments) same)
  one_in (first ∷ segments) (suc index) place s m one here at is may =
      let both = counted_both (live_in first) (flat_map live_in segments) in
      let none : count_by goes (live first.items) ≡ 0 = omega (arith, one, both, some_in segments index place s m here at is may) in
      rw (none_killed first.items none, one_in segments index place s m (omega (arith, one, both)) here at is may) refl

  -- ---- the buffer

  pub some_at : (xs : List A) (place : ℕ) (x : A) → slice_get xs place ≡ Some x → goes x ≡ true → 1 ≤ count_by goes xs
  some_at [] place x at may = absurd (cc (at))
  some_at (first ∷ xs) zero x at may =
      let same : first ≡ x = cc (at) in
      omega (arith, counted_one first xs (ap goes same ∙ may))
  some_at (first ∷ xs) (suc place) x at may =
      split (goes first)
      (λ passes. omega (arith, counted_one first xs passes))
      (λ fails. omega (arith, counted_no first xs fails, some_at xs place x at may))

  pub one_taken : (xs : List A) (place : ℕ) (x : A) → count_by goes xs ≤ 1 → slice_get xs place ≡ Some x → goes x ≡ true → filter (staying goes) xs ≡ take place xs ++ drop (place + 1) xs
  one_taken [] place x one at may = absurd (cc (at))
  one_taken (first ∷ xs) zero x one at may =
      let same : first ≡ x = cc (at) in
      let passes : goes first ≡ true = ap goes same ∙ may in
      rw (passes, none_goes xs (omega (arith, one, counted_one first xs passes))) refl
  one_taken (first ∷ xs) (suc place) x one at may =
      split (goes first)
      (λ passes. absurd (omega (arith, one, counted_one first xs passes, some_at xs place x at may)))
      (λ fails.
      let e : suc place + 1 ≡ suc (place + 1) = omega arith in
      rw (fails, e, one_taken xs place x (omega (arith, one, counted_no first xs fails)) at may) refl)
