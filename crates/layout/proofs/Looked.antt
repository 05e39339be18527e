-- What is looked up by a test is what stands where its number does.
use Rattle.std.proofs.Common.{◌≡◌, ◌⊎◌, inl, inr, ℕ, zero, suc, ◌+◌, ◌<◌, ◌≤◌, Bool, true, cond, List, [], ◌∷◌, ◌++◌, map, filter, slice_get, Option, Some, None, refl, sym, ap, subst, ◌∙◌, arith}
use Rattle.std.specs.List.{count_by, sum_by, find, flat_map}
use Rattle.std.specs.Option.{option_or}
use Rattle.std.proofs.lemmas.List.Folds.{find-append}
use Rattle.std.proofs.lemmas.List.Sums.{sum_by-cons}
use Rattle.layout.specs.Layout.{Marked, SegmentOf, live_in, staying}
use Rattle.layout.proofs.Ascending.{ascend_end, middle, ascend_first, ascend_second}
use Rattle.layout.proofs.Goes.{split, live, counted, none_goes}
use Rattle.layout.specs.Ascending.{Ascend}

none_some : {A C : Type 0} (x : A) → None ≡ Some x → C
none_some x e = absurd (cc (e))

some_is : {A : Type 0} (x y : A) → Some x ≡ Some y → x ≡ y
some_is x y e = cc (e)

module _ {A : Type 0} (goes : A → Bool) where
  pub find_passes : (xs : List A) (b : A) → find goes xs ≡ Some b → goes b ≡ true
  find_passes [] b found = none_some b found
  find_passes (x ∷ xs) b found =
      split (goes x)
      (λ is. let here : Some x ≡ Some b = rw is at found in ap goes (sym (some_is x b here)) ∙ is)
      (λ isnt. find_passes xs b (rw isnt at found))

  pub find_none : (xs : List A) → find goes xs ≡ None → count_by goes xs ≡ 0
  find_none [] none = refl
  find_none (x ∷ xs) none =
      split (goes x)
      (λ is. let here : Some x ≡ None = rw is at none in none_some x (sym here))
      (λ isnt.
      let no : ◌≡◌ {A = ℕ} (cond (goes x) 1 0) 0 = ap (λ b. cond b 1 0) isnt in
      omega (arith, counted goes x xs, no, find_none xs (rw isnt at none)))

  -- without the one that is found a sum is less by that one's share
  pub sum_without : (share : A → ℕ) (xs : List A) (b : A) → count_by goes xs ≤ 1 → find goes xs ≡ Some b → sum_by share (filter (staying goes) xs) + share b ≡ sum_by share xs
  sum_without share [] b one found = none_some b found
  sum_without share (x ∷ xs) b one found =
      split (goes x)
      (λ is.
      let here : x ≡ b = some_is x b (rw is at found) in
      let yes : ◌≡◌ {A = ℕ} (cond (goes x) 1 0) 1 = ap (λ t. cond t 1 0) is in
      let none : count_by goes xs ≡ 0 = omega (arith, one, counted goes x xs, yes) in
      let rest : filter (staying goes) (x ∷ xs) ≡ xs = rw is (none_goes goes xs none) in
      omega (arith, ap (sum_by share) rest, sum_by-cons share x xs, ap share here))
      (λ isnt.
      let no : ◌≡◌ {A = ℕ} (cond (goes x) 1 0) 0 = ap (λ t. cond t 1 0) isnt in
      let less = sum_without share xs b (omega (arith, one, counted goes x xs, no)) (rw isnt at found) in
      let kept : filter (staying goes) (x ∷ xs) ≡ x ∷ filter (staying goes) xs = rw isnt refl in
      omega (arith, less, ap (sum_by share) kept, sum_by-cons share x xs, sum_by-cons share x (filter (staying goes) xs)))

  module _ (number : A → ℕ) where
    abbrev pub marked_number : Marked A → ℕ
    marked_number m = number m.item

    abbrev pub segment_numbers : SegmentOf A → List ℕ
    segment_numbers segment = map marked_number segment.items

    -- ---- one segment's items

    at_within : (ms : List (Marked A)) (from end place : ℕ) (m : Marked A) → Ascend from (map marked_number ms) end → slice_get ms place ≡ Some m → (from ≤ marked_number m) × (marked_number m < end)
    at_within [] from end place m is at = none_some m at
    at_within (first ∷ ms) from end zero m is at =
        let same : number first.item ≡ number m.item = ap marked_number (some_is first m at) in
        (omega (arith, is.0, same), omega (arith, same, ascend_end (map marked_number ms) (number first.item + 1) end is.1))
    at_within (first ∷ ms) from end (suc place) m is at =
        let rest = at_within ms (number first.item + 1) end place m is.1 at in
        (omega (arith, is.0, rest.0), rest.1)

    found_within : (ms : List (Marked A)) (from end : ℕ) (b : A) → Ascend from (map marked_number ms) end → find goes (live goes ms) ≡ Some b → (from ≤ number b) × (number b < end)
    found_within [] from end b is found = none_some b found
    found_within (first ∷ ms) from end b is found =
        let later : find goes (live goes ms) ≡ Some b → (from ≤ number b) × (number b < end) = λ rest.
        let more = found_within ms (number first.item + 1) end b is.1 rest in
        (omega (arith, is.0, more.0), more.1) in
        split first.live
        (λ alive. split (goes first.item)
        (λ passes.
        let here : number first.item ≡ number b = ap number (some_is first.item b (rw (alive, passes) at found)) in
        (omega (arith, is.0, here), omega (arith, here, ascend_end (map marked_number ms) (number first.item + 1) end is.1)))
        (λ fails. later (rw (alive, fails) at found)))
        (λ dead. later (rw dead at found))

    -- the one that is found stands somewhere
    found_place : (ms : List (Marked A)) (b : A) → find goes (live goes ms) ≡ Some b → (place : ℕ) × (slice_get ms place ≡ Some (record { item = b; live = true }))
    found_place [] b found = none_some b found
    found_place (first ∷ ms) b found =
        let later : find goes (live goes ms) ≡ Some b → (place : ℕ) × (slice_get (first ∷ ms) place ≡ Some (record { item = b; live = true })) = λ rest.
        let more = found_place ms b rest in (suc more.0, more.1) in
        split first.live
        (λ alive. split (goes first.item)
        (λ passes.
        let here : first.item ≡ b = some_is first.item b (rw (alive, passes) at found) in
        (zero, ap (λ l. let x : Marked A = record { item = first.item; live = l } in Some x) alive ∙ ap (λ i. let x : Marked A = record { item = i; live = true } in Some x) here))
        (λ fails. later (rw (alive, fails) at found)))
        (λ dead. later (rw dead at found))

    -- ---- segments

    -- what is looked for in two lists is found in the first or in the second
    found_in_two : (xs ys : List A) (b : A) → find goes (xs ++ ys) ≡ Some b → (find goes xs ≡ Some b) ⊎ ((find goes xs ≡ None) × (find goes ys ≡ Some b))
    found_in_two xs ys b found = by (find goes xs) refl
      where
        either : option_or (find goes xs) (find goes ys) ≡ Some b
        either = sym (find-append goes xs ys) ∙ found

        by : (o : Option A) → find goes xs ≡ o → (find goes xs ≡ Some b) ⊎ ((find goes xs ≡ None) × (find goes ys ≡ Some b))
        by (Some x) is = inl (is ∙ sym (ap (λ p. option_or p (find goes ys)) is) ∙ either)
        by None is = inr (is, sym (ap (λ p. option_or p (find goes ys)) is) ∙ either)

    abbrev numbers_all : List (SegmentOf A) → List A → List ℕ
    numbers_all segments buffer = flat_map segment_numbers segments ++ map number buffer

    abbrev live_all : List (SegmentOf A) → List A → List A
    live_all segments buffer = flat_map live_in segments ++ buffer

    pub record IsThere (segments : List (SegmentOf A)) (index place : ℕ) (s : SegmentOf A) (m : Marked A) : Type 0 where
      pub segment : slice_get segments index ≡ Some s
      pub item : slice_get s.items place ≡ Some m

    pub there_within : (segments : List (SegmentOf A)) (from end index place : ℕ) (s : SegmentOf A) (m : Marked A) → Ascend from (flat_map segment_numbers segments) end → IsThere segments index place s m → (from ≤ marked_number m) × (marked_number m < end)
    there_within [] from end index place s m is there = none_some s there.segment
    there_within (first ∷ segments) from end zero place s m is there =
        let own : slice_get first.items place ≡ Some m = ap (λ (x : SegmentOf A). slice_get x.items place) (some_is first s there.segment) ∙ there.item in
        let one = at_within first.items from (middle from (segment_numbers first)) place m (ascend_first (segment_numbers first) (flat_map segment_numbers segments) from end is) own in
        (one.0, omega (arith, one.1, ascend_end (flat_map segment_numbers segments) (middle from (segment_numbers first)) end (ascend_second (segment_numbers first) (flat_map segment_numbers segments) from end is)))
    there_within (first ∷ segments) from end (suc index) place s m is there =
        let rest = there_within segments (middle from (segment_numbers first)) end index place s m (ascend_second (segment_numbers first) (flat_map segment_numbers segments) from end is) (record { segment = there.segment; item = there.item }) in
        let up : from ≤ middle from (segment_numbers first) = ascend_end (segment_numbers first) from (middle from (segment_numbers first)) (ascend_first (segment_numbers first) (flat_map segment_numbers segments) from end is) in
        (omega (arith, up, rest.0), rest.1)

    all_within : (segments : List (SegmentOf A)) (from end : ℕ) (b : A) → Ascend from (flat_map segment_numbers segments) end → find goes (flat_map live_in segments) ≡ Some b → (from ≤ number b) × (number b < end)
    all_within [] from end b is found = none_some b found
    all_within (first ∷ segments) from end b is found =
        let one = ascend_first (segment_numbers first) (flat_map segment_numbers segments) from end is in
        let two = ascend_second (segment_numbers first) (flat_map segment_numbers segments) from end is in
        elim (found_in_two (live_in first) (flat_map live_in segments) b found) [
          | inl here ↦
              let own = found_within first.items from (middle from (segment_numbers first)) b one here in
              (own.0, omega (arith, own.1, ascend_end (flat_map segment_numbers segments) (middle from (segment_numbers first)) end two))
          | inr later ↦
              let own = all_within segments (middle from (segment_numbers first)) end b two later.1 in
              (omega (arith, own.0, ascend_end (segment_numbers first) from (middle from (segment_numbers first)) one), own.1)
        ]

    -- an item's number is less than those of later segments
    pub earlier : (segments : List (SegmentOf A)) (from end one two place other : ℕ) (s t : SegmentOf A) (m n : Marked A) → Ascend from (flat_map segment_numbers segments) end → IsThere segments one place s m → IsThere segments two other t n → one < two
        → marked_number m < marked_number n
    earlier [] from end one two place other s t m n is here there h = none_some s here.segment
    earlier (first ∷ segments) from end one zero place other s t m n is here there h = absurd (omega (arith, h))
    earlier (first ∷ segments) from end zero (suc two) place other s t m n is here there h =
        let own : slice_get first.items place ≡ Some m = ap (λ (x : SegmentOf A). slice_get x.items place) (some_is first s here.segment) ∙ here.item in
        let low = at_within first.items from (middle from (segment_numbers first)) place m (ascend_first (segment_numbers first) (flat_map segment_numbers segments) from end is) own in
        let rest : IsThere segments two other t n = record { segment = there.segment; item = there.item } in
        let high = there_within segments (middle from (segment_numbers first)) end two other t n (ascend_second (segment_numbers first) (flat_map segment_numbers segments) from end is) rest in
        omega (arith, low.1, high.0)
    earlier (first ∷ segments) from end (suc one) (suc two) place other s t m n is here there h =
        earlier segments (middle from (segment_numbers first)) end one two place other s t m n (ascend_second (segment_numbers first) (flat_map segment_numbers segments) from end is)
        (record { segment = here.segment; item = here.item }) (record { segment = there.segment; item = there.item }) (omega (arith, h))

    pub record IsSomewhere (segments : List (SegmentOf A)) (m : Marked A) : Type 0 where
      pub index : ℕ
      pub place : ℕ
      pub segment : SegmentOf A
      pub there : IsThere segments index place segment m

    pub somewhere : (segments : List (SegmentOf A)) (b : A) → find goes (flat_map live_in segments) ≡ Some b → IsSomewhere segments (record { item = b; live = true })
    somewhere [] b found = none_some b found
    somewhere (first ∷ segments) b found =
        elim (found_in_two (live_in first) (flat_map live_in segments) b found) [
          | inl here ↦
              let own = found_place first.items b here in
              record { index = zero; place = own.0; segment = first; there = record { segment = refl; item = own.1 } }
          | inr later ↦
              let rest = somewhere segments b later.1 in
              record { index = suc rest.index; place = rest.place; segment = rest.segment; there = record { segment = rest.there.segment; item = rest.there.item } }
        ]

    -- ---- segments and the buffer

    abbrev alive_all : List A → List (Marked A)
    alive_all [] = []
    alive_all (x ∷ xs) = record { item = x; live = true } ∷ alive_all xs

    alive_live : (xs : List A) → live goes (alive_all xs) ≡ xs
    alive_live [] = refl
    alive_live (x ∷ xs) = ap (λ (rest : List A). x ∷ rest) (alive_live xs)

    alive_numbers : (xs : List A) → map marked_number (alive_all xs) ≡ map number xs
    alive_numbers [] = refl
    alive_numbers (x ∷ xs) = ap (λ rest. number x ∷ rest) (alive_numbers xs)

    buffer_within : (xs : List A) (from end : ℕ) (b : A) → Ascend from (map number xs) end → find goes xs ≡ Some b → (from ≤ number b) × (number b < end)
    buffer_within xs from end b is found =
        found_within (alive_all xs) from end b (subst (λ ns. Ascend from ns end) (sym (alive_numbers xs)) is) (ap (find goes) (alive_live xs) ∙ found)

    -- what is looked for among all is in a segment, below the numbers of the buffer, or in the buffer
    pub record IsKeptBelow (segments : List (SegmentOf A)) (b : A) (mid : ℕ) : Type 0 where
      pub found : find goes (flat_map live_in segments) ≡ Some b
      pub below : number b < mid

    pub record IsBuffered (buffer : List A) (b : A) (mid : ℕ) : Type 0 where
      pub found : find goes buffer ≡ Some b
      pub above : mid ≤ number b

    pub where_found : (segments : List (SegmentOf A)) (buffer : List A) (from end : ℕ) (b : A) → Ascend from (numbers_all segments buffer) end → find goes (live_all segments buffer) ≡ Some b
        → IsKeptBelow segments b (middle from (flat_map segment_numbers segments)) ⊎ IsBuffered buffer b (middle from (flat_map segment_numbers segments))
    where_found segments buffer from end b is found =
        let one = ascend_first (flat_map segment_numbers segments) (map number buffer) from end is in
        let two = ascend_second (flat_map segment_numbers segments) (map number buffer) from end is in
        elim (found_in_two (flat_map live_in segments) buffer b found) [
          | inl here ↦ inl (record { found = here; below = (all_within segments from (middle from (flat_map segment_numbers segments)) b one here).1 })
          | inr later ↦ inr (record { found = later.1; above = (buffer_within buffer (middle from (flat_map segment_numbers segments)) end b two later.1).0 })
        ]
