-- Numbers and ids of items after a change.
use Rattle.std.proofs.Common.{◌≡◌, ℕ, ◌+◌, ◌≤◌, nat_le, Bool, true, false, cond, List, [], ◌∷◌, ◌++◌, length, map, filter, Option, Some, None, refl, sym, ap, subst, ◌∙◌, append-nil, arith}
use Rattle.std.specs.List.{count_by, find, flat_map}
use Rattle.std.specs.Option.{option_map, option_or}
use Rattle.std.specs.Str.{bytes_eq}
use Rattle.std.proofs.lemmas.List.{map-append}
use Rattle.std.proofs.lemmas.List.Concat.{flat_map-append}
use Rattle.std.proofs.lemmas.List.Folds.{find-append}
use Rattle.std.proofs.lemmas.Slice.Eq.{bytes_eq-Decides}
use Rattle.layout.proofs.Ascending.{middle, ascend_first, ascend_second, ascend_both, ascend_filter}
use Rattle.layout.proofs.Goes.{split, counted, counted_both}
use Rattle.layout.specs.Ascending.{Ascend}
use Rattle.layout.specs.Layout.{Marked, SegmentOf, Layout, alive, segment_of, staying, killed_if, killed_in, with_buffer_last, sealed, with_room, buffer_size}

-- ---- numbers

module _ {A : Type 0} (number : A → ℕ) where
  abbrev pub item_number : Marked A → ℕ
  item_number m = number m.item

  abbrev pub numbers_in : SegmentOf A → List ℕ
  numbers_in segment = map item_number segment.items

  abbrev pub numbers_of : List (SegmentOf A) → List A → List ℕ
  numbers_of segments buffer = flat_map numbers_in segments ++ map number buffer

  one_killed : (goes : A → Bool) (m : Marked A) → item_number (killed_if goes m) ≡ item_number m
  one_killed goes m = elim (goes m.item) as (λ b. item_number (cond b (let x : Marked A = record { item = m.item; live = false } in x) m) ≡ item_number m) [
    | true ↦ refl
    | false ↦ refl
  ]

  items_killed : (goes : A → Bool) (ms : List (Marked A)) → map item_number (map (killed_if goes) ms) ≡ map item_number ms
  items_killed goes [] = refl
  items_killed goes (m ∷ ms) = rw (one_killed goes m, items_killed goes ms) refl

  pub segments_killed : (goes : A → Bool) (segments : List (SegmentOf A)) → flat_map numbers_in (map (killed_in goes) segments) ≡ flat_map numbers_in segments
  segments_killed goes [] = refl
  segments_killed goes (s ∷ segments) = rw (items_killed goes s.items, segments_killed goes segments) refl

  all_alive : (xs : List A) → map item_number (map alive xs) ≡ map number xs
  all_alive [] = refl
  all_alive (x ∷ xs) = ap (λ rest. number x ∷ rest) (all_alive xs)

  one_segment : (id : ℕ) (xs : List A) → flat_map numbers_in (segment_of id xs) ≡ map number xs
  one_segment id [] = refl
  one_segment id (x ∷ xs) = append-nil (number x ∷ map item_number (map alive xs)) ∙ ap (λ rest. number x ∷ rest) (all_alive xs)

  last_numbers : (layout : Layout A) → numbers_of (with_buffer_last layout).segments [] ≡ numbers_of layout.segments layout.buffer
  last_numbers layout =
      append-nil (flat_map numbers_in (layout.segments ++ segment_of layout.made layout.buffer))
      ∙ flat_map-append numbers_in layout.segments (segment_of layout.made layout.buffer)
      ∙ ap (λ ns. flat_map numbers_in layout.segments ++ ns) (one_segment layout.made layout.buffer)

  -- where there is no factor
  pub sealed_numbers : (layout : Layout A) → layout.factor ≡ None → numbers_of (sealed layout).segments (sealed layout).buffer ≡ numbers_of layout.segments layout.buffer
  unfolding sealed
  sealed_numbers layout none = rw none (last_numbers layout)

  pub room_numbers : (layout : Layout A) → layout.factor ≡ None → numbers_of (with_room layout).segments (with_room layout).buffer ≡ numbers_of layout.segments layout.buffer
  room_numbers layout none =
      split (nat_le buffer_size (length layout.buffer))
      (λ full. rw full (sealed_numbers layout none))
      (λ room. rw room refl)

  -- numbers ascend still
  pub change_ascends : (goes : A → Bool) (new : List A) (segments : List (SegmentOf A)) (buffer : List A) (next : ℕ) → Ascend 0 (numbers_of segments buffer) next → Ascend next (map number new) (next + 1)
      → Ascend 0 (numbers_of (map (killed_in goes) segments) (filter (staying goes) buffer ++ new)) (next + 1)
  change_ascends goes new segments buffer next is more =
      let mid = middle 0 (flat_map numbers_in segments) in
      let one = ascend_first (flat_map numbers_in segments) (map number buffer) 0 next is in
      let two = ascend_filter number (staying goes) buffer mid next (ascend_second (flat_map numbers_in segments) (map number buffer) 0 next is) in
      let three = ascend_both (map number (filter (staying goes) buffer)) (map number new) mid next (next + 1) two more in
      let four : Ascend mid (map number (filter (staying goes) buffer ++ new)) (next + 1) = subst (λ ns. Ascend mid ns (next + 1)) (sym (map-append number (filter (staying goes) buffer) new)) three in
      subst (λ ns. Ascend 0 (ns ++ map number (filter (staying goes) buffer ++ new)) (next + 1)) (sym (segments_killed goes segments)) (ascend_both (flat_map numbers_in segments) (map number (filter (staying goes) buffer ++ new)) 0 mid (next + 1) one four)

-- ---- ids

module _ {A : Type 0} (key : A → List ℕ) where
  abbrev pub has : List ℕ → A → Bool
  has id x = bytes_eq (key x) id

  no : {C : Type 0} → true ≡ false → C
  no e = absurd (cc (e))

  -- what has one id has no other
  has_other : (x : A) (one other : List ℕ) → has one x ≡ true → bytes_eq one other ≡ false → has other x ≡ false
  has_other x one other is apart = sym (ap (λ id. bytes_eq id other) (sym ((bytes_eq-Decides (key x) one).0 is))) ∙ apart

  has_same : (x : A) (one other : List ℕ) → has other x ≡ true → bytes_eq one other ≡ true → has one x ≡ true
  has_same x one other is same = ap (λ id. bytes_eq (key x) id) ((bytes_eq-Decides one other).0 same) ∙ is

  pub find_staying : (one other : List ℕ) (xs : List A) → find (has other) (filter (staying (has one)) xs) ≡ cond (bytes_eq one other) None (find (has other) xs)
  find_staying one other [] = elim (bytes_eq one other) as (λ b. None ≡ cond b None (find (has other) [])) [
    | true ↦ refl
    | false ↦ refl
  ]
  find_staying one other (x ∷ xs) =
      split (bytes_eq one other)
      (λ same. split (has one x)
      (λ goes. rw (goes, find_staying one other xs, same) refl)
      (λ stays.
      let isnt : has other x ≡ false = split (has other x) (λ is. no (sym (has_same x one other is same) ∙ stays)) (λ isnt. isnt) in
      rw (stays, isnt, find_staying one other xs, same) refl))
      (λ apart. split (has one x)
      (λ goes.
      let isnt : has other x ≡ false = has_other x one other goes apart in
      rw (goes, isnt, find_staying one other xs, apart) refl)
      (λ stays. split (has other x)
      (λ is. rw (stays, is, apart) refl)
      (λ isnt. rw (stays, isnt, find_staying one other xs, apart) refl)))

  pub count_staying : (one other : List ℕ) (xs : List A) → count_by (has other) (filter (staying (has one)) xs) ≤ cond (bytes_eq one other) 0 (count_by (has other) xs)
  count_staying one other [] = elim (bytes_eq one other) as (λ b. 0 ≤ cond b 0 (count_by (has other) [])) [
    | true ↦ omega arith
    | false ↦ omega arith
  ]
  count_staying one other (x ∷ xs) =
      let more = count_staying one other xs in
      let all = counted (has other) x xs in
      split (bytes_eq one other)
      (λ same.
      let none : count_by (has other) (filter (staying (has one)) xs) ≤ 0 = rw same at more in
      split (has one x)
      (λ goes. rw (goes, same) none)
      (λ stays.
      let isnt : has other x ≡ false = split (has other x) (λ is. no (sym (has_same x one other is same) ∙ stays)) (λ isnt. isnt) in
      let zero_more : ◌≡◌ {A = ℕ} (cond (has other x) 1 0) 0 = ap (λ b. cond b 1 0) isnt in
      rw (stays, same) (omega (arith, counted (has other) x (filter (staying (has one)) xs), zero_more, none))))
      (λ apart.
      let less : count_by (has other) (filter (staying (has one)) xs) ≤ count_by (has other) xs = rw apart at more in
      split (has one x)
      (λ goes. rw (goes, apart) (omega (arith, less, all)))
      (λ stays. rw (stays, apart) (omega (arith, less, all, counted (has other) x (filter (staying (has one)) xs)))))

  pub own_ids_taken : (one other : List ℕ) (xs : List A) → count_by (has other) xs ≤ 1 → count_by (has other) (filter (staying (has one)) xs ++ []) ≤ 1
  own_ids_taken one other xs once =
      let left = count_staying one other xs in
      rw (append-nil (filter (staying (has one)) xs)) (split (bytes_eq one other)
      (λ same. let none : count_by (has other) (filter (staying (has one)) xs) ≤ 0 = rw same at left in omega (arith, none))
      (λ apart. let less : count_by (has other) (filter (staying (has one)) xs) ≤ count_by (has other) xs = rw apart at left in omega (arith, less, once)))

  pub own_ids_put : (x : A) (other : List ℕ) (xs : List A) → count_by (has other) xs ≤ 1 → count_by (has other) (filter (staying (has (key x))) xs ++ x ∷ []) ≤ 1
  own_ids_put x other xs once =
      let left = count_staying (key x) other xs in
      let both = counted_both (has other) (filter (staying (has (key x))) xs) (x ∷ []) in
      let last = counted (has other) x [] in
      split (bytes_eq (key x) other)
      (λ same.
      let none : count_by (has other) (filter (staying (has (key x))) xs) ≤ 0 = rw same at left in
      let one : ◌≡◌ {A = ℕ} (cond (has other x) 1 0) 1 = ap (λ b. cond b 1 0) same in
      omega (arith, none, both, last, one))
      (λ apart.
      let less : count_by (has other) (filter (staying (has (key x))) xs) ≤ count_by (has other) xs = rw apart at left in
      let none : ◌≡◌ {A = ℕ} (cond (has other x) 1 0) 0 = ap (λ b. cond b 1 0) apart in
      omega (arith, less, once, both, last, none))

  -- the number under each id
  pub found_taken : {B : Type 0} (number : A → B) (one other : List ℕ) (xs : List A) → option_map number (find (has other) (filter (staying (has one)) xs ++ [])) ≡ cond (bytes_eq one other) None (option_map number (find (has other) xs))
  found_taken number one other xs =
      ap (λ ys. option_map number (find (has other) ys)) (append-nil (filter (staying (has one)) xs))
      ∙ ap (option_map number) (find_staying one other xs)
      ∙ elim (bytes_eq one other) as (λ b. option_map number (cond b None (find (has other) xs)) ≡ cond b None (option_map number (find (has other) xs))) [
        | true ↦ refl
        | false ↦ refl
      ]

  pub found_put : {B : Type 0} (number : A → B) (x : A) (other : List ℕ) (xs : List A) → option_map number (find (has other) (filter (staying (has (key x))) xs ++ x ∷ [])) ≡ cond (bytes_eq (key x) other) (Some (number x)) (option_map number (find (has other) xs))
  found_put number x other xs =
      ap (option_map number) (find-append (has other) (filter (staying (has (key x))) xs) (x ∷ []) ∙ ap (λ o. option_or o (find (has other) (x ∷ []))) (find_staying (key x) other xs))
      ∙ elim (bytes_eq (key x) other) as (λ b. option_map number (option_or (cond b None (find (has other) xs)) (cond b (Some x) None)) ≡ cond b (Some (number x)) (option_map number (find (has other) xs))) [
        | true ↦ refl
        | false ↦ nothing (find (has other) xs)
      ]
    where
      nothing : (o : Option A) → option_map number (option_or o None) ≡ option_map number o
      nothing None = refl
      nothing (Some y) = refl
