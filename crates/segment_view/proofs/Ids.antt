-- Different ids and own live bits stay so where some entries give way to one or to none.
use Rattle.std.proofs.Common.{◌≡◌, ◌≢◌, ℕ, suc, ◌+◌, ◌≤◌, List, [], ◌∷◌, ◌++◌, take, drop, get_or, Option, Some, None, IfSome, sym, subst, arith}
use Rattle.std.specs.List.{All, AllPairs}
use Rattle.std.proofs.lemmas.List.{get_or-take, get_or-drop, get_or_default, length-take, length-drop}
use Rattle.std.proofs.lemmas.List.Elements.{All-append, All-tail, All-take, All-drop, All-cons}
use Rattle.std.proofs.lemmas.List.Kept.{AllPairs-cons}
use Rattle.segment.specs.Live.{EntryState, IsLiveOver}
use Rattle.segment_view.specs.Views.{HaveOwnBits, HaveOwnIds, IsNewId, IsView, replaced}

module _ {X : Type 0} (R : X → X → Type 0) where
  first_pairs : (x : X) (xs : List X) → AllPairs R (x ∷ xs) → All (R x) xs
  first_pairs x xs a = λ k d h. a 0 (suc k) d (omega arith) (omega (arith, h))

  later_pairs : (x : X) (xs : List X) → AllPairs R (x ∷ xs) → AllPairs R xs
  later_pairs x xs a = λ i j d h k. a (suc i) (suc j) d (omega (arith, h)) (omega (arith, k))

  joined : (xs rest : List X) → AllPairs R xs → AllPairs R rest → All (λ x. All (R x) rest) xs → AllPairs R (xs ++ rest)
  joined [] rest a b across = b
  joined (x ∷ xs) rest a b across =
      AllPairs-cons R x (xs ++ rest) (All-append (R x) xs rest (first_pairs x xs a) (across 0 x (omega arith)))
      (joined xs rest (later_pairs x xs a) b (All-tail (λ y. All (R y) rest) x xs across))

  taken : (n : ℕ) (xs : List X) → AllPairs R xs → AllPairs R (take n xs)
  taken n xs a = λ i j d h k.
      let one : get_or (take n xs) i d ≡ get_or xs i d = get_or-take n xs i d (omega (arith, h, k, length-take n xs)) in
      let two : get_or (take n xs) j d ≡ get_or xs j d = get_or-take n xs j d (omega (arith, k, length-take n xs)) in
      rw (one, two) (a i j d h (omega (arith, k, length-take n xs)))

  dropped : (n : ℕ) (xs : List X) → AllPairs R xs → AllPairs R (drop n xs)
  dropped n xs a = λ i j d h k.
      rw (get_or-drop n xs i d, get_or-drop n xs j d) (a (n + i) (n + j) d (omega (arith, h)) (omega (arith, k, length-drop n xs)))

  across : (n m : ℕ) (xs : List X) → n ≤ m → AllPairs R xs → All (λ x. All (R x) (drop m xs)) (take n xs)
  across n m xs before a = λ i d h j e k.
      let one : get_or (take n xs) i d ≡ get_or xs i d = get_or-take n xs i d (omega (arith, h, length-take n xs)) in
      let two : get_or (drop m xs) j e ≡ get_or xs (m + j) e = get_or-drop m xs j e in
      let same : get_or xs i d ≡ get_or xs i e = get_or_default xs i d e (omega (arith, h, length-take n xs)) in
      rw (one, two, same) (a i (m + j) e (omega (arith, h, before, length-take n xs)) (omega (arith, k, length-drop m xs)))

  cut : (n m : ℕ) (xs : List X) → n ≤ m → AllPairs R xs → AllPairs R (take n xs ++ drop m xs)
  cut n m xs before a = joined (take n xs) (drop m xs) (taken n xs a) (dropped m xs a) (across n m xs before a)

  put : (n m : ℕ) (x : X) (xs : List X) → n ≤ m → AllPairs R xs → All (λ y. R y x) xs → All (R x) xs → AllPairs R (take n xs ++ (x ∷ drop m xs))
  put n m x xs before a to from =
      joined (take n xs) (x ∷ drop m xs) (taken n xs a)
      (AllPairs-cons R x (drop m xs) (All-drop (R x) m xs from) (dropped m xs a))
      (λ i d h. All-cons (R (get_or (take n xs) i d)) x (drop m xs) (All-take (λ y. R y x) n xs to i d h) (across n m xs before a i d h))

abbrev differ : EntryState → EntryState → Type 0
differ one other = one.id ≢ other.id

pub own_ids : (now xs ys : List EntryState) (from count : ℕ) (by : Option EntryState) → xs ≡ now → ys ≡ replaced from count by xs → HaveOwnIds xs → IfSome by (λ entry. IsNewId now entry.id) → HaveOwnIds ys
own_ids now xs ys from count None same is own new =
    subst HaveOwnIds (sym is) (cut differ from (from + count) xs (omega arith) own)
own_ids now xs ys from count (Some entry) same is own new =
    let to : IsNewId xs entry.id = subst (λ (es : List EntryState). IsNewId es entry.id) (sym same) new in
    subst HaveOwnIds (sym is) (put differ from (from + count) entry xs (omega arith) own to (λ k d h. λ other. to k d h (sym other)))

own_bits : (xs ys : List EntryState) (from count : ℕ) (by : Option EntryState) → ys ≡ replaced from count by xs → HaveOwnBits xs → IfSome by (λ entry. IsLiveOver entry.columns entry.live) → HaveOwnBits ys
own_bits xs ys from count None is own new =
    subst HaveOwnBits (sym is) (All-append (λ (entry : EntryState). IsLiveOver entry.columns entry.live) (take from xs) (drop (from + count) xs) (All-take (λ (entry : EntryState). IsLiveOver entry.columns entry.live) from xs own) (All-drop (λ (entry : EntryState). IsLiveOver entry.columns entry.live) (from + count) xs own))
own_bits xs ys from count (Some entry) is own new =
    subst HaveOwnBits (sym is) (All-append (λ (entry : EntryState). IsLiveOver entry.columns entry.live) (take from xs) (entry ∷ drop (from + count) xs) (All-take (λ (entry : EntryState). IsLiveOver entry.columns entry.live) from xs own)
    (All-cons (λ (entry : EntryState). IsLiveOver entry.columns entry.live) entry (drop (from + count) xs) new (All-drop (λ (entry : EntryState). IsLiveOver entry.columns entry.live) (from + count) xs own)))

pub own_view : (now xs ys : List EntryState) (from count : ℕ) (by : Option EntryState) → xs ≡ now → ys ≡ replaced from count by xs → IsView xs → IfSome by (λ entry. IsNewId now entry.id) → IfSome by (λ entry. IsLiveOver entry.columns entry.live) → IsView ys
own_view now xs ys from count by same is own new over = record { ids = own_ids now xs ys from count by same is own.ids new; bits = own_bits xs ys from count by is own.bits over }
