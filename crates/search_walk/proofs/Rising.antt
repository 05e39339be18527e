-- Of names that rise by their lengths and bytes none comes twice.
use Rattle.std.proofs.Common.{◌≡◌, ◌∙◌, sym, ap, ℕ, ◌+◌, ◌<◌, Bool, true, false, ◌||◌, List as Seq, [], ◌∷◌, map, length, get_or, bytes_eq, refl, Ordering, Less, Equal, Greater, nat_cmp}
use Rattle.std.proofs.lemmas.Bool.{false≢true}
use Rattle.std.proofs.lemmas.Cmp.{tied_itself, nat_cmp_total, on_total, then_total}
use Rattle.std.proofs.lemmas.Map.Keys.{sorted_from_all_adjacent}
use Rattle.std.specs.Cmp.{IsTotalOrder}
use Rattle.std.specs.Cmp.Lexicographic.{slice_cmp, nat_list_cmp_total, texts_ties}
use Rattle.std.specs.List.{list_any, AllByRecursion}
use Rattle.std.specs.List.Sorted.{IsStrictlySortedBy}
use Rattle.std.specs.Ordering.{is_eq, ordering_then}
use lib.Pointwise.{pointwise_long}
use denote.Ref.{Bor}
use Rattle.search_walk.specs.Refusal.{has_twice}

abbrev Name : Type 0
Name = Bor (Seq ℕ)

abbrev pub by_length : Seq ℕ → Seq ℕ → Ordering
by_length x y = ordering_then (nat_cmp (length x) (length y)) (slice_cmp nat_cmp x y)

abbrev by_name : Name → Name → Ordering
by_name x y = by_length x.now y.now

by_name_total : IsTotalOrder by_name
by_name_total = on_total (λ (n : Name). n.now) (then_total (on_total (λ (s : Seq ℕ). length s) nat_cmp_total) nat_list_cmp_total)

-- what is equal twice is not less
not_less : (r s : Ordering) → is_eq r ≡ true → is_eq s ≡ true → ordering_then r s ≡ Less → true ≡ false
not_less Less s p q h = absurd (false≢true p)
not_less Greater s p q h = absurd (false≢true p)
not_less Equal s p q h = sym q ∙ ap is_eq h

apart : (x y : Seq ℕ) (b : Bool) → bytes_eq x y ≡ b → by_length x y ≡ Less → b ≡ false
apart x y false e h = refl
apart x y true e h =
    let long : length x ≡ length y = pointwise_long _ x y e in
    let lengths : is_eq (nat_cmp (length x) (length y)) ≡ true = ap (λ n. is_eq (nat_cmp (length x) n)) (sym long) ∙ ap is_eq (tied_itself nat_cmp_total (length x)) in
    not_less (nat_cmp (length x) (length y)) (slice_cmp nat_cmp x y) lengths (sym (texts_ties x y) ∙ e) h

neither : (a b : Bool) → a ≡ false → b ≡ false → (a || b) ≡ false
neither false b h k = k
neither true b h k = absurd (false≢true (sym h))

none_behind : (x : Name) (ys : Seq Name) → AllByRecursion (λ y. by_name x y ≡ Less) ys → list_any (bytes_eq x.now) (map (λ n. n.now) ys) ≡ false
none_behind x [] h = refl
none_behind x (y ∷ ys) h = neither _ _ (apart x.now y.now (bytes_eq x.now y.now) refl h.0) (none_behind x ys h.1)

once : (xs : Seq Name) → IsStrictlySortedBy by_name xs → has_twice (map (λ n. n.now) xs) ≡ false
unfolding IsStrictlySortedBy
once [] h = refl
once (x ∷ xs) h = neither _ _ (none_behind x xs h.0) (once xs h.1)

pub all_once : (names : Seq Name) → ((k : ℕ) (d : Name) → k + 1 < length names → by_length (get_or names k d).now (get_or names (k + 1) d).now ≡ Less) → has_twice (map (λ n. n.now) names) ≡ false
all_once [] h = refl
all_once (x ∷ xs) h = once (x ∷ xs) (sorted_from_all_adjacent by_name_total (x ∷ xs) x (λ k. h k x))

pub ruleset rising = (all_once)
