-- What entries carry at a key: the documents rise, since each carries it once at most.
use Rattle.std.proofs.Common.{◌≡◌, ℕ, ◌+◌, ◌<◌, ◌≤◌, true, List, [], ◌∷◌, ◌++◌, length, refl, sym, subst, ◌∙◌, arith}
use Rattle.std.specs.List.{AllByRecursion}
use Rattle.std.specs.List.Sorted.{IsStrictlySortedBy, IsStrictlyIncreasing}
use Rattle.std.specs.Ordering.{is_eq, nat_cmp, eq_by_cmp}
use Rattle.std.specs.declared.cmp.Ordering.{Ordering}
use Rattle.std.specs.declared.cmp.Ordering.TheVariants.{Less, Equal, Greater}
use Rattle.std.proofs.lemmas.Cmp.{ranked, by_ranked}
use Rattle.std.proofs.lemmas.Map.Keys.{sorted_head, sorted_tail, IsStrictlyIncreasing-from_sorted}
use Rattle.segment.specs.Flat.{FlatDocument}
use Rattle.segment_builder.specs.Groups.{of_key, keys}
use Rattle.segment_builder.specs.Rising.{AreRisingFrom}
use Rattle.segment_builder.proofs.Grown.{by_doc, of_append}
use Rattle.segment_builder.proofs.Keys.{split}
use Rattle.segment_builder.proofs.Merged.{IsExact}

-- ---- numbers in order

pub less_is : (a b : ℕ) → a < b → nat_cmp a b ≡ Less
less_is a b less = by_ranked (a < b) (a ≡ b) (b < a) (nat_cmp a b) (ranked a b (nat_cmp a b) refl) (λ is _. is) (λ _ same. absurd (omega (arith, less, same))) (λ _ more. absurd (omega (arith, less, more)))

pub less_from : (a b : ℕ) → nat_cmp a b ≡ Less → a < b
less_from a b h = by_ranked (a < b) (a ≡ b) (b < a) (nat_cmp a b) (ranked a b (nat_cmp a b) refl) (λ _ less. less) (λ is _. absurd (let never : Less ≡ Equal = sym h ∙ is in cc (never))) (λ is _. absurd (let never : Less ≡ Greater = sym h ∙ is in cc (never)))

-- ---- documents that rise

rises_from : {X : Type 0} (low lower high : ℕ) (ps : List (ℕ × X)) → lower ≤ low → AreRisingFrom low high ps → AreRisingFrom lower high ps
rises_from low lower high [] le up = tt
rises_from low lower high (p ∷ ps) le up = (omega (arith, le, up.0), up.1, up.2)

pub rises_below : {X : Type 0} (low high higher : ℕ) (ps : List (ℕ × X)) → high ≤ higher → AreRisingFrom low high ps → AreRisingFrom low higher ps
rises_below low high higher [] le up = tt
rises_below low high higher (p ∷ ps) le up = (up.0, omega (arith, le, up.1), rises_below (p.0 + 1) high higher ps le up.2)

rises_on : {X : Type 0} (low mid high : ℕ) (xs ys : List (ℕ × X)) → low ≤ mid → mid ≤ high → AreRisingFrom low mid xs → AreRisingFrom mid high ys → AreRisingFrom low high (xs ++ ys)
rises_on low mid high [] ys one two up more = rises_from mid low high ys one more
rises_on low mid high (x ∷ xs) ys one two up more = (up.0, omega (arith, up.1, two), rises_on (x.0 + 1) mid high xs ys (omega (arith, up.1)) two up.2 more)

pub rises_count : {X : Type 0} (low high : ℕ) (ps : List (ℕ × X)) → low ≤ high → AreRisingFrom low high ps → low + length ps ≤ high
rises_count low high [] le up = omega (arith, le)
rises_count low high (p ∷ ps) le up = omega (arith, up.0, rises_count (p.0 + 1) high ps (omega (arith, up.1)) up.2)

pub rises_within : {X : Type 0} (low high : ℕ) (ps : List (ℕ × X)) → AreRisingFrom low high ps → AllByRecursion (λ (p : ℕ × X). p.0 < high) ps
rises_within low high [] up = tt
rises_within low high (p ∷ ps) up = (up.1, rises_within (p.0 + 1) high ps up.2)

rises_after : {X : Type 0} (n low high : ℕ) (ps : List (ℕ × X)) → n < low → AreRisingFrom low high ps → AllByRecursion (λ doc. nat_cmp n doc ≡ Less) (keys ps)
rises_after n low high [] less up = tt
rises_after n low high (p ∷ ps) less up = (less_is n p.0 (omega (arith, less, up.0)), rises_after n (p.0 + 1) high ps (omega (arith, less, up.0)) up.2)

rises_sorted : {X : Type 0} (low high : ℕ) (ps : List (ℕ × X)) → AreRisingFrom low high ps → IsStrictlySortedBy nat_cmp (keys ps)
unfolding IsStrictlySortedBy
rises_sorted low high [] up = tt
rises_sorted low high (p ∷ ps) up = (rises_after p.0 (p.0 + 1) high ps (omega arith) up.2, rises_sorted (p.0 + 1) high ps up.2)

pub rises_increase : {X : Type 0} (low high : ℕ) (ps : List (ℕ × X)) → AreRisingFrom low high ps → IsStrictlyIncreasing (keys ps)
rises_increase low high ps up = IsStrictlyIncreasing-from_sorted (keys ps) (rises_sorted low high ps up)

-- fields that ascend below a bound
sorted_from : {Y : Type 0} (n bound : ℕ) (groups : List (ℕ × Y)) → IsStrictlySortedBy nat_cmp (keys groups) → AllByRecursion (λ field. n ≤ field) (keys groups) → AllByRecursion (λ (group : ℕ × Y). group.0 < bound) groups → AreRisingFrom n bound groups
sorted_from n bound [] up from below = tt
sorted_from {Y} n bound (group ∷ groups) up from below =
    (from.0, below.0, sorted_from (group.0 + 1) bound groups (sorted_tail nat_cmp group.0 (keys groups) up) (next group.0 (keys groups) (sorted_head nat_cmp group.0 (keys groups) up)) below.1)
  where
    next : (first : ℕ) (fields : List ℕ) → AllByRecursion (λ field. nat_cmp first field ≡ Less) fields → AllByRecursion (λ field. first + 1 ≤ field) fields
    next first [] all = tt
    next first (field ∷ fields) all = (omega (arith, less_from first field all.0), next first fields all.1)

from_none : (fields : List ℕ) → AllByRecursion (λ field. 0 ≤ field) fields
from_none [] = tt
from_none (field ∷ fields) = (omega arith, from_none fields)

pub few_fields : {Y : Type 0} (bound : ℕ) (groups : List (ℕ × Y)) → IsStrictlySortedBy nat_cmp (keys groups) → AllByRecursion (λ (group : ℕ × Y). group.0 < bound) groups → length groups ≤ bound
few_fields bound groups up below =
    let count : 0 + length groups ≤ bound = rises_count 0 bound groups (omega arith) (sorted_from 0 bound groups up (from_none (keys groups)) below) in
    omega (arith, count)

-- ---- at a key

equal_is : (a : Ordering) → is_eq a ≡ true → a ≡ Equal
equal_is Less h = absurd (cc (h))
equal_is Equal h = refl
equal_is Greater h = absurd (cc (h))

module _ {K : Type 0} (cmp : K → K → Ordering) (o : IsExact cmp) where
  pub key_is : (key other : K) → eq_by_cmp cmp key other ≡ true → key ≡ other
  key_is key other is = o.same key other (equal_is (cmp key other) is)

module _ {K P : Type 0} (cmp : K → K → Ordering) (o : IsExact cmp) where
  pub each_of_key : (Q : K → P → Type 0) (key : K) (entries : List (K × P)) → AllByRecursion (λ (entry : K × P). Q entry.0 entry.1) entries → AllByRecursion (Q key) (of_key cmp key entries)
  each_of_key Q key [] all = tt
  each_of_key Q key (entry ∷ entries) all =
      split (eq_by_cmp cmp key entry.0)
      (λ is. rw is (subst (λ k. Q k entry.1) (sym (key_is cmp o key entry.0 is)) all.0, each_of_key Q key entries all.1))
      (λ isnt. rw isnt (each_of_key Q key entries all.1))

  none_after : (key : K) (entries : List (K × P)) → AllByRecursion (λ k. cmp key k ≡ Less) (keys entries) → of_key cmp key entries ≡ []
  none_after key [] all = refl
  none_after key (entry ∷ entries) all = rw all.0 (none_after key entries all.1)

  one_at_most : (key : K) (entries : List (K × P)) → IsStrictlySortedBy cmp (keys entries) → length (of_key cmp key entries) ≤ 1
  one_at_most key [] up = omega arith
  one_at_most key (entry ∷ entries) up =
      split (eq_by_cmp cmp key entry.0)
      (λ is.
      let above : AllByRecursion (λ k. cmp key k ≡ Less) (keys entries) = subst (λ k. AllByRecursion (λ other. cmp k other ≡ Less) (keys entries)) (sym (key_is cmp o key entry.0 is)) (sorted_head cmp entry.0 (keys entries) up) in
      rw (is, none_after key entries above) (omega arith))
      (λ isnt. rw isnt (one_at_most key entries (sorted_tail cmp entry.0 (keys entries) up)))

one_rises : {X : Type 0} (doc : ℕ) (ps : List (ℕ × X)) → length ps ≤ 1 → AllByRecursion (λ (p : ℕ × X). p.0 ≡ doc) ps → AreRisingFrom doc (doc + 1) ps
one_rises doc [] few own = tt
one_rises doc (p ∷ []) few own = (omega (arith, own.0), omega (arith, own.0), tt)
one_rises doc (p ∷ q ∷ ps) few own = absurd (omega (arith, few))

-- what each document carries is its own, and each key stands there once
module _ {K X : Type 0} (cmp : K → K → Ordering) (o : IsExact cmp) (tag : ℕ → FlatDocument → List (K × (ℕ × X)))
    (own : (doc : ℕ) (flat : FlatDocument) → AllByRecursion (λ (entry : K × (ℕ × X)). entry.1.0 ≡ doc) (tag doc flat)) where
  pub docs_rise : (key : K) (n : ℕ) (flats : List FlatDocument) → AllByRecursion (λ flat. (doc : ℕ) → IsStrictlySortedBy cmp (keys (tag doc flat))) flats → AreRisingFrom n (n + length flats) (of_key cmp key (by_doc tag n flats))
  docs_rise key n [] all = tt
  docs_rise key n (flat ∷ flats) all =
      let here : AreRisingFrom n (n + 1) (of_key cmp key (tag n flat)) =
      one_rises n (of_key cmp key (tag n flat)) (one_at_most cmp o key (tag n flat) (all.0 n)) (each_of_key cmp o (λ k p. p.0 ≡ n) key (tag n flat) (own n flat)) in
      let long : n + 1 + length flats ≡ n + length (flat ∷ flats) = omega arith in
      let rest : AreRisingFrom (n + 1) (n + length (flat ∷ flats)) (of_key cmp key (by_doc tag (n + 1) flats)) =
      subst (λ high. AreRisingFrom (n + 1) high (of_key cmp key (by_doc tag (n + 1) flats))) long (docs_rise key (n + 1) flats all.1) in
      subst (AreRisingFrom n (n + length (flat ∷ flats))) (sym (of_append cmp key (tag n flat) (by_doc tag (n + 1) flats)))
      (rises_on n (n + 1) (n + length (flat ∷ flats)) (of_key cmp key (tag n flat)) (of_key cmp key (by_doc tag (n + 1) flats)) (omega arith) (omega arith) here rest)
