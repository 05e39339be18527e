-- Numbers whose sum wraps at 64 bits, where it is exact.
use Rattle.std.proofs.Common.{◌≡◌, ℕ, ◌+◌, ◌-◌, ◌*◌, ◌<◌, ◌≤◌, ◌^◌, ℤ, pos, negsuc, ◌+ℤ◌, Bool, true, false, cond, List, [], ◌∷◌, ◌++◌, length, drop, get_or, slice_get, Some, refl, sym, ap, subst, ◌∙◌, arith, append_assoc}
use Rattle.std.specs.Prelude.{◌≤ℤ◌, FitsSigned, unsigned_abs}
use Rattle.std.specs.Int.{int_wrap, w64}
use Rattle.std.specs.List.{flat_map}
use Rattle.std.specs.List.Sorted.{IsStrictlyIncreasing}
use Rattle.std.proofs.lemmas.Bool.{false≢true}
use Rattle.std.proofs.lemmas.Int.{int_wrap-add_left, int_wrap_fits, ints}
use Rattle.std.proofs.lemmas.List.{length-append}
use Rattle.doc_values.specs.Values.{documents, values_of}
use Rattle.segment_parts.specs.Text.{marked_places}
use Rattle.bucket_aggs.specs.Sums.{IsAdded, IsAnew, IsWrapped, above, below, first_from, first_of, sum_of}
use Rattle.bucket_aggs.specs.declared.metrics.Running.{Running}
use Rattle.bucket_aggs.proofs.Documents.{nothing_behind}
use Rattle.query_ast.proofs.Elements.{Each, by_test}
use Rattle.bucket_aggs.proofs.Sums.{added_more, below_on, fold_on, not_below, over_of, sum_from}
use Rattle.bucket_aggs.proofs.Told.{RowsOf, rows_told, told, told_end, told_own}

-- ---- no number comes before the first of all

module _ (before : ℤ → ℤ → Bool) (goes_on : (x z a : ℤ) → before x z ≡ true → before z a ≡ true → before x a ≡ true) (itself : (a : ℤ) → before a a ≡ false) where
  stays : (x start : ℤ) (zs : List ℤ) → before x start ≡ false → before x (first_from before start zs) ≡ false
  stays x start [] h = h
  stays x start (z ∷ zs) h =
      stays x (first_of before start z) zs
      (by_test (before z start)
      (λ held. rw held (by_test (before x z) (λ yes. absurd (false≢true (sym h ∙ goes_on x z start yes held))) (λ no. no)))
      (λ failed. rw failed h))

  pub none_before : (start : ℤ) (zs : List ℤ) → Each (λ (x : ℤ). before x (first_from before start zs) ≡ false) zs
  none_before start [] = tt
  none_before start (z ∷ zs) = (
    stays z (first_of before start z) zs (by_test (before z start) (λ held. rw held (itself z)) (λ failed. rw failed failed)),
    none_before (first_of before start z) zs,
  )

-- ---- a bound of the sum

abbrev IsNear : ℕ → ℤ → Type 0
IsNear m z = (z ≤ℤ pos m) × (pos 0 ≤ℤ (z +ℤ pos m))

near_of : (m : ℕ) (z : ℤ) → unsigned_abs z ≤ m → IsNear m z
near_of m (pos n) h = (omega (arith, ints, h), omega (arith, ints, h))
near_of m (negsuc n) h = (omega (arith, ints, h), omega (arith, ints, h))

near_between : (m : ℕ) (z least greatest : ℤ) → unsigned_abs least ≤ m → unsigned_abs greatest ≤ m → below z least ≡ false → above z greatest ≡ false → IsNear m z
near_between m z least greatest low high under over =
    let l = near_of m least low in
    let g = near_of m greatest high in
    (omega (arith, ints, over_of greatest z over, g.0), omega (arith, ints, over_of z least under, l.1))

sum_near : (m : ℕ) (zs : List ℤ) → Each (IsNear m) zs → IsNear (length zs * m) (sum_of zs)
sum_near m [] h = (omega (arith, ints), omega (arith, ints))
sum_near m (z ∷ zs) h =
    let rest : IsNear (length zs * m) (sum_of zs) = sum_near m zs h.1 in
    let more : length (z ∷ zs) * m ≡ m + length zs * m = omega arith in
    (omega (arith, ints, more, rest.0, h.0.0, sum_from (pos 0 +ℤ z) zs), omega (arith, ints, more, rest.1, h.0.1, sum_from (pos 0 +ℤ z) zs))

both_each : {A : Type 0} (P Q R : A → Type 0) → ((x : A) → P x → Q x → R x) → (xs : List A) → Each P xs → Each Q xs → Each R xs
both_each P Q R f [] h g = tt
both_each P Q R f (x ∷ xs) h g = (f x h.0 g.0, both_each P Q R f xs h.1 g.1)

pub exact : (start now : Running) (zs : List ℤ) (m : ℕ) → unsigned_abs now.least ≤ m → unsigned_abs now.greatest ≤ m → now.count * m < 2 ^ 63 → IsAnew start → IsWrapped start zs now → IsAdded start zs now
exact start now zs m low high small new was =
    let under : Each (λ (x : ℤ). below x now.least ≡ false) zs = subst (λ (a : ℤ). Each (λ (x : ℤ). below x a ≡ false) zs) (sym was.added.least) (none_before below below_on not_below start.least zs) in
    let over : Each (λ (x : ℤ). above x now.greatest ≡ false) zs = subst (λ (a : ℤ). Each (λ (x : ℤ). above x a ≡ false) zs) (sym was.added.greatest) (none_before above (λ x z a h g. below_on a z x g h) not_below start.greatest zs) in
    let near : Each (IsNear m) zs = both_each (λ (x : ℤ). below x now.least ≡ false) (λ (x : ℤ). above x now.greatest ≡ false) (IsNear m) (λ x u o. near_between m x now.least now.greatest low high u o) zs under over in
    let all = sum_near m zs near in
    let many : now.count ≡ length zs = omega (arith, was.added.count, new.count) in
    let same : now.count * m ≡ length zs * m = ap (λ (n : ℕ). n * m) many in
    let fits : FitsSigned w64 (sum_of zs) = omega (arith, ints, all.0, all.1, small, same) in
    record {
      count = was.added.count;
      total = omega (arith, ints, was.wraps, int_wrap_fits w64 (sum_of zs) fits, new.total);
      least = was.added.least;
      greatest = was.added.greatest;
      fit = was.added.fit;
    }

-- ---- rows, one after the other

pub record Wrapping (start : Running) (flags : List Bool) (rows : RowsOf ℤ) (at others : ℕ) (total least greatest : ℤ) : Type 0 where
  pub done : List ℤ
  pub added : IsAdded start done (record { count = length done; total = sum_of done; least = least; greatest = greatest })
  pub wraps : total ≡ int_wrap w64 (sum_of done)
  pub many : length done + others ≡ at
  pub rest : done ++ flat_map (told flags 0) (drop at rows) ≡ flat_map (told flags 0) rows

pub wrapping_start : (start : Running) (flags : List Bool) (rows : RowsOf ℤ) (least greatest : ℤ) → IsAnew start → least ≡ start.least → greatest ≡ start.greatest → Wrapping start flags rows 0 0 (pos 0) least greatest
wrapping_start start flags rows least greatest new low high = record {
  done = [];
  added = record { count = omega (arith, new.count); total = omega (arith, ints, new.total); least = low; greatest = high; fit = tt };
  wraps = sym (int_wrap_fits w64 (pos 0) (omega (arith, ints)));
  many = refl;
  rest = refl;
}

module _ (start : Running) (flags : List Bool) (rows : RowsOf ℤ) (at others : ℕ) (total least greatest : ℤ) (was : Wrapping start flags rows at others total least greatest) where
  abbrev later : List ℤ
  later = flat_map (told flags 0) (drop (at + 1) rows)

  pub wrapping_in : (doc : ℕ) (number : ℤ) (now : ℕ) (new_total new_least new_greatest : ℤ) → at < length rows → slice_get rows at ≡ Some (doc, number ∷ []) → get_or flags doc false ≡ true → FitsSigned w64 number → now ≡ others → new_total ≡ int_wrap w64 (total +ℤ number) → new_least ≡ first_of below least number → new_greatest ≡ first_of above greatest number
      → Wrapping start flags rows (at + 1) now new_total new_least new_greatest
  wrapping_in doc number now new_total new_least new_greatest low is held fits same sum lesser greater =
      let own : flat_map (told flags 0) (drop at rows) ≡ (number ∷ []) ++ later = told_own flags rows at doc (number ∷ []) low is ∙ ap (λ (b : Bool). cond b (number ∷ []) [] ++ later) held in
      let pushed : sum_of (was.done ++ number ∷ []) ≡ sum_of was.done +ℤ number = fold_on (λ (s z : ℤ). s +ℤ z) (pos 0) was.done (number ∷ []) in
      let one_more : length (was.done ++ number ∷ []) ≡ length was.done + 1 = length-append was.done (number ∷ []) in
      record {
        done = was.done ++ number ∷ [];
        added =
            added_more start (record { count = length was.done; total = sum_of was.done; least = least; greatest = greatest })
            (record { count = length (was.done ++ number ∷ []); total = sum_of (was.done ++ number ∷ []); least = new_least; greatest = new_greatest }) was.done (number ∷ []) was.added (fits, tt) one_more (omega (arith, ints, pushed)) lesser greater;
        wraps = sum ∙ ap (λ (t : ℤ). int_wrap w64 (t +ℤ number)) was.wraps ∙ int_wrap-add_left w64 (sum_of was.done) number ∙ ap (int_wrap w64) (sym pushed);
        many = omega (arith, was.many, one_more, same);
        rest = append_assoc was.done (number ∷ []) later ∙ ap (λ (l : List ℤ). was.done ++ l) (sym own) ∙ was.rest;
      }

  pub wrapping_out : (doc : ℕ) (number : ℤ) (now : ℕ) (new_total new_least new_greatest : ℤ) → at < length rows → slice_get rows at ≡ Some (doc, number ∷ []) → get_or flags doc false ≡ false → now ≡ others + 1 → new_total ≡ total → new_least ≡ least → new_greatest ≡ greatest
      → Wrapping start flags rows (at + 1) now new_total new_least new_greatest
  wrapping_out doc number now new_total new_least new_greatest low is failed more sum lesser greater =
      let none : flat_map (told flags 0) (drop at rows) ≡ later = told_own flags rows at doc (number ∷ []) low is ∙ ap (λ (b : Bool). cond b (number ∷ []) [] ++ later) failed in
      record {
        done = was.done;
        added = record { count = was.added.count; total = was.added.total; least = lesser ∙ was.added.least; greatest = greater ∙ was.added.greatest; fit = was.added.fit };
        wraps = sum ∙ was.wraps;
        many = omega (arith, was.many, more);
        rest = ap (λ (l : List ℤ). was.done ++ l) (sym none) ∙ was.rest;
      }

  pub wrapping_end : (now : Running) → at ≡ length rows → IsStrictlyIncreasing (documents rows) → now.count ≡ length rows - others → now.total ≡ total → now.least ≡ least → now.greatest ≡ greatest → IsWrapped start (flat_map (λ doc. values_of doc rows) (marked_places 0 flags)) now
  wrapping_end now end up count sum lesser greater =
      let all : was.done ≡ flat_map (λ doc. values_of doc rows) (marked_places 0 flags) =
      nothing_behind was.done ∙ ap (λ (l : List ℤ). was.done ++ l) (sym (told_end flags rows at (omega (arith, end)))) ∙ was.rest ∙ sym (rows_told flags rows up) in
      subst (λ (l : List ℤ). IsWrapped start l now) all
      (record {
        added = record { count = omega (arith, count, end, was.many, was.added.count); total = was.added.total; least = lesser ∙ was.added.least; greatest = greater ∙ was.added.greatest; fit = was.added.fit };
        wraps = sum ∙ was.wraps;
      })
