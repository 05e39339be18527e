-- The next and the previous place, as the first and the last of a list that pass.
use Rattle.std.proofs.Common.{◌≡◌, ℕ, zero, suc, ◌+◌, Bool, true, false, cond, List, [], ◌∷◌, ◌++◌, length, Some, None, refl, sym, ap, ◌∙◌, inl, inr, arith}
use Rattle.std.specs.List.{position_from}
use Rattle.std.specs.Option.{option_or}
use Rattle.std.proofs.lemmas.Bool.{cases_Bool}
use Rattle.std.proofs.lemmas.List.Elements.{All-head, All-tail}
use Rattle.block_bits.specs.Places.{last_place, AllFail, IsFirst, IsLast}
use Rattle.block_bits.proofs.Above.{split_option}

some_is : (a b : ℕ) → Some a ≡ Some b → a ≡ b
some_is a b e = cc

fail_nil : {X : Type 0} (test : X → Bool) → AllFail test []
fail_nil test = λ k d h. absurd (omega arith)

fail_cons : {X : Type 0} (test : X → Bool) (x : X) (xs : List X) → test x ≡ false → AllFail test xs → AllFail test (x ∷ xs)
fail_cons test x xs here rest zero d h = here
fail_cons test x xs here rest (suc k) d h = rest k d (omega arith)

fail_head : {X : Type 0} (test : X → Bool) (x : X) (xs : List X) → AllFail test (x ∷ xs) → test x ≡ false
fail_head test x xs fail = All-head (λ y. test y ≡ false) x xs fail

fail_tail : {X : Type 0} (test : X → Bool) (x : X) (xs : List X) → AllFail test (x ∷ xs) → AllFail test xs
fail_tail test x xs fail = All-tail (λ y. test y ≡ false) x xs fail

-- ---- the first

pub first_is : {X : Type 0} (test : X → Bool) (start : ℕ) (xs : List X) (at : ℕ) → position_from test start xs ≡ Some at → IsFirst test start xs at
first_is test start [] at e = absurd (cc)
first_is test start (x ∷ xs) at e = elim (cases_Bool (test x)) [
  | inl here ↦
      let found : Some start ≡ Some at = rw here at e in
      record { before = []; own = x; after = xs; split = refl; fail = fail_nil test; passes = here; place = omega (arith, some_is start at found) }
  | inr not_here ↦
      let rest = first_is test (start + 1) xs at (rw not_here at e) in
      record {
        before = x ∷ rest.before;
        own = rest.own;
        after = rest.after;
        split = ap (λ ys. x ∷ ys) rest.split;
        fail = fail_cons test x rest.before not_here rest.fail;
        passes = rest.passes;
        place = omega (arith, rest.place);
      }
]

first_found : {X : Type 0} (test : X → Bool) (start : ℕ) (before : List X) (own : X) (after : List X) → AllFail test before → test own ≡ true
    → position_from test start (before ++ (own ∷ after)) ≡ Some (start + length before)
first_found test start [] own after fail passes = rw passes (ap Some (omega arith))
first_found test start (x ∷ before) own after fail passes =
    rw (fail_head test x before fail) (first_found test (start + 1) before own after (fail_tail test x before fail) passes ∙ ap Some (omega arith))

pub first_again : {X : Type 0} (test : X → Bool) (start : ℕ) (xs : List X) (at : ℕ) → IsFirst test start xs at → position_from test start xs ≡ Some at
first_again test start xs at is =
    ap (position_from test start) is.split ∙ first_found test start is.before is.own is.after is.fail is.passes ∙ ap Some (sym is.place)

pub none_is : {X : Type 0} (test : X → Bool) (start : ℕ) (xs : List X) → position_from test start xs ≡ None → AllFail test xs
none_is test start [] e = fail_nil test
none_is test start (x ∷ xs) e = elim (cases_Bool (test x)) [
  | inl here ↦ let found : Some start ≡ None = rw here at e in absurd (cc)
  | inr not_here ↦ fail_cons test x xs not_here (none_is test (start + 1) xs (rw not_here at e))
]

pub none_again : {X : Type 0} (test : X → Bool) (start : ℕ) (xs : List X) → AllFail test xs → position_from test start xs ≡ None
none_again test start [] fail = refl
none_again test start (x ∷ xs) fail = rw (fail_head test x xs fail) (none_again test (start + 1) xs (fail_tail test x xs fail))

-- ---- the last

pub no_last_is : {X : Type 0} (test : X → Bool) (start : ℕ) (xs : List X) → last_place test start xs ≡ None → AllFail test xs
no_last_is test start [] e = fail_nil test
no_last_is test start (x ∷ xs) e = elim (split_option (last_place test (start + 1) xs)) [
  | inr some ↦ let found : Some some.0 ≡ None = rw some.1 at e in absurd (cc)
  | inl none ↦ elim (cases_Bool (test x)) [
    | inl here ↦ let found : Some start ≡ None = rw (none, here) at e in absurd (cc)
    | inr not_here ↦ fail_cons test x xs not_here (no_last_is test (start + 1) xs none)
  ]
]

pub no_last_again : {X : Type 0} (test : X → Bool) (start : ℕ) (xs : List X) → AllFail test xs → last_place test start xs ≡ None
no_last_again test start [] fail = refl
no_last_again test start (x ∷ xs) fail = rw (no_last_again test (start + 1) xs (fail_tail test x xs fail), fail_head test x xs fail) refl

pub last_is : {X : Type 0} (test : X → Bool) (start : ℕ) (xs : List X) (at : ℕ) → last_place test start xs ≡ Some at → IsLast test start xs at
last_is test start [] at e = absurd (cc)
last_is test start (x ∷ xs) at e = elim (split_option (last_place test (start + 1) xs)) [
  | inr some ↦
      let found : Some some.0 ≡ Some at = rw some.1 at e in
      let rest = last_is test (start + 1) xs at (some.1 ∙ found) in
      record {
        before = x ∷ rest.before;
        own = rest.own;
        after = rest.after;
        split = ap (λ ys. x ∷ ys) rest.split;
        passes = rest.passes;
        fail = rest.fail;
        place = omega (arith, rest.place);
      }
  | inl none ↦ elim (cases_Bool (test x)) [
    | inl here ↦
        let found : Some start ≡ Some at = rw (none, here) at e in
        record { before = []; own = x; after = xs; split = refl; passes = here; fail = no_last_is test (start + 1) xs none; place = omega (arith, some_is start at found) }
    | inr not_here ↦ let found : None ≡ Some at = rw (none, not_here) at e in absurd (cc)
  ]
]

last_found : {X : Type 0} (test : X → Bool) (start : ℕ) (before : List X) (own : X) (after : List X) → test own ≡ true → AllFail test after
    → last_place test start (before ++ (own ∷ after)) ≡ Some (start + length before)
last_found test start [] own after passes fail = rw (no_last_again test (start + 1) after fail, passes) (ap Some (omega arith))
last_found test start (x ∷ before) own after passes fail =
    ap (λ rest. option_or rest (cond (test x) (Some start) None)) (last_found test (start + 1) before own after passes fail) ∙ ap Some (omega arith)

pub last_again : {X : Type 0} (test : X → Bool) (start : ℕ) (xs : List X) (at : ℕ) → IsLast test start xs at → last_place test start xs ≡ Some at
last_again test start xs at is =
    ap (last_place test start) is.split ∙ last_found test start is.before is.own is.after is.passes is.fail ∙ ap Some (sym is.place)
