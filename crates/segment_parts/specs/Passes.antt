-- Loops that test each element.
use Rattle.std.proofs.Common.{◌≡◌, ℕ, ◌+◌, ◌<◌, ◌≤◌, ◌↔◌, Bool, true, false, List, [], length, get_or, slice_get, Option, Some, None, IsNone, All, IsTrue, refl, sym, ap, subst, ◌∙◌, inl, inr, arith}
use Rattle.std.specs.Prelude.{is_some, ◌==◌}
use Rattle.std.specs.Bool.{MatchBool}
use Rattle.std.specs.List.{AllWithin, HoldsAt}
use Rattle.std.specs.Option.{option_map}
use Rattle.std.proofs.lemmas.Bool.{cases_lt, false≢true}
use Rattle.std.proofs.lemmas.Bool.Decides.{nat_tests}
use Rattle.std.proofs.lemmas.List.{nil_from_length}
use Rattle.std.proofs.lemmas.Option.{slice_get_cases, slice_get_within, slice_get-get_or, get_or_from_slice_get, same_Some}

-- each element before a place has the property
pub record PassBefore {X : Type 0} (P : X → Type 0) (xs : List X) (at : ℕ) : Type 0 where
  pub each : (k : ℕ) (x : X) → k < at → slice_get xs k ≡ Some x → P x

pub pass_none : {X : Type 0} (P : X → Type 0) (xs : List X) → PassBefore P xs 0
pass_none P xs = record { each = λ k x no. absurd (omega arith) }

pub pass_more : {X : Type 0} (P : X → Type 0) (xs : List X) (at : ℕ) (x : X) → PassBefore P xs at → slice_get xs at ≡ Some x → P x → PassBefore P xs (at + 1)
pass_more P xs at x was is own = record {
  each = λ k y below there. elim (cases_lt k at) [
    | inl before ↦ was.each k y before there
    | inr from ↦
        let same : at ≡ k = omega arith in
        subst P (same_Some x y (sym is ∙ ap (slice_get xs) same ∙ there)) own
  ];
}

pub pass_all : {X : Type 0} (P : X → Type 0) (xs : List X) (at : ℕ) → PassBefore P xs at → length xs ≤ at → All P xs
pass_all P xs at was past k d below = was.each k (get_or xs k d) (omega arith) (slice_get-get_or xs k d below)

pub all_at : {X : Type 0} (P : X → Type 0) (xs : List X) (at : ℕ) (x : X) → All P xs → slice_get xs at ≡ Some x → P x
all_at P xs at x all is = subst P (get_or_from_slice_get xs at x x is) (all at x (slice_get_within xs at x is))

-- the answers of such a loop
pub answer_all : {X : Type 0} (P : X → Type 0) (xs : List X) (at : ℕ) → PassBefore P xs at → length xs ≤ at → IsTrue true ↔ All P xs
answer_all P xs at was past = (λ _. pass_all P xs at was past, λ _. refl)

pub answer_fails : {X : Type 0} (P : X → Type 0) (xs : List X) (at : ℕ) (x : X) → slice_get xs at ≡ Some x → (P x → ⊥) → IsTrue false ↔ All P xs
answer_fails P xs at x is never = (λ no. absurd (false≢true no), λ all. absurd (never (all_at P xs at x all is)))

-- an element that fails its test
pub answer_not : {X : Type 0} (P : X → Type 0) (xs : List X) (at : ℕ) (x : X) (test : Bool) → slice_get xs at ≡ Some x → (IsTrue test ↔ P x) → test ≡ false → IsTrue false ↔ All P xs
answer_not P xs at x test is law fails = answer_fails P xs at x is (λ own. false≢true (sym fails ∙ law.1 own))

-- what `all` answers
pub all_iff : {X : Type 0} (P : X → Type 0) (xs : List X) (r : Bool) → MatchBool r (AllWithin P xs 0 (length xs)) ((k : ℕ) × (k < length xs) × HoldsAt (λ x. P x → ⊥) xs k) → IsTrue r ↔ All P xs
all_iff P xs true within = (λ _ k d below. within k d (omega arith) below, λ _. refl)
all_iff P xs false fails = (
  λ no. absurd (false≢true no),
  λ all. elim (slice_get_cases xs fails.0).1 [
    | inl own ↦ absurd (fails.2 own.0 (all fails.0 own.0 fails.1))
    | inr past ↦ absurd (omega (arith, past.0, fails.1))
  ],
)

-- an option that holds nothing
pub none_seen : {A B : Type 0} (view : A → B) (o : Option A) (found : Option B) (test : Bool) → test ≡ is_some o → test ≡ false → option_map view o ≡ found → IsNone found
none_seen view None found test is fails same = subst IsNone same refl
none_seen view (Some x) found test is fails same = absurd (false≢true (sym fails ∙ is))

pub none_same : {A : Type 0} (o found : Option A) (test : Bool) → test ≡ is_some o → test ≡ false → o ≡ found → IsNone found
none_same None found test is fails same = subst IsNone same refl
none_same (Some x) found test is fails same = absurd (false≢true (sym fails ∙ is))

-- lists that are empty or not
none_long : {X : Type 0} (xs : List X) → (length xs == 0) ≡ true → length xs ≡ 0
none_long xs holds = grind (arith, nat_tests)

pub empty_is : {X : Type 0} (xs : List X) (test : Bool) → test ≡ (length xs == 0) → test ≡ true → xs ≡ []
empty_is xs test is holds = nil_from_length xs (none_long xs (sym is ∙ holds))

pub some_is : {X : Type 0} (xs : List X) (test : Bool) → test ≡ (length xs == 0) → test ≡ false → xs ≡ [] → ⊥
some_is xs test is fails none =
    let zero : (length xs == 0) ≡ true = ap (λ ys. length ys == 0) none in
    false≢true (sym fails ∙ is ∙ zero)

pub ruleset passes = (pass_none, pass_more, answer_all, answer_fails)
