-- Laws of "strictly above" in a tree of scopes.
use Rattle.std.proofs.Common.{◌≡◌, ℕ, zero, suc, ◌<◌, ◌≤◌, ◌⊎◌, true, false, ◌||◌, List, length, Option, Some, None, IsSomeAnd, refl, ap, subst, ◌∙◌, inl, inr, arith, eqb}
use Rattle.std.proofs.lemmas.List.{get_or_past}
use Rattle.std.proofs.lemmas.Bool.{cases_lt, or_cases, eqb-true, false≢true}
use Rattle.block_bits.specs.Scopes.{enclosing, is_above, is_above_within, IsScopeTree}

-- an option is nothing or some value
pub split_option : {A : Type 0} (o : Option A) → (o ≡ None) ⊎ ((x : A) × (o ≡ Some x))
split_option None = inl refl
split_option (Some x) = inr (x, refl)

some_and : (o : Option ℕ) (P : ℕ → Type 0) (x : ℕ) → IsSomeAnd o P → o ≡ Some x → P x
some_and None P x h e = absurd h
some_and (Some y) P x h e = let same : y ≡ x = cc in subst P same h

pub some_not_none : (o : Option ℕ) (P : ℕ → Type 0) → IsSomeAnd o P → o ≡ None → ⊥
some_not_none None P h e = h
some_not_none (Some x) P h e = absurd (cc)

-- numbers fall outwards
pub falls : (parents : List (Option ℕ)) (scope outer : ℕ) → IsScopeTree parents → enclosing parents scope ≡ Some outer → (outer < scope) × (scope < length parents)
falls parents zero outer tree e = absurd (cc (tree.root))
falls parents (suc scope) outer tree e = elim (cases_lt (suc scope) (length parents)) [
  | inl inside ↦ (some_and (enclosing parents (suc scope)) (λ n. n < suc scope) outer (tree.nested (suc scope) (omega arith) inside) e, inside)
  | inr past ↦ absurd (cc (get_or_past parents (suc scope) None past))
]

-- more steps than the way has change nothing
enough : (parents : List (Option ℕ)) (upper steps more lower : ℕ) → IsScopeTree parents → lower ≤ steps → lower ≤ more → is_above_within parents steps upper lower ≡ is_above_within parents more upper lower
enough parents upper zero zero lower tree h k = refl
enough parents upper zero (suc more) lower tree h k =
    let least : lower ≡ 0 = omega arith in
    let root : enclosing parents lower ≡ None = ap (enclosing parents) least ∙ tree.root in
    rw root refl
enough parents upper (suc steps) zero lower tree h k =
    let least : lower ≡ 0 = omega arith in
    let root : enclosing parents lower ≡ None = ap (enclosing parents) least ∙ tree.root in
    rw root refl
enough parents upper (suc steps) (suc more) lower tree h k = elim (split_option (enclosing parents lower)) [
  | inl none ↦ rw none refl
  | inr some ↦
      let fall = falls parents lower some.0 tree some.1 in
      rw some.1 (ap (λ b. eqb some.0 upper || b) (enough parents upper steps more some.0 tree (omega (arith, fall.0)) (omega (arith, fall.0))))
]

-- one step outwards
pub is_above-step : (parents : List (Option ℕ)) (upper lower outer : ℕ) → IsScopeTree parents → enclosing parents lower ≡ Some outer
    → is_above parents upper lower ≡ (eqb outer upper || is_above parents upper outer)
is_above-step parents upper zero outer tree e = absurd (cc (tree.root))
is_above-step parents upper (suc lower) outer tree e =
    let fall = falls parents (suc lower) outer tree e in
    rw e (ap (λ b. eqb outer upper || b) (enough parents upper lower outer outer tree (omega (arith, fall.0)) (omega arith)))

pub is_above-root : (parents : List (Option ℕ)) (upper lower : ℕ) → enclosing parents lower ≡ None → is_above parents upper lower ≡ false
is_above-root parents upper zero e = refl
is_above-root parents upper (suc lower) e = rw e refl

-- what lies above has a smaller number
above_lt_within : (parents : List (Option ℕ)) (steps upper lower : ℕ) → IsScopeTree parents → is_above_within parents steps upper lower ≡ true → (upper < lower) × (lower < length parents)
above_lt_within parents zero upper lower tree h = absurd (false≢true h)
above_lt_within parents (suc steps) upper lower tree h = elim (split_option (enclosing parents lower)) [
  | inl none ↦ absurd (false≢true (rw none at h))
  | inr some ↦
      let fall = falls parents lower some.0 tree some.1 in
      elim (or_cases (eqb some.0 upper) (is_above_within parents steps upper some.0) (rw some.1 at h)) [
        | inl here ↦ (omega (arith, eqb-true some.0 upper here, fall.0), fall.1)
        | inr further ↦ (omega (arith, (above_lt_within parents steps upper some.0 tree further).0, fall.0), fall.1)
      ]
]

pub above_lt : (parents : List (Option ℕ)) (upper lower : ℕ) → IsScopeTree parents → is_above parents upper lower ≡ true → (upper < lower) × (lower < length parents)
above_lt parents upper lower tree h = above_lt_within parents lower upper lower tree h
