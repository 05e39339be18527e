-- One element of a list whose keys ascend is changed or goes.
use Rattle.std.proofs.Common.{◌≡◌, ℕ, zero, suc, ◌+◌, ◌==◌, ◌<◌, ◌≤◌, Bool, true, false, not, cond, List, [], ◌∷◌, ◌++◌, map, filter, take, drop, set, slice_get, Some, refl, sym, ap, ◌∙◌, arith, eqb-true}
use Rattle.std.proofs.lemmas.Bool.{eqb-false}
use Rattle.layout.proofs.Goes.{split}
use Rattle.layout.specs.Ascending.{Ascend}

some_is : {A : Type 0} (x y : A) → Some x ≡ Some y → x ≡ y
some_is x y e = cc (e)

pub map_same : {A B : Type 0} (f g : A → B) → ((x : A) → f x ≡ g x) → (xs : List A) → map f xs ≡ map g xs
map_same f g same [] = refl
map_same f g same (x ∷ xs) = rw (same x, map_same f g same xs) refl

module _ {A : Type 0} (key : A → ℕ) where
  abbrev pub has_key : ℕ → A → Bool
  has_key k x = key x == k

  eq_is : (a b : ℕ) → a ≡ b → (a == b) ≡ true
  eq_is a b e = split (a == b) (λ yes. yes) (λ no. absurd (eqb-false a b no e))

  eq_not : (a b : ℕ) → b < a → (a == b) ≡ false
  eq_not a b less = split (a == b) (λ yes. absurd (omega (arith, less, eqb-true a b yes))) (λ no. no)

  eq_not_less : (a b : ℕ) → a < b → (a == b) ≡ false
  eq_not_less a b less = split (a == b) (λ yes. absurd (omega (arith, less, eqb-true a b yes))) (λ no. no)

  pub key_above : (xs : List A) (low end index : ℕ) (x : A) → Ascend low (map key xs) end → slice_get xs index ≡ Some x → low ≤ key x
  key_above [] low end index x is at = absurd (cc (at))
  key_above (y ∷ xs) low end zero x is at = let e = some_is y x at in omega (arith, is.0, ap key e)
  key_above (y ∷ xs) low end (suc index) x is at = omega (arith, is.0, key_above xs (key y + 1) end index x is.1 at)

  abbrev pub changed_if : (A → A) → ℕ → A → A
  changed_if g k x = cond (has_key k x) (g x) x

  none_changed : (g : A → A) (xs : List A) (low end k : ℕ) → Ascend low (map key xs) end → k < low → map (changed_if g k) xs ≡ xs
  none_changed g [] low end k is less = refl
  none_changed g (x ∷ xs) low end k is less = rw (eq_not (key x) k (omega (arith, less, is.0)), none_changed g xs (key x + 1) end k is.1 (omega (arith, less, is.0))) refl

  -- the one with the key is changed
  pub one_changed : (g : A → A) (xs : List A) (low end index k : ℕ) (x : A) → Ascend low (map key xs) end → slice_get xs index ≡ Some x → key x ≡ k → set xs index (g x) ≡ map (changed_if g k) xs
  one_changed g [] low end index k x is at own = absurd (cc (at))
  one_changed g (y ∷ xs) low end zero k x is at own =
      let e = some_is y x at in
      let here : (key y == k) ≡ true = eq_is (key y) k (ap key e ∙ own) in
      let rest = none_changed g xs (key y + 1) end k is.1 (omega (arith, ap key e, own)) in
      rw (here, rest) (ap (λ z. g z ∷ xs) (sym e))
  one_changed g (y ∷ xs) low end (suc index) k x is at own =
      let above = key_above xs (key y + 1) end index x is.1 at in
      rw (eq_not_less (key y) k (omega (arith, above, own))) (ap (λ zs. y ∷ zs) (one_changed g xs (key y + 1) end index k x is.1 at own))

  none_out : (xs : List A) (low end k : ℕ) → Ascend low (map key xs) end → k < low → filter (λ x. not (has_key k x)) xs ≡ xs
  none_out [] low end k is less = refl
  none_out (x ∷ xs) low end k is less = rw (eq_not (key x) k (omega (arith, less, is.0)), none_out xs (key x + 1) end k is.1 (omega (arith, less, is.0))) refl

  -- the one with the key goes
  pub one_out : (xs : List A) (low end index k : ℕ) (x : A) → Ascend low (map key xs) end → slice_get xs index ≡ Some x → key x ≡ k → take index xs ++ drop (index + 1) xs ≡ filter (λ x. not (has_key k x)) xs
  one_out [] low end index k x is at own = absurd (cc (at))
  one_out (y ∷ xs) low end zero k x is at own =
      let e = some_is y x at in
      let here : (key y == k) ≡ true = eq_is (key y) k (ap key e ∙ own) in
      rw (here, none_out xs (key y + 1) end k is.1 (omega (arith, ap key e, own))) refl
  one_out (y ∷ xs) low end (suc index) k x is at own =
      let above = key_above xs (key y + 1) end index x is.1 at in
      let next : suc index + 1 ≡ suc (index + 1) = omega arith in
      rw (eq_not_less (key y) k (omega (arith, above, own)), next) (ap (λ zs. y ∷ zs) (one_out xs (key y + 1) end index k x is.1 at own))

-- ---- one after the other

pub set_next : {A : Type 0} (f : A → A) (xs : List A) (index : ℕ) (x : A) → slice_get xs index ≡ Some x → set (map f (take index xs) ++ drop index xs) index (f x) ≡ map f (take (index + 1) xs) ++ drop (index + 1) xs
set_next f [] index x at = absurd (cc (at))
set_next f (y ∷ xs) zero x at = ap (λ z. f z ∷ xs) (sym (some_is y x at))
set_next f (y ∷ xs) (suc index) x at = let next : suc index + 1 ≡ suc (index + 1) = omega arith in rw next (ap (λ zs. f y ∷ zs) (set_next f xs index x at))
