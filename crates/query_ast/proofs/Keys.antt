-- Lists that strictly ascend: there is one with the same elements, and it is what is left of a list that is taken once and put
-- in order.
use Rattle.std.proofs.Common.{◌≡◌, Bool, true, false, ◌||◌, List, [], ◌∷◌, refl, sym, ap, ◌∙◌}
use Rattle.std.specs.Cmp.{IsTotalOrder}
use Rattle.std.specs.List.{list_any}
use Rattle.std.specs.Ordering.{is_eq, is_lt, ordering_reverse}
use Rattle.std.specs.declared.cmp.Ordering.{Ordering}
use Rattle.std.specs.declared.cmp.Ordering.TheVariants.{Less, Equal, Greater}
use Rattle.std.proofs.lemmas.Bool.{false≢true}
use Rattle.std.proofs.lemmas.Cmp.{tied_itself}
use Rattle.query_ast.specs.Compare.{each_once, each_once_but, in_order, placed}
use Rattle.query_ast.proofs.Elements.{Apart, Each, by_test, each_as}

or_swap : (a b c : Bool) → (a || (b || c)) ≡ (b || (a || c))
or_swap true true c = refl
or_swap true false c = refl
or_swap false b c = refl

pub by_order : {G : Type 0} (o : Ordering) → (o ≡ Less → G) → (o ≡ Equal → G) → (o ≡ Greater → G) → G
by_order Less less same more = less refl
by_order Equal less same more = same refl
by_order Greater less same more = more refl

module _ {K : Type 0} (R : K → K → Ordering) (o : IsTotalOrder R) (exact : (x y : K) → R x y ≡ Equal → x ≡ y) where
  abbrev pub less : K → K → Bool
  less a b = is_lt (R a b)

  abbrev pub same : K → K → Bool
  same a b = is_eq (R a b)

  lt_is : (r : Ordering) → is_lt r ≡ true → r ≡ Less
  lt_is Less h = refl
  lt_is Equal h = absurd (let no : ⊥ = cc in no)
  lt_is Greater h = absurd (let no : ⊥ = cc in no)

  eq_is : (r : Ordering) → is_eq r ≡ true → r ≡ Equal
  eq_is Less h = absurd (let no : ⊥ = cc in no)
  eq_is Equal h = refl
  eq_is Greater h = absurd (let no : ⊥ = cc in no)

  pub same_is : (a b : K) → same a b ≡ true → a ≡ b
  same_is a b h = exact a b (eq_is (R a b) h)

  pub same_itself : (a : K) → same a a ≡ true
  same_itself a = ap is_eq (tied_itself o a)

  equal_back : (r : Ordering) → is_eq (ordering_reverse r) ≡ is_eq r
  equal_back Less = refl
  equal_back Equal = refl
  equal_back Greater = refl

  pub same_back : (a b : K) → same a b ≡ same b a
  same_back a b = ap is_eq (o.antisymm a b) ∙ equal_back (R b a)

  pub less_apart : (a b : K) → less a b ≡ true → same a b ≡ false
  less_apart a b h = ap is_eq (lt_is (R a b) h)

  pub less_back : (a b : K) → less a b ≡ true → same b a ≡ false
  less_back a b h = ap is_eq (o.antisymm b a ∙ ap ordering_reverse (lt_is (R a b) h))

  pub less_once : (a b : K) → less a b ≡ true → less b a ≡ false
  less_once a b h = ap is_lt (o.antisymm b a ∙ ap ordering_reverse (lt_is (R a b) h))

  pub less_on : (a b c : K) → less a b ≡ true → less b c ≡ true → less a c ≡ true
  less_on a b c h g = ap is_lt (o.trans a b c (lt_is (R a b) h) (lt_is (R b c) g))

  -- neither less nor the same
  pub greater_is : (a b : K) → less a b ≡ false → same a b ≡ false → less b a ≡ true
  greater_is a b h g =
      by_order (R a b)
      (λ e. absurd (false≢true (sym h ∙ ap is_lt e)))
      (λ e. absurd (false≢true (sym g ∙ ap is_eq e)))
      (λ e. ap is_lt (o.antisymm b a ∙ ap ordering_reverse e))

  -- ---- strictly ascending

  abbrev pub Ascend : List K → Type 0
  Ascend [] = Unit {0}
  Ascend (x ∷ xs) = Each (λ (y : K). less x y ≡ true) xs × Ascend xs

  none_same : (x : K) (xs : List K) → Each (λ (y : K). same x y ≡ false) xs → list_any (same x) xs ≡ false
  none_same x [] h = refl
  none_same x (y ∷ ys) h = rw h.0 (none_same x ys h.1)

  pub behind_apart : (x : K) (xs : List K) → Each (λ (y : K). less x y ≡ true) xs → list_any (same x) xs ≡ false
  behind_apart x xs h = none_same x xs (each_as (λ (y : K). less x y ≡ true) (λ (y : K). same x y ≡ false) (λ y g. less_apart x y g) xs h)

  -- what comes before the first isn't there
  before_all : (x u : K) (us : List K) → less x u ≡ true → Each (λ (y : K). less u y ≡ true) us → list_any (same x) (u ∷ us) ≡ false
  before_all x u us h all =
      rw (less_apart x u h) (behind_apart x us (each_as (λ (y : K). less u y ≡ true) (λ (y : K). less x y ≡ true) (λ y g. less_on x u y h g) us all))

  first_there : (u : K) (us : List K) → list_any (same u) (u ∷ us) ≡ true
  first_there u us = rw (same_itself u) refl

  pub one_ascending : (us vs : List K) → Ascend us → Ascend vs → ((x : K) → list_any (same x) us ≡ list_any (same x) vs) → us ≡ vs
  one_ascending [] [] a b alike = refl
  one_ascending [] (v ∷ vs) a b alike = absurd (false≢true (alike v ∙ first_there v vs))
  one_ascending (u ∷ us) [] a b alike = absurd (false≢true (sym (alike u) ∙ first_there u us))
  one_ascending (u ∷ us) (v ∷ vs) a b alike =
      by_order (R u v)
      (λ e. absurd (false≢true (sym (before_all u v vs (ap is_lt e) b.0) ∙ sym (alike u) ∙ first_there u us)))
      (λ e.
      let first : u ≡ v = exact u v e in
      ap (λ (z : K). z ∷ us) first
      ∙ ap (λ (zs : List K). v ∷ zs) (one_ascending us vs a.1 b.1 (λ x. rest first x)))
      (λ e. absurd (false≢true (sym (before_all v u us (ap is_lt (o.antisymm v u ∙ ap ordering_reverse e)) a.0) ∙ alike v ∙ first_there v vs)))
    where
      rest : u ≡ v → (x : K) → list_any (same x) us ≡ list_any (same x) vs
      rest first x =
          by_test (same x u)
          (λ held.
          let own : x ≡ u = same_is x u held in
          ap (λ (y : K). list_any (same y) us) own
          ∙ behind_apart u us a.0
          ∙ sym (behind_apart v vs b.0)
          ∙ ap (λ (y : K). list_any (same y) vs) (sym (own ∙ first)))
          (λ failed.
          let here : list_any (same x) (u ∷ us) ≡ list_any (same x) us = rw failed refl in
          let there : same x v ≡ false = ap (same x) (sym first) ∙ failed in
          let other : list_any (same x) (v ∷ vs) ≡ list_any (same x) vs = rw there refl in
          sym here ∙ alike x ∙ other)

  -- ---- put in order

  all_placed : (P : K → Type 0) (x : K) (ys : List K) → P x → Each P ys → Each P (placed less x ys)
  all_placed P x [] p h = (p, tt)
  all_placed P x (y ∷ ys) p h =
      by_test (less y x) (λ behind. rw behind (h.0, all_placed P x ys p h.1)) (λ before. rw before (p, h))

  pub all_in_order : (P : K → Type 0) (xs : List K) → Each P xs → Each P (in_order less xs)
  all_in_order P [] h = tt
  all_in_order P (x ∷ xs) h = all_placed P x (in_order less xs) h.0 (all_in_order P xs h.1)

  placed_ascends : (x : K) (ys : List K) → Ascend ys → Each (λ (y : K). same y x ≡ false) ys → Ascend (placed less x ys)
  placed_ascends x [] a apart = (tt, tt)
  placed_ascends x (y ∷ ys) a apart =
      by_test (less y x)
      (λ behind. rw behind (all_placed (λ (z : K). less y z ≡ true) x ys behind a.0, placed_ascends x ys a.1 apart.1))
      (λ before.
      let front : less x y ≡ true = greater_is y x before apart.0 in
      rw before ((front, each_as (λ (z : K). less y z ≡ true) (λ (z : K). less x z ≡ true) (λ z g. less_on x y z front g) ys a.0), a))

  in_order_ascends : (xs : List K) → Apart same xs → Ascend (in_order less xs)
  in_order_ascends [] apart = tt
  in_order_ascends (x ∷ xs) apart =
      placed_ascends x (in_order less xs) (in_order_ascends xs apart.1) (all_in_order (λ (y : K). same y x ≡ false) xs apart.0)

  any_placed : (t : K → Bool) (x : K) (ys : List K) → list_any t (placed less x ys) ≡ (t x || list_any t ys)
  any_placed t x [] = refl
  any_placed t x (y ∷ ys) =
      by_test (less y x)
      (λ behind. rw behind (ap (λ (b : Bool). t y || b) (any_placed t x ys) ∙ or_swap (t y) (t x) (list_any t ys)))
      (λ before. rw before refl)

  any_in_order : (t : K → Bool) (xs : List K) → list_any t (in_order less xs) ≡ list_any t xs
  any_in_order t [] = refl
  any_in_order t (x ∷ xs) = any_placed t x (in_order less xs) ∙ ap (λ (b : Bool). t x || b) (any_in_order t xs)

  -- ---- each once

  fresh : (met xs : List K) → Each (λ (y : K). list_any (same y) met ≡ false) (each_once_but same met xs)
  fresh met [] = tt
  fresh met (x ∷ xs) =
      by_test (list_any (same x) met)
      (λ held. rw held (fresh met xs))
      (λ failed. rw failed (failed, each_as (λ (y : K). list_any (same y) (x ∷ met) ≡ false) (λ (y : K). list_any (same y) met ≡ false) (λ y h. later (same y x) (list_any (same y) met) h) (each_once_but same (x ∷ met) xs) (fresh (x ∷ met) xs)))
    where
      later : (a b : Bool) → (a || b) ≡ false → b ≡ false
      later true b h = absurd (false≢true (sym h))
      later false b h = h

  once_apart : (met xs : List K) → Apart same (each_once_but same met xs)
  once_apart met [] = tt
  once_apart met (x ∷ xs) =
      by_test (list_any (same x) met)
      (λ held. rw held (once_apart met xs))
      (λ failed. rw failed (each_as (λ (y : K). list_any (same y) (x ∷ met) ≡ false) (λ (y : K). same y x ≡ false) (λ y h. first (same y x) (list_any (same y) met) h) (each_once_but same (x ∷ met) xs) (fresh (x ∷ met) xs), once_apart (x ∷ met) xs))
    where
      first : (a b : Bool) → (a || b) ≡ false → a ≡ false
      first true b h = absurd (false≢true (sym h))
      first false b h = refl

  any_once : (v : K) (met xs : List K) → (list_any (same v) met || list_any (same v) (each_once_but same met xs)) ≡ (list_any (same v) met || list_any (same v) xs)
  any_once v met [] = refl
  any_once v met (x ∷ xs) =
      by_test (list_any (same x) met)
      (λ held. rw held (any_once v met xs ∙ covered held))
      (λ failed. rw failed (or_swap (list_any (same v) met) (same v x) (list_any (same v) (each_once_but same (x ∷ met) xs)) ∙ gather (same v x) (list_any (same v) met) (list_any (same v) (each_once_but same (x ∷ met) xs)) ∙ any_once v (x ∷ met) xs ∙ sym (gather (same v x) (list_any (same v) met) (list_any (same v) xs)) ∙ or_swap (same v x) (list_any (same v) met) (list_any (same v) xs)))
    where
      gather : (a b c : Bool) → (a || (b || c)) ≡ ((a || b) || c)
      gather true b c = refl
      gather false b c = refl

      covered : list_any (same x) met ≡ true → (list_any (same v) met || list_any (same v) xs) ≡ (list_any (same v) met || (same v x || list_any (same v) xs))
      covered held =
          by_test (same v x)
          (λ own.
          let there : list_any (same v) met ≡ true = ap (λ (y : K). list_any (same y) met) (same_is v x own) ∙ held in
          rw there refl)
          (λ other. rw other refl)

  -- ---- the different elements in order

  pub keys_ascend : (xs : List K) → Ascend (in_order less (each_once same xs))
  keys_ascend xs = in_order_ascends (each_once same xs) (once_apart [] xs)

  pub any_key : (v : K) (xs : List K) → list_any (same v) (in_order less (each_once same xs)) ≡ list_any (same v) xs
  any_key v xs = any_in_order (same v) (each_once same xs) ∙ any_once v [] xs
