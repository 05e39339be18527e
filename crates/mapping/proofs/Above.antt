-- Laws of "above", of paths and of the scopes of a mapping.
use Rattle.std.proofs.Common.{◌≡◌, ℕ, zero, suc, ◌<◌, ◌≤◌, ◌⊎◌, inl, inr, ◌==◌, ◌&&◌, ◌||◌, Bool, true, false, List, [], ◌∷◌, length, refl, sym, ap, ◌∙◌, subst, arith, Less, nat_cmp, nat_lt}
use Rattle.std.proofs.lemmas.Bool.{false≢true, eqb-true, eq-eqb, ltb-true, lt-ltb, cases_lt, or_cases}
use Rattle.std.proofs.lemmas.Cmp.{nat_cmp_total, tied_itself}
use Rattle.std.proofs.lemmas.List.{get_or_past}
use Rattle.std.specs.Cmp.Lexicographic.{slice_cmp}
use Rattle.mapping_body.specs.Names.{dot, goes_on, lies_above}
use Rattle.mapping.specs.Mapping.{Mapping, root_scope, scope_at, outer, is_above, IsAbove, home_of, reaches, included}
use Rattle.mapping.specs.IsMapping.{IsMapping}

pub both : (s t : Bool) → (s && t) ≡ true → (s ≡ true) × (t ≡ true)
both true t h = (refl, h)
both false t h = absurd (false≢true h)

pub joint : (s t : Bool) → s ≡ true → t ≡ true → (s && t) ≡ true
joint s t hs ht = rw hs ht

pub same_truth : (s t : Bool) → (s ≡ true → t ≡ true) → (t ≡ true → s ≡ true) → s ≡ t
same_truth true true to from = refl
same_truth true false to from = sym (to refl)
same_truth false true to from = from refl
same_truth false false to from = refl

and_false : (s : Bool) → (s && false) ≡ false
and_false true = refl
and_false false = refl

or_right : (s t : Bool) → t ≡ true → (s || t) ≡ true
or_right true t h = refl
or_right false t h = h

-- ---- paths

path_cases : (path : List ℕ) → (path ≡ []) ⊎ (lies_above [] path ≡ true)
path_cases [] = inl refl
path_cases (b ∷ path) = inr refl

pub above_nothing : (path : List ℕ) → lies_above path [] ≡ false
above_nothing [] = refl
above_nothing (a ∷ path) = refl

goes_on_less : (above path : List ℕ) → goes_on above path ≡ true → slice_cmp nat_cmp above path ≡ Less
goes_on_less [] [] h = absurd (false≢true h)
goes_on_less [] (b ∷ path) h = refl
goes_on_less (a ∷ above) [] h = absurd (false≢true h)
goes_on_less (a ∷ above) (b ∷ path) h =
    let parts = both (a == b) (goes_on above path) h in
    let same : a ≡ b = eqb-true a b parts.0 in
    rw (same, tied_itself nat_cmp_total b) (goes_on_less above path parts.1)

-- a path comes before those below it in byte order
pub above_less : (above path : List ℕ) → lies_above above path ≡ true → slice_cmp nat_cmp above path ≡ Less
above_less [] [] h = absurd (false≢true h)
above_less [] (b ∷ path) h = refl
above_less (a ∷ above) path h = goes_on_less (a ∷ above) path h

goes_on_through : (one two path : List ℕ) → goes_on one two ≡ true → goes_on two path ≡ true → goes_on one path ≡ true
goes_on_through [] [] path h k = absurd (false≢true h)
goes_on_through [] (b ∷ two) [] h k = absurd (false≢true k)
goes_on_through [] (b ∷ two) (c ∷ path) h k =
    let same : b ≡ c = eqb-true b c (both (b == c) (goes_on two path) k).0 in
    subst (λ (d : ℕ). (d == dot) ≡ true) same h
goes_on_through (a ∷ one) [] path h k = absurd (false≢true h)
goes_on_through (a ∷ one) (b ∷ two) [] h k = absurd (false≢true k)
goes_on_through (a ∷ one) (b ∷ two) (c ∷ path) h k =
    let first = both (a == b) (goes_on one two) h in
    let second = both (b == c) (goes_on two path) k in
    joint (a == c) (goes_on one path) (eq-eqb a c (eqb-true a b first.0 ∙ eqb-true b c second.0)) (goes_on_through one two path first.1 second.1)

pub above_through : (one two path : List ℕ) → lies_above one two ≡ true → lies_above two path ≡ true → lies_above one path ≡ true
above_through [] two [] h k = absurd (false≢true (sym (above_nothing two) ∙ k))
above_through [] two (c ∷ path) h k = refl
above_through (a ∷ one) [] path h k = absurd (false≢true h)
above_through (a ∷ one) (b ∷ two) path h k = goes_on_through (a ∷ one) (b ∷ two) path h k

goes_on_nothing : (path : List ℕ) → goes_on path [] ≡ false
goes_on_nothing [] = refl
goes_on_nothing (a ∷ path) = refl

goes_on_both : (one two path : List ℕ) → goes_on one path ≡ true → goes_on two path ≡ true → (one ≡ two) ⊎ ((goes_on one two ≡ true) ⊎ (goes_on two one ≡ true))
goes_on_both [] [] path h k = inl refl
goes_on_both one two [] h k = absurd (false≢true (sym (goes_on_nothing one) ∙ h))
goes_on_both [] (b ∷ two) (c ∷ path) h k =
    let same : b ≡ c = eqb-true b c (both (b == c) (goes_on two path) k).0 in
    inr (inl (subst (λ (d : ℕ). (d == dot) ≡ true) (sym same) h))
goes_on_both (a ∷ one) [] (c ∷ path) h k =
    let same : a ≡ c = eqb-true a c (both (a == c) (goes_on one path) h).0 in
    inr (inr (subst (λ (d : ℕ). (d == dot) ≡ true) (sym same) k))
goes_on_both (a ∷ one) (b ∷ two) (c ∷ path) h k =
    let first = both (a == c) (goes_on one path) h in
    let second = both (b == c) (goes_on two path) k in
    let heads : a ≡ b = eqb-true a c first.0 ∙ sym (eqb-true b c second.0) in
    elim (goes_on_both one two path first.1 second.1) [
      | inl same ↦ inl (rw (heads, same) refl)
      | inr one_is ↦ elim one_is [
        | inl under ↦ inr (inl (joint (a == b) (goes_on one two) (eq-eqb a b heads) under))
        | inr over ↦ inr (inr (joint (b == a) (goes_on two one) (eq-eqb b a (sym heads)) over))
      ]
    ]

-- two paths above a third are the same, or one lies above the other
pub above_both : (one two path : List ℕ) → lies_above one path ≡ true → lies_above two path ≡ true → (one ≡ two) ⊎ ((lies_above one two ≡ true) ⊎ (lies_above two one ≡ true))
above_both [] [] path h k = inl refl
above_both [] (b ∷ two) path h k = inr (inl refl)
above_both (a ∷ one) [] path h k = inr (inr refl)
above_both (a ∷ one) (b ∷ two) path h k = goes_on_both (a ∷ one) (b ∷ two) path h k

-- ---- scopes

past_path : (m : Mapping) (n : ℕ) → length m.scopes ≤ n → (scope_at m n).path ≡ []
past_path m n h = ap (λ s. s.path) (get_or_past m.scopes n root_scope h)

pub above_parts : (m : Mapping) (a b : ℕ) → IsAbove m a b → (a < length m.scopes) × (lies_above (scope_at m a).path (scope_at m b).path ≡ true)
above_parts m a b h =
    let parts = both (nat_lt a (length m.scopes)) (lies_above (scope_at m a).path (scope_at m b).path) h in
    (ltb-true a (length m.scopes) parts.0, parts.1)

pub above_from : (m : Mapping) (a b : ℕ) → a < length m.scopes → lies_above (scope_at m a).path (scope_at m b).path ≡ true → IsAbove m a b
above_from m a b h k = joint (nat_lt a (length m.scopes)) (lies_above (scope_at m a).path (scope_at m b).path) (lt-ltb a (length m.scopes) h) k

pub above_in_range : (m : Mapping) (a b : ℕ) → IsAbove m a b → b < length m.scopes
above_in_range m a b h = elim (cases_lt b (length m.scopes)) [
  | inl inside ↦ inside
  | inr past ↦
      let k : lies_above (scope_at m a).path [] ≡ true = subst (λ (p : List ℕ). lies_above (scope_at m a).path p ≡ true) (past_path m b past) (above_parts m a b h).1 in
      absurd (false≢true (sym (above_nothing (scope_at m a).path) ∙ k))
]

root_path : (m : Mapping) → IsMapping m → (scope_at m 0).path ≡ []
root_path m is = ap (λ s. s.path) is.root

-- nothing lies above the root
pub above_root : (m : Mapping) (a : ℕ) → IsMapping m → is_above m a 0 ≡ false
above_root m a is = rw (root_path m is, above_nothing (scope_at m a).path) (and_false (nat_lt a (length m.scopes)))

pub is_above_through : (m : Mapping) (a b c : ℕ) → IsAbove m a b → IsAbove m b c → IsAbove m a c
is_above_through m a b c h k =
    let first = above_parts m a b h in
    let second = above_parts m b c k in
    above_from m a c first.0 (above_through (scope_at m a).path (scope_at m b).path (scope_at m c).path first.1 second.1)

pub chain : (m : Mapping) (a b n : ℕ) → IsMapping m → IsAbove m a n → IsAbove m b n → (a ≡ b) ⊎ (IsAbove m a b ⊎ IsAbove m b a)
chain m a b n is h k =
    let first = above_parts m a n h in
    let second = above_parts m b n k in
    elim (above_both (scope_at m a).path (scope_at m b).path (scope_at m n).path first.1 second.1) [
      | inl same ↦ inl (is.distinct a b first.0 second.0 same)
      | inr one_is ↦ elim one_is [
        | inl under ↦ inr (inl (above_from m a b first.0 under))
        | inr over ↦ inr (inr (above_from m b a second.0 over))
      ]
    ]

pub outer_above : (m : Mapping) (n : ℕ) → IsMapping m → 0 < n → n < length m.scopes → IsAbove m (outer m n) n
outer_above m n is h k = let near = is.around n h k in above_from m (outer m n) n near.in_range near.above

above_outer : (m : Mapping) (a n : ℕ) → IsMapping m → 0 < n → n < length m.scopes → IsAbove m a n → (outer m n == a || is_above m a (outer m n)) ≡ true
above_outer m a n is h k above = elim (chain m a (outer m n) n is above (outer_above m n is h k)) [
  | inl same ↦ rw (eq-eqb (outer m n) a (sym same)) refl
  | inr one_is ↦ elim one_is [
    | inl under ↦ or_right (outer m n == a) (is_above m a (outer m n)) under
    | inr over ↦ absurd (false≢true (sym ((is.around n h k).none_between a over) ∙ (above_parts m a n above).1))
  ]
]

outer_back : (m : Mapping) (a n : ℕ) → IsMapping m → 0 < n → n < length m.scopes → (outer m n == a || is_above m a (outer m n)) ≡ true → IsAbove m a n
outer_back m a n is h k any = elim (or_cases (outer m n == a) (is_above m a (outer m n)) any) [
  | inl same ↦ subst (λ (b : ℕ). IsAbove m b n) (eqb-true (outer m n) a same) (outer_above m n is h k)
  | inr above ↦ is_above_through m a (outer m n) n above (outer_above m n is h k)
]

-- a scope lies above a nested path where it is the scope around it or lies above that
pub above_step : (m : Mapping) (a n : ℕ) → IsMapping m → 0 < n → n < length m.scopes → is_above m a n ≡ (outer m n == a || is_above m a (outer m n))
above_step m a n is h k =
    same_truth (is_above m a n) (outer m n == a || is_above m a (outer m n)) (above_outer m a n is h k) (outer_back m a n is h k)

above_lt_within : (m : Mapping) (left a b : ℕ) → IsMapping m → b ≤ left → IsAbove m a b → a < b
above_lt_within m zero a b is h above =
    let least : b ≡ 0 = omega arith in
    absurd (false≢true (sym (above_root m a is) ∙ subst (λ (c : ℕ). is_above m a c ≡ true) least above))
above_lt_within m (suc left) a b is h above = elim (cases_lt 0 b) [
  | inr none ↦
      let least : b ≡ 0 = omega arith in
      absurd (false≢true (sym (above_root m a is) ∙ subst (λ (c : ℕ). is_above m a c ≡ true) least above))
  | inl some ↦
      let fall = is.behind b some in
      elim (or_cases (outer m b == a) (is_above m a (outer m b)) (above_outer m a b is some (above_in_range m a b above) above)) [
        | inl same ↦ let e = eqb-true (outer m b) a same in omega (arith, e, fall)
        | inr further ↦
            let less = above_lt_within m left a (outer m b) is (omega (arith, fall)) further in
            omega (arith, less, fall)
      ]
]

pub above_lt : (m : Mapping) (a b : ℕ) → IsMapping m → IsAbove m a b → a < b
above_lt m a b is above = above_lt_within m b a b is (omega arith) above

pub root_above : (m : Mapping) (n : ℕ) → IsMapping m → 0 < n → n < length m.scopes → IsAbove m 0 n
root_above m n is h k =
    elim (path_cases (scope_at m n).path) [
      | inl none ↦
          let zero_is : n ≡ 0 = is.distinct n 0 k is.some (none ∙ sym (root_path m is)) in
          absurd (omega arith)
      | inr some ↦ above_from m 0 n is.some (rw (root_path m is) some)
    ]

-- ---- where values are included

-- the values of a scope are included in it and in scopes above it alone
reaches_up : (m : Mapping) (left n s : ℕ) → IsMapping m → n < length m.scopes → reaches m left n s ≡ true → (n ≡ s) ⊎ IsAbove m s n
reaches_up m zero n s is h met = inl (eqb-true n s met)
reaches_up m (suc left) zero s is h met = elim (or_cases (0 == s) (((scope_at m 0).in_parent && reaches m left (outer m 0) s) || ((scope_at m 0).in_root && s == 0)) met) [
  | inl same ↦ inl (eqb-true 0 s same)
  | inr further ↦
      let never : false ≡ true = rw is.root at further in
      absurd (false≢true never)
]
reaches_up m (suc left) (suc n) s is h met = elim (or_cases (suc n == s) (((scope_at m (suc n)).in_parent && reaches m left (outer m (suc n)) s) || ((scope_at m (suc n)).in_root && s == 0)) met) [
  | inl same ↦ inl (eqb-true (suc n) s same)
  | inr further ↦ elim (or_cases ((scope_at m (suc n)).in_parent && reaches m left (outer m (suc n)) s) ((scope_at m (suc n)).in_root && s == 0) further) [
    | inl parent ↦
        let near = is.around (suc n) (omega arith) h in
        let over = outer_above m (suc n) is (omega arith) h in
        elim (reaches_up m left (outer m (suc n)) s is near.in_range (both (scope_at m (suc n)).in_parent (reaches m left (outer m (suc n)) s) parent).1) [
          | inl same ↦ inr (subst (λ (a : ℕ). IsAbove m a (suc n)) same over)
          | inr above ↦ inr (is_above_through m s (outer m (suc n)) (suc n) above over)
        ]
    | inr top ↦
        let least : s ≡ 0 = eqb-true s 0 (both (scope_at m (suc n)).in_root (s == 0) top).1 in
        inr (subst (λ (a : ℕ). IsAbove m a (suc n)) (sym least) (root_above m (suc n) is (omega arith) h))
  ]
]

pub included_up : (m : Mapping) (f s : ℕ) → IsMapping m → f < length m.fields → included m f s ≡ true → (home_of m f ≡ s) ⊎ IsAbove m s (home_of m f)
unfolding included
included_up m f s is h met = reaches_up m (home_of m f) (home_of m f) s is (is.home f h).in_range met
