-- What keys are given by their scores: a mark, or a tally in a slot of its own.
use Rattle.std.proofs.Common.{◌≡◌, ◌≢◌, ℕ, zero, suc, ◌==◌, ◌<◌, ◌≤◌, Bool, true, false, if◌then◌else◌, Some, None, List, [], ◌∷◌, ◌++◌, length, replicate, get_or, set, refl, sym, ap, subst, ◌∙◌, inl, inr, arith}
use Rattle.std.proofs.lemmas.Bool.{cases_Bool, eqb-true, eq-eqb, true≢false}
use Rattle.query_eval.specs.Sides.{AreMarked, AreTold, IsTold, TallyOf, answer_of, scores_of}
use Rattle.query_eval.specs.declared.answer.Answer.{Answer}
use Rattle.query_eval.specs.declared.answer.Answer.TheVariants as answer
use Rattle.query_eval.specs.declared.tally.Tally.{Tally}
use Rattle.query_eval.proofs.Entries.{nil_append}
use Rattle.query_eval.proofs.Keys.{scores_append}

module _ {A : Type 0} where
  set_own : (xs : List A) (k : ℕ) (x d : A) → k < length xs → get_or (set xs k x) k d ≡ x
  set_own [] k x d below = absurd (omega (arith, below))
  set_own (y ∷ xs) zero x d below = refl
  set_own (y ∷ xs) (suc k) x d below = set_own xs k x d (omega (arith, below))

  set_other : (xs : List A) (k j : ℕ) (x d : A) → k ≢ j → get_or (set xs k x) j d ≡ get_or xs j d
  set_other [] k j x d apart = refl
  set_other (y ∷ xs) zero zero x d apart = absurd (apart refl)
  set_other (y ∷ xs) zero (suc j) x d apart = refl
  set_other (y ∷ xs) (suc k) zero x d apart = refl
  set_other (y ∷ xs) (suc k) (suc j) x d apart = set_other xs k j x d (λ same. apart (ap suc same))

  set_long : (xs : List A) (k : ℕ) (x : A) → length (set xs k x) ≡ length xs
  set_long [] k x = refl
  set_long (y ∷ xs) zero x = refl
  set_long (y ∷ xs) (suc k) x = ap suc (set_long xs k x)

  at_end : (xs : List A) (x d : A) → get_or (xs ++ x ∷ []) (length xs) d ≡ x
  at_end [] x d = refl
  at_end (y ∷ xs) x d = at_end xs x d

  before_end : (xs : List A) (x d : A) (k : ℕ) → k < length xs → get_or (xs ++ x ∷ []) k d ≡ get_or xs k d
  before_end [] x d k below = absurd (omega (arith, below))
  before_end (y ∷ xs) x d zero below = refl
  before_end (y ∷ xs) x d (suc k) below = before_end xs x d k (omega (arith, below))

no_slot : {A : Type 0} (x : A) (count key : ℕ) → get_or (replicate count x) key x ≡ x
no_slot x zero key = refl
no_slot x (suc count) zero = refl
no_slot x (suc count) (suc key) = no_slot x count key

-- which default is taken doesn't matter within a list
pub own_slot : (slots : List ℕ) (key slot : ℕ) → key < length slots → slot ≡ get_or slots key slot → slot ≡ get_or slots key 0
own_slot [] key slot below is = absurd (omega (arith, below))
own_slot (x ∷ slots) zero slot below is = is
own_slot (x ∷ slots) (suc key) slot below is = own_slot slots key slot (omega (arith, below)) is

pub told_none : (slots : List ℕ) (told : List Tally) (count : ℕ) → slots ≡ replicate count 0 → AreTold [] slots told
told_none slots told count is = record {
  each = λ key below. rw (is, no_slot {A = ℕ} 0 count key) refl;
  apart = λ one other some same. absurd (omega (arith, some, ap (λ (l : List ℕ). get_or l one 0) is, no_slot {A = ℕ} 0 count one));
}

other_key : (k j : ℕ) → (k == j) ≡ false → k ≢ j
other_key k j other = λ same. true≢false (sym (eq-eqb k j same) ∙ other)

module _ (pairs : List (ℕ × ℕ)) (key s : ℕ) where
  scores_other : (j : ℕ) → (key == j) ≡ false → scores_of j (pairs ++ (key, s) ∷ []) ≡ scores_of j pairs
  scores_other j other = scores_append j pairs ((key, s) ∷ []) ∙ rw other (nil_append (scores_of j pairs))

  scores_own : (j : ℕ) → (key == j) ≡ true → scores_of j (pairs ++ (key, s) ∷ []) ≡ scores_of key pairs ++ s ∷ []
  scores_own j here =
      let same : key ≡ j = eqb-true key j here in
      scores_append j pairs ((key, s) ∷ []) ∙ rw here (ap (λ n. scores_of n pairs ++ s ∷ []) (sym same))

-- ---- marks

pub marked_none : (boost : ℕ) (marks : List Bool) (count : ℕ) → marks ≡ replicate count false → AreMarked boost [] marks
marked_none boost marks count is = λ key below. rw (is, no_slot {A = Bool} false count key) refl

some_boost : (boost s : ℕ) (scores : List ℕ) → Some boost ≡ answer_of (answer.Parent false boost) (scores ++ s ∷ [])
some_boost boost s [] = refl
some_boost boost s (t ∷ scores) = refl

pub marked_more : (boost : ℕ) (pairs : List (ℕ × ℕ)) (marks : List Bool) (key s : ℕ) → AreMarked boost pairs marks → key < length marks → AreMarked boost (pairs ++ (key, s) ∷ []) (set marks key true)
marked_more boost pairs marks key s was below = λ j inside. elim (cases_Bool (key == j)) [
  | inl here ↦
      let mark : get_or (set marks key true) j false ≡ true = ap (λ n. get_or (set marks key true) n false) (sym (eqb-true key j here)) ∙ set_own marks key true false below in
      rw (mark, scores_own pairs key s j here) (some_boost boost s (scores_of key pairs))
  | inr other ↦ rw (set_other marks key j true false (other_key key j other), scores_other pairs key s j other) (was j (omega (arith, inside, set_long marks key true)))
]

pub marked_given : (asked : Answer) (boost : ℕ) (pairs : List (ℕ × ℕ)) (marks : List Bool) (key : ℕ) (mark : Bool) → asked ≡ answer.Parent false boost → AreMarked boost pairs marks → key < length marks → mark ≡ get_or marks key false
    → (if mark then Some boost else None) ≡ answer_of asked (scores_of key pairs)
marked_given asked boost pairs marks key mark is are below own = rw (is, own) (are key below)

-- ---- tallies

module _ (pairs : List (ℕ × ℕ)) (slots : List ℕ) (told : List Tally) (key s : ℕ) (t : Tally) (was : AreTold pairs slots told) (below : key < length slots) where
  module _ (first : get_or slots key 0 ≡ 0) (within : (j : ℕ) → get_or slots j 0 ≤ length told) (own : TallyOf (s ∷ []) t) where
    abbrev slots_on : List ℕ
    slots_on = set slots key (suc (length told))

    slot_other : (j : ℕ) → (key == j) ≡ false → get_or slots_on j 0 ≡ get_or slots j 0
    slot_other j other = set_other slots key j (suc (length told)) 0 (other_key key j other)

    slot_own : get_or slots_on key 0 ≡ suc (length told)
    slot_own = set_own slots key (suc (length told)) 0 below

    none_yet : (slot : ℕ) → slot ≡ 0 → IsTold (scores_of key pairs) told slot → scores_of key pairs ≡ []
    none_yet zero is h = h
    none_yet (suc slot) is h = absurd (omega (arith, is))

    keeps : (scores : List ℕ) (slot : ℕ) → slot ≤ length told → IsTold scores told slot → IsTold scores (told ++ t ∷ []) slot
    keeps scores zero low h = h
    keeps scores (suc slot) low h = λ d. subst (TallyOf scores) (sym (before_end told t d slot (omega (arith, low)))) (h d)

    by_keys : (one other : ℕ) → 0 < get_or slots_on one 0 → get_or slots_on one 0 ≡ get_or slots_on other 0 → one ≡ other
    by_keys one other some same = elim (cases_Bool (key == one)) [
      | inl here ↦
          let at : key ≡ one = eqb-true key one here in
          elim (cases_Bool (key == other)) [
            | inl there ↦ sym at ∙ eqb-true key other there
            | inr apart ↦ absurd (omega (arith, same, ap (λ n. get_or slots_on n 0) at, slot_own, slot_other other apart, within other))
          ]
      | inr apart ↦ elim (cases_Bool (key == other)) [
        | inl there ↦ absurd (omega (arith, same, ap (λ n. get_or slots_on n 0) (eqb-true key other there), slot_own, slot_other one apart, within one))
        | inr far ↦ was.apart one other (omega (arith, some, slot_other one apart)) (sym (slot_other one apart) ∙ same ∙ slot_other other far)
      ]
    ]

    pub told_first : AreTold (pairs ++ (key, s) ∷ []) slots_on (told ++ t ∷ [])
    told_first = record {
      each = λ j inside. elim (cases_Bool (key == j)) [
        | inl here ↦
            let at : key ≡ j = eqb-true key j here in
            let slot : get_or slots_on j 0 ≡ suc (length told) = ap (λ n. get_or slots_on n 0) (sym at) ∙ slot_own in
            let all : scores_of j (pairs ++ (key, s) ∷ []) ≡ s ∷ [] =
            scores_own pairs key s j here ∙ ap (λ (l : List ℕ). l ++ s ∷ []) (none_yet (get_or slots key 0) first (was.each key below)) in
            rw (slot, all) (λ d. subst (TallyOf (s ∷ [])) (sym (at_end told t d)) own)
        | inr other ↦
            rw (slot_other j other, scores_other pairs key s j other)
            (keeps (scores_of j pairs) (get_or slots j 0) (within j) (was.each j (omega (arith, inside, set_long slots key (suc (length told))))))
      ];
      apart = by_keys;
    }

  module _ (slot : ℕ) (at : get_or slots key 0 ≡ suc slot) (within : slot < length told) (own : TallyOf (scores_of key pairs ++ s ∷ []) t) where
    keeps_other : (j : ℕ) (scores : List ℕ) (other : ℕ) → get_or slots j 0 ≡ other → key ≢ j → IsTold scores told other → IsTold scores (set told slot t) other
    keeps_other j scores zero is apart h = h
    keeps_other j scores (suc other) is apart h = λ d.
        let far : slot ≢ other = λ same. apart (was.apart key j (omega (arith, at)) (at ∙ ap suc same ∙ sym is)) in
        subst (TallyOf scores) (sym (set_other told slot other t d far)) (h d)

    pub told_again : AreTold (pairs ++ (key, s) ∷ []) slots (set told slot t)
    told_again = record {
      each = λ j inside. elim (cases_Bool (key == j)) [
        | inl here ↦
            let same : key ≡ j = eqb-true key j here in
            let here_slot : get_or slots j 0 ≡ suc slot = ap (λ n. get_or slots n 0) (sym same) ∙ at in
            rw (here_slot, scores_own pairs key s j here) (λ d. subst (TallyOf (scores_of key pairs ++ s ∷ [])) (sym (set_own told slot t d within)) own)
        | inr other ↦
            rw (scores_other pairs key s j other) (keeps_other j (scores_of j pairs) (get_or slots j 0) refl (other_key key j other) (was.each j inside))
      ];
      apart = was.apart;
    }

-- the slots stay within the tallies
pub within_first : (slots : List ℕ) (told : List Tally) (key : ℕ) (t : Tally) → ((j : ℕ) → get_or slots j 0 ≤ length told) → (j : ℕ) → get_or (set slots key (suc (length told))) j 0 ≤ length (told ++ t ∷ [])
within_first slots told key t within j = elim (cases_Bool (key == j)) [
  | inl here ↦ omega (arith, long told, own slots j (eqb-true key j here))
  | inr other ↦ omega (arith, long told, within j, set_other slots key j (suc (length told)) 0 (other_key key j other))
]
  where
    long : (xs : List Tally) → length (xs ++ t ∷ []) ≡ suc (length xs)
    long [] = refl
    long (x ∷ xs) = ap suc (long xs)

    own : (xs : List ℕ) (j : ℕ) → key ≡ j → get_or (set xs key (suc (length told))) j 0 ≤ suc (length told)
    own xs j same = rw (← same) (at xs key)
      where
        at : (xs : List ℕ) (k : ℕ) → get_or (set xs k (suc (length told))) k 0 ≤ suc (length told)
        at [] k = omega arith
        at (x ∷ xs) zero = omega arith
        at (x ∷ xs) (suc k) = at xs k

pub within_again : (slots : List ℕ) (told : List Tally) (slot : ℕ) (t : Tally) → ((j : ℕ) → get_or slots j 0 ≤ length told) → (j : ℕ) → get_or slots j 0 ≤ length (set told slot t)
within_again slots told slot t within j = omega (arith, within j, set_long told slot t)
