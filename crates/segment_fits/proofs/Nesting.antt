-- Lists of scopes that are blocks: one behind the other, and by other lists of the scopes around.
use Rattle.std.proofs.Common.{◌≡◌, inl, inr, ℕ, zero, suc, ◌+◌, ◌-◌, ◌<◌, ◌≤◌, Bool, true, false, ◌||◌, List, [], ◌∷◌, ◌++◌, length, get_or, Option, Some, None, IsSomeAnd, refl, sym, ap, ◌∙◌, arith, eqb}
use Rattle.std.specs.List.{All}
use Rattle.std.proofs.lemmas.Bool.{cases_lt, true≢false}
use Rattle.std.proofs.lemmas.List.{length-append, get_or_append_left, get_or-append-add}
use Rattle.block_bits.specs.Blocks.{EnclosesAt, IsBlocks, scope_at}
use Rattle.block_bits.specs.Scopes.{IsScopeTree, enclosing, is_above, is_above_within}
use Rattle.block_bits.proofs.Above.{falls, is_above-step, split_option}

-- the last of some scopes is the root's
abbrev pub EndsAtRoot : List ℕ → Type 0
EndsAtRoot [] = Unit {0}
EndsAtRoot (scope ∷ []) = scope ≡ 0
EndsAtRoot (scope ∷ next ∷ scopes) = EndsAtRoot (next ∷ scopes)

pub ends_at : (xs : List ℕ) (k : ℕ) → EndsAtRoot xs → k + 1 ≡ length xs → get_or xs k 0 ≡ 0
ends_at [] k ends h = absurd (omega (arith, h))
ends_at (x ∷ []) zero ends h = ends
ends_at (x ∷ []) (suc k) ends h = absurd (omega (arith, h))
ends_at (x ∷ y ∷ xs) zero ends h = absurd (omega (arith, h))
ends_at (x ∷ y ∷ xs) (suc k) ends h = ends_at (y ∷ xs) k ends (omega (arith, h))

-- ---- the root lies above every other scope, and none above it

not_none : (o : Option ℕ) (P : ℕ → Type 0) → IsSomeAnd o P → o ≡ None → ⊥
not_none None P h e = h
not_none (Some x) P h e = absurd (cc (e))

or_true : (b : Bool) → (b || true) ≡ true
or_true true = refl
or_true false = refl

-- it is the scope around another, or lies above that one
above_outer : (parents : List (Option ℕ)) (outer : ℕ) → (0 < outer → is_above parents 0 outer ≡ true) → (eqb outer 0 || is_above parents 0 outer) ≡ true
above_outer parents zero further = refl
above_outer parents (suc outer) further = ap (λ (b : Bool). eqb (suc outer) 0 || b) (further (omega arith)) ∙ or_true (eqb (suc outer) 0)

root_above_within : (parents : List (Option ℕ)) (fuel scope : ℕ) → IsScopeTree parents → scope ≤ fuel → 0 < scope → scope < length parents → is_above parents 0 scope ≡ true
root_above_within parents zero scope tree few some within = absurd (omega (arith, few, some))
root_above_within parents (suc fuel) scope tree few some within =
    elim (split_option (enclosing parents scope)) [
      | inl none ↦ absurd (not_none (enclosing parents scope) (λ outer. outer < scope) (tree.nested scope some within) none)
      | inr found ↦
          let fall = falls parents scope found.0 tree found.1 in
          is_above-step parents 0 scope found.0 tree found.1
          ∙ above_outer parents found.0 (λ more. root_above_within parents fuel found.0 tree (omega (arith, fall.0, few)) more (omega (arith, fall.0, within)))
    ]

root_above : (parents : List (Option ℕ)) (scope : ℕ) → IsScopeTree parents → 0 < scope → scope < length parents → is_above parents 0 scope ≡ true
root_above parents scope tree some within = root_above_within parents scope scope tree (omega arith) some within

-- ---- one list behind another

abbrev left : (xs ys : List ℕ) (k : ℕ) → k < length xs → scope_at (xs ++ ys) k ≡ scope_at xs k
left xs ys k h = get_or_append_left xs ys 0 k h

right : (xs ys : List ℕ) (k : ℕ) → scope_at (xs ++ ys) (length xs + k) ≡ scope_at ys k
right xs ys k = get_or-append-add xs ys k 0

pub blocks_second : (parents : List (Option ℕ)) (xs ys : List ℕ) → IsBlocks parents (xs ++ ys) → IsBlocks parents ys
blocks_second parents xs ys blocks = record {
  enclosed = λ doc outer h e.
      let found = blocks.enclosed (length xs + doc) outer (omega (arith, h, length-append xs ys)) (ap (enclosing parents) (right xs ys doc) ∙ e) in
      let at = found.0 - length xs in
      let back : length xs + at ≡ found.0 = omega (arith, found.1.later) in (
        at,
        record {
          later = omega (arith, back, found.1.later);
          within = omega (arith, back, found.1.within, length-append xs ys);
          of_outer = sym (right xs ys at) ∙ ap (scope_at (xs ++ ys)) back ∙ found.1.of_outer;
          first = λ between past before.
              ap (λ (s : ℕ). is_above parents s outer) (sym (right xs ys between)) ∙ found.1.first (length xs + between) (omega (arith, past)) (omega (arith, before, back));
        },
      );
  last = λ doc h. sym (right xs ys doc) ∙ blocks.last (length xs + doc) (omega (arith, h, length-append xs ys));
}

pub blocks_first : (parents : List (Option ℕ)) → IsScopeTree parents → (xs ys : List ℕ) → EndsAtRoot xs → IsBlocks parents (xs ++ ys) → IsBlocks parents xs
blocks_first parents tree xs ys ends blocks = record {
  enclosed = λ doc outer h e. inside doc outer h e (blocks.enclosed doc outer (omega (arith, h, length-append xs ys)) (ap (enclosing parents) (left xs ys doc h) ∙ e));
  last = λ doc h. ends_at xs doc ends h;
}
  where
    -- the list's own last document encloses whatever the root encloses
    by_last : (doc : ℕ) → doc < length xs → (outer : ℕ) → outer ≡ 0 → enclosing parents (scope_at xs doc) ≡ Some outer → (at : ℕ) × EnclosesAt parents xs doc outer at
    by_last doc h outer root e =
        let last = length xs - 1 in
        let there : last + 1 ≡ length xs = omega (arith, h) in
        let is : scope_at xs last ≡ 0 = ends_at xs last ends there in
        elim (cases_lt doc last) [
          | inl before ↦ (
            last,
            record {
              later = before;
              within = omega (arith, there);
              of_outer = is ∙ sym root;
              first = λ between past earlier. ap (is_above parents (scope_at xs between)) root;
            },
          )
          | inr not_before ↦
              let same : doc ≡ last = omega (arith, not_before, there, h) in
              let none : enclosing parents (scope_at xs doc) ≡ None = ap (λ (k : ℕ). enclosing parents (scope_at xs k)) same ∙ ap (enclosing parents) is ∙ tree.root in
              absurd (let never : None ≡ Some outer = sym none ∙ e in cc (never))
        ]

    kept : (doc outer at : ℕ) → at < length xs → EnclosesAt parents (xs ++ ys) doc outer at → (k : ℕ) × EnclosesAt parents xs doc outer k
    kept doc outer at inside found = (
      at,
      record {
        later = found.later;
        within = inside;
        of_outer = sym (left xs ys at inside) ∙ found.of_outer;
        first = λ between past before.
            ap (λ (s : ℕ). is_above parents s outer) (sym (left xs ys between (omega (arith, before, inside)))) ∙ found.first between past before;
      },
    )

    -- behind the list's end: the root stands between, so that it is the one sought
    beyond : (doc outer : ℕ) → doc < length xs → enclosing parents (scope_at xs doc) ≡ Some outer → (at : ℕ) → length xs ≤ at → EnclosesAt parents (xs ++ ys) doc outer at → (k : ℕ) × EnclosesAt parents xs doc outer k
    beyond doc zero h e at past found = by_last doc h 0 refl e
    beyond doc (suc outer) h e at past found =
        let last = length xs - 1 in
        let there : last + 1 ≡ length xs = omega (arith, h) in
        let is : scope_at xs last ≡ 0 = ends_at xs last ends there in
        let fall = falls parents (scope_at xs doc) (suc outer) tree e in
        elim (cases_lt doc last) [
          | inl before ↦
              let at_last : scope_at (xs ++ ys) last ≡ 0 = left xs ys last (omega (arith, there)) ∙ is in
              let not_above : is_above parents 0 (suc outer) ≡ false = ap (λ (s : ℕ). is_above parents s (suc outer)) (sym at_last) ∙ found.first last before (omega (arith, there, past)) in
              absurd (true≢false (sym (root_above parents (suc outer) tree (omega arith) (omega (arith, fall.0, fall.1))) ∙ not_above))
          | inr not_before ↦
              let same : doc ≡ last = omega (arith, not_before, there, h) in
              let none : enclosing parents (scope_at xs doc) ≡ None = ap (λ (k : ℕ). enclosing parents (scope_at xs k)) same ∙ ap (enclosing parents) is ∙ tree.root in
              absurd (let never : None ≡ Some (suc outer) = sym none ∙ e in cc (never))
        ]

    inside : (doc outer : ℕ) → doc < length xs → enclosing parents (scope_at xs doc) ≡ Some outer → (at : ℕ) × EnclosesAt parents (xs ++ ys) doc outer at → (at : ℕ) × EnclosesAt parents xs doc outer at
    inside doc outer h e found =
        elim (cases_lt found.0 (length xs)) [
          | inl here ↦ kept doc outer found.0 here found.1
          | inr past ↦ beyond doc outer h e found.0 past found.1
        ]

pub blocks_both : (parents : List (Option ℕ)) (xs ys : List ℕ) → IsBlocks parents xs → IsBlocks parents ys → IsBlocks parents (xs ++ ys)
blocks_both parents xs ys one two = record {
  enclosed = λ doc outer h e. elim (cases_lt doc (length xs)) [
    | inl here ↦ in_first doc outer here (sym (ap (enclosing parents) (left xs ys doc here)) ∙ e)
    | inr past ↦ in_second doc outer past (omega (arith, h, length-append xs ys)) e
  ];
  last = λ doc h. elim (cases_lt doc (length xs)) [
    | inl here ↦ left xs ys doc here ∙ one.last doc (omega (arith, here, h, length-append xs ys))
    | inr past ↦
        let back : length xs + (doc - length xs) ≡ doc = omega (arith, past) in
        ap (scope_at (xs ++ ys)) (sym back) ∙ right xs ys (doc - length xs) ∙ two.last (doc - length xs) (omega (arith, back, h, length-append xs ys))
  ];
}
  where
    in_first : (doc outer : ℕ) → doc < length xs → enclosing parents (scope_at xs doc) ≡ Some outer → (at : ℕ) × EnclosesAt parents (xs ++ ys) doc outer at
    in_first doc outer here e =
        let found = one.enclosed doc outer here e in (
          found.0,
          record {
            later = found.1.later;
            within = omega (arith, found.1.within, length-append xs ys);
            of_outer = left xs ys found.0 found.1.within ∙ found.1.of_outer;
            first = λ between past before.
                ap (λ (s : ℕ). is_above parents s outer) (left xs ys between (omega (arith, before, found.1.within))) ∙ found.1.first between past before;
          },
        )

    in_second : (doc outer : ℕ) → length xs ≤ doc → doc < length xs + length ys → enclosing parents (scope_at (xs ++ ys) doc) ≡ Some outer → (at : ℕ) × EnclosesAt parents (xs ++ ys) doc outer at
    in_second doc outer past h e =
        let own = doc - length xs in
        let back : length xs + own ≡ doc = omega (arith, past) in
        let scope : scope_at (xs ++ ys) doc ≡ scope_at ys own = ap (scope_at (xs ++ ys)) (sym back) ∙ right xs ys own in
        let found = two.enclosed own outer (omega (arith, back, h)) (sym (ap (enclosing parents) scope) ∙ e) in (
          length xs + found.0,
          record {
            later = omega (arith, found.1.later, back);
            within = omega (arith, found.1.within, length-append xs ys);
            of_outer = right xs ys found.0 ∙ found.1.of_outer;
            first = λ between later before.
                let k = between - length xs in
                let there : length xs + k ≡ between = omega (arith, later, past) in
                ap (λ (s : ℕ). is_above parents s outer) (ap (scope_at (xs ++ ys)) (sym there) ∙ right xs ys k)
                ∙ found.1.first k (omega (arith, later, there, back)) (omega (arith, before, there));
          },
        )

-- ---- by two lists of the scopes around, which agree on the scopes that there are

pub record AreAlike (count : ℕ) (one other : List (Option ℕ)) : Type 0 where
  pub tree : IsScopeTree one
  pub same : (scope : ℕ) → scope < count → enclosing other scope ≡ enclosing one scope

above_alike : (count : ℕ) (one other : List (Option ℕ)) (steps upper lower : ℕ) → AreAlike count one other → lower < count → is_above_within other steps upper lower ≡ is_above_within one steps upper lower
above_alike count one other zero upper lower alike h = refl
above_alike count one other (suc steps) upper lower alike h =
    let same = alike.same lower h in
    elim (split_option (enclosing one lower)) [
      | inl none ↦ rw (same, none) refl
      | inr some ↦
          let fall = falls one lower some.0 alike.tree some.1 in
          rw (same, some.1) (ap (λ (b : Bool). eqb some.0 upper || b) (above_alike count one other steps upper some.0 alike (omega (arith, h, fall.0))))
    ]

pub blocks_alike : (count : ℕ) (one other : List (Option ℕ)) (scopes : List ℕ) → AreAlike count one other → All (λ (scope : ℕ). scope < count) scopes → IsBlocks one scopes → IsBlocks other scopes
blocks_alike count one other scopes alike each blocks = record {
  enclosed = λ doc outer h e.
      let in_range : scope_at scopes doc < count = each doc 0 h in
      let same : enclosing one (scope_at scopes doc) ≡ Some outer = sym (alike.same (scope_at scopes doc) in_range) ∙ e in
      let found = blocks.enclosed doc outer h same in
      let fall = falls one (scope_at scopes doc) outer alike.tree same in (
        found.0,
        record {
          later = found.1.later;
          within = found.1.within;
          of_outer = found.1.of_outer;
          first = λ between past before. above_alike count one other outer (scope_at scopes between) outer alike (omega (arith, in_range, fall.0)) ∙ found.1.first between past before;
        },
      );
  last = blocks.last;
}
