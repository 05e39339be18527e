-- The documents of a set, found one after another.
use Rattle.std.specs.Prelude.{◌≡◌, ℕ, suc, ◌+◌, ◌-◌, ◌≤◌, Bool, true, false, List, [], ◌∷◌, ◌++◌, drop, take, Some, None, refl}
use Rattle.std.specs.List.{position_from, flat_map}
use Rattle.std.proofs.Common.{arith, ap, sym, ◌∙◌, append_assoc}
use Rattle.std.proofs.lemmas.List.{append-nil, drop-drop}
use Rattle.std.proofs.lemmas.List.Concat.{flat_map-append}
use Rattle.block_bits.specs.Flags.{is_marked}
use Rattle.block_bits.specs.Places.{next_place}
use Rattle.nested_sort.specs.Inside.{marked_from, marked_within}

-- the first of a set, and those behind it
record First (start at : ℕ) (flags : List Bool) : Type 0 where
  pub behind : start ≤ at
  pub is : marked_from start flags ≡ at ∷ marked_from (at + 1) (drop (at + 1 - start) flags)

first_marked : (start at : ℕ) (flags : List Bool) → position_from is_marked start flags ≡ Some at → First start at flags
first_marked start at [] e = absurd (cc)
first_marked start at (true ∷ flags) e =
    let here : start ≡ at = cc in
    let one : at + 1 - start ≡ 1 = omega arith in
    let next : at + 1 ≡ suc start = omega arith in
    record { behind = omega arith; is = rw (one, next) (ap (λ n. n ∷ marked_from (suc start) flags) here) }
first_marked start at (false ∷ flags) e =
    let rest = first_marked (start + 1) at flags e in
    let skip : at + 1 - start ≡ suc (at + 1 - (start + 1)) = let b = rest.behind in omega arith in
    let next : suc start ≡ start + 1 = omega arith in
    record { behind = (let b = rest.behind in omega arith); is = rw (skip, next) rest.is }

none_marked : (start : ℕ) (flags : List Bool) → position_from is_marked start flags ≡ None → marked_from start flags ≡ []
none_marked start [] e = refl
none_marked start (true ∷ flags) e = absurd (cc)
none_marked start (false ∷ flags) e = let next : suc start ≡ start + 1 = omega arith in rw next (none_marked (start + 1) flags e)

pub within_more : (start end at : ℕ) (flags : List Bool) → next_place is_marked start (take end flags) ≡ Some at → marked_within start end flags ≡ at ∷ marked_within (at + 1) end flags
within_more start end at flags e =
    let first = first_marked start at (drop start (take end flags)) e in
    let far : (at + 1 - start) + start ≡ at + 1 = (let b = first.behind in omega arith) in
    first.is ∙ ap (λ rest. at ∷ marked_from (at + 1) rest) (drop-drop (at + 1 - start) start (take end flags) ∙ ap (λ n. drop n (take end flags)) (let b = first.behind in omega arith))

pub within_none : (start end : ℕ) (flags : List Bool) → next_place is_marked start (take end flags) ≡ None → marked_within start end flags ≡ []
within_none start end flags e = none_marked start (drop start (take end flags)) e

-- values that are added for one document more
pub added_more : {T : Type 0} (f : ℕ → List T) (g : ℕ → List ℕ) (start end at : ℕ) (flags : List Bool) (had now all : List T) → next_place is_marked start (take end flags) ≡ Some at → had ++ flat_map f (flat_map g (marked_within start end flags)) ≡ all → now ≡ had ++ flat_map f (g at) → now ++ flat_map f (flat_map g (marked_within (at + 1) end flags)) ≡ all
added_more f g start end at flags had now all next was is =
    let rest = marked_within (at + 1) end flags in
    let more : flat_map f (flat_map g (marked_within start end flags)) ≡ flat_map f (g at) ++ flat_map f (flat_map g rest) =
    ap (λ docs. flat_map f (flat_map g docs)) (within_more start end at flags next) ∙ flat_map-append f (g at) (flat_map g rest) in
    ap (λ values. values ++ flat_map f (flat_map g rest)) is ∙ (append_assoc had (flat_map f (g at)) (flat_map f (flat_map g rest)) ∙ (ap (λ values. had ++ values) (sym more) ∙ was))

-- and for no document more
pub added_none : {T : Type 0} (f : ℕ → List T) (g : ℕ → List ℕ) (start end : ℕ) (flags : List Bool) (had all : List T) → next_place is_marked start (take end flags) ≡ None → had ++ flat_map f (flat_map g (marked_within start end flags)) ≡ all → had ≡ all
added_none f g start end flags had all next was = sym (append-nil had) ∙ ap (λ docs. had ++ flat_map f (flat_map g docs)) (sym (within_none start end flags next)) ∙ was

-- ---- values of the documents themselves

pub values_more : {T : Type 0} (f : ℕ → List T) (start end at : ℕ) (flags : List Bool) (had now all : List T) → next_place is_marked start (take end flags) ≡ Some at → had ++ flat_map f (marked_within start end flags) ≡ all → now ≡ had ++ f at → now ++ flat_map f (marked_within (at + 1) end flags) ≡ all
values_more f start end at flags had now all next was is =
    let rest = flat_map f (marked_within (at + 1) end flags) in
    ap (λ values. values ++ rest) is ∙ (append_assoc had (f at) rest ∙ (ap (λ docs. had ++ flat_map f docs) (sym (within_more start end at flags next)) ∙ was))

pub values_none : {T : Type 0} (f : ℕ → List T) (start end : ℕ) (flags : List Bool) (had all : List T) → next_place is_marked start (take end flags) ≡ None → had ++ flat_map f (marked_within start end flags) ≡ all → had ≡ all
values_none f start end flags had all next was = sym (append-nil had) ∙ ap (λ docs. had ++ flat_map f docs) (sym (within_none start end flags next)) ∙ was

pub ruleset marked = (added_more, within_none)
