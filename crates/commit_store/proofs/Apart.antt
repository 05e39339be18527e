-- Extents that share no byte, one beside another.
use Rattle.std.proofs.Common.{◌≡◌, ℕ, ◌+◌, ◌<◌, ◌≤◌, ◌⊎◌, inl, inr, ⊎_elim, cond, Bool, true, false, List, [], ◌∷◌, ◌++◌, count_by, refl, sym, ◌∙◌, ap, subst, arith}
use Rattle.std.specs.List.{AllByRecursion}
use Rattle.std.specs.List.Sorted.{IsPermutation}
use Rattle.std.proofs.lemmas.Bool.{cases_lt}
use Rattle.std.proofs.lemmas.List.Sums.{sum_by-cons}
use Rattle.std.proofs.lemmas.List.Sorted.{sum_by-IsPermutation}
use Rattle.extent_pool.specs.Extents.{AreDisjoint, end_of, keeps, rounded}
use Rattle.extent_pool.specs.declared.extent.Extent.{Extent}

-- no byte of one extent is a byte of the other
abbrev pub Apart : Extent → Extent → Type 0
Apart one other = (one.at + one.len ≤ other.at) ⊎ (other.at + other.len ≤ one.at)

abbrev pub HasBytes : Extent → Type 0
HasBytes extent = 1 ≤ extent.len

-- each extent is apart from each behind it
abbrev pub AreAllApart : List Extent → Type 0
AreAllApart [] = Unit {0}
AreAllApart (extent ∷ extents) = AllByRecursion (Apart extent) extents × AreAllApart extents

pub disjoint_permuted : (ones others : List Extent) → IsPermutation ones others → AreDisjoint others → AreDisjoint ones
disjoint_permuted ones others moved disjoint = record {
  one_at_most = λ byte. let same = sum_by-IsPermutation (λ (it : Extent). cond (keeps byte it) 1 0) ones others moved in let one = disjoint.one_at_most byte in omega (arith, same, one);
}

keeping : (byte : ℕ) (extent : Extent) (extents : List Extent) → count_by (keeps byte) (extent ∷ extents) ≡ cond (keeps byte extent) 1 0 + count_by (keeps byte) extents
keeping byte extent extents = sum_by-cons (λ (it : Extent). cond (keeps byte it) 1 0) extent extents

tail_disjoint : (extent : Extent) (extents : List Extent) → AreDisjoint (extent ∷ extents) → AreDisjoint extents
tail_disjoint extent extents disjoint = record {
  one_at_most = λ byte. let same = keeping byte extent extents in let one = disjoint.one_at_most byte in omega (arith, same, one);
}

skip_disjoint : (one other : Extent) (extents : List Extent) → AreDisjoint (one ∷ other ∷ extents) → AreDisjoint (one ∷ extents)
skip_disjoint one other extents disjoint = record {
  one_at_most = λ byte.
      let whole = keeping byte one (other ∷ extents) in
      let behind = keeping byte other extents in
      let part = keeping byte one extents in
      let most = disjoint.one_at_most byte in
      omega (arith, whole, behind, part, most);
}

not_both : (one other : Extent) (extents : List Extent) (byte : ℕ) → AreDisjoint (one ∷ other ∷ extents) → keeps byte one ≡ true → keeps byte other ≡ true → ⊥
not_both one other extents byte disjoint first second =
    let whole = keeping byte one (other ∷ extents) ∙ ap (λ (it : Bool). cond it 1 0 + count_by (keeps byte) (other ∷ extents)) first in
    let behind = keeping byte other extents ∙ ap (λ (it : Bool). cond it 1 0 + count_by (keeps byte) extents) second in
    let most = disjoint.one_at_most byte in
    omega (arith, whole, behind, most)

rounded_up : (len : ℕ) → len ≤ rounded len
rounded_up len = omega arith

-- an extent keeps its own bytes, and those up to the end of its last unit
inside : (byte : ℕ) (extent : Extent) → extent.at ≤ byte → byte < end_of extent → keeps byte extent ≡ true
inside byte extent from to = grind arith

inside_own : (byte : ℕ) (extent : Extent) → extent.at ≤ byte → byte < extent.at + extent.len → keeps byte extent ≡ true
inside_own byte extent from to = inside byte extent from (omega (arith, to, rounded_up extent.len))

apart_of : (one other : Extent) (extents : List Extent) → HasBytes one → HasBytes other → AreDisjoint (one ∷ other ∷ extents) → Apart one other
apart_of one other extents has have disjoint =
    ⊎_elim
    (λ (before : one.at < other.at).
    ⊎_elim
    (λ (cut : other.at < one.at + one.len). absurd (not_both one other extents other.at disjoint (inside_own other.at one (omega (arith, before)) cut) (inside_own other.at other (omega arith) (omega (arith, have)))))
    (λ (clear : one.at + one.len ≤ other.at). inl clear)
    (cases_lt other.at (one.at + one.len)))
    (λ (behind : other.at ≤ one.at).
    ⊎_elim
    (λ (cut : one.at < other.at + other.len). absurd (not_both one other extents one.at disjoint (inside_own one.at one (omega arith) (omega (arith, has))) (inside_own one.at other behind cut)))
    (λ (clear : other.at + other.len ≤ one.at). inr clear)
    (cases_lt one.at (other.at + other.len)))
    (cases_lt one.at other.at)

first_apart : (one : Extent) (extents : List Extent) → HasBytes one → AllByRecursion HasBytes extents → AreDisjoint (one ∷ extents) → AllByRecursion (Apart one) extents
first_apart one [] has have disjoint = tt
first_apart one (other ∷ extents) has have disjoint =
    (apart_of one other extents has have.0 disjoint, first_apart one extents has have.1 (skip_disjoint one other extents disjoint))

pub all_apart : (extents : List Extent) → AllByRecursion HasBytes extents → AreDisjoint extents → AreAllApart extents
all_apart [] have disjoint = tt
all_apart (extent ∷ extents) have disjoint =
    (first_apart extent extents have.0 have.1 disjoint, all_apart extents have.1 (tail_disjoint extent extents disjoint))
