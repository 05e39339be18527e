-- The first of the members that come.
use Rattle.std.proofs.Common.{◌≡◌, ℕ, ◌<◌, List as Seq, [], ◌∷◌, length, ap, ◌∙◌, subst, arith, true, Less, Equal, Greater, Ordering, is_lt}
use Rattle.std.proofs.lemmas.Slice.Eq.{bytes_eq-Decides}
use Rattle.std.specs.Ordering.{nat_cmp}
use Rattle.std.specs.Cmp.Lexicographic.{slice_cmp}
use Rattle.tree_json.specs.View.{view, entries}
use Rattle.tree_json.specs.declared.value.Json.{Json}
use Rattle.json_merge.specs.Coming.{is_before, is_named, Comes}

abbrev Pair : Type 0
Pair = Seq ℕ × Json

less_from : (r : Ordering) → is_lt r ≡ true → r ≡ Less
less_from Less h = cc
less_from Equal h = cc
less_from Greater h = cc

-- where the first comes before a name, it is the one that is taken
pub comes_first : (name : Seq ℕ) (old new : Seq Pair) (m : Pair) → old ≡ m ∷ new → is_before name (entries old) ≡ true → Comes name (m.0, view m.1) (entries old) (entries new)
comes_first name old new m e h =
    let before : is_before name (entries (m ∷ new)) ≡ true = subst (λ (xs : Seq Pair). is_before name (entries xs) ≡ true) e h in
    record { is = ap entries e; less = less_from (slice_cmp nat_cmp m.0 name) before }

pub named_first : (name : Seq ℕ) (old new : Seq Pair) (m : Pair) → old ≡ m ∷ new → is_named name (entries old) ≡ true → entries old ≡ (name, view m.1) ∷ entries new
named_first name old new m e h =
    let named : is_named name (entries (m ∷ new)) ≡ true = subst (λ (xs : Seq Pair). is_named name (entries xs) ≡ true) e h in
    ap entries e ∙ ap (λ (k : Seq ℕ). (k, view m.1) ∷ entries new) ((bytes_eq-Decides m.0 name).0 named)

-- one of them is there
pub some_before : (name : Seq ℕ) (old : Seq Pair) → is_before name (entries old) ≡ true → 0 < length old
some_before name [] h = cc
some_before name (x ∷ old) h = omega arith

pub some_named : (name : Seq ℕ) (old : Seq Pair) → is_named name (entries old) ≡ true → 0 < length old
some_named name [] h = cc
some_named name (x ∷ old) h = omega arith

pub ruleset firsts = (comes_first, named_first, some_before, some_named)
