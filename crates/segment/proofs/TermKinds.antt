-- Terms by the column of their field.
use Rattle.std.proofs.Common.{◌≡◌, ◌⊎◌, inl, inr, ◌↔◌, ℕ, ℤ, suc, Bool, true, false, IsTrue, List, [], ◌∷◌, Option, Some, None, All, w64, FitsSigned, Result, Ok, Err, IfOk, refl, sym, subst, arith}
use Rattle.std.specs.Prelude.{◌==◌}
use Rattle.std.proofs.lemmas.Option.{same_Some}
use Rattle.segment_parts.specs.Fields.{column_of, AreByField}
use Rattle.segment_parts.specs.Parts.{IsNumberColumn}
use Rattle.segment_parts.specs.Agree.{IsTermOf, IsWordAt, IsKeywordAt, IsNumberAt}

pub of_word : (set : List Bool) (present : Option (List Bool)) (rows : Option (List (ℕ × List ℕ))) (numbers : Option (List (ℕ × List ℤ))) (ordinal : ℕ) (bytes : List ℕ) (own list : List (ℕ × List ℕ)) (test : Bool) → Some set ≡ present → own ≡ list → (IsTrue test ↔ All (IsWordAt set) own) → IsTrue test ↔ IsTermOf present rows numbers ordinal bytes list
of_word set present rows numbers ordinal bytes own list test found same law =
    subst (λ (p : Option (List Bool)). IsTrue test ↔ IsTermOf p rows numbers ordinal bytes list) found (subst (λ (l : List (ℕ × List ℕ)). IsTrue test ↔ All (IsWordAt set) l) same law)

pub of_keyword : (own_rows : List (ℕ × List ℕ)) (present : Option (List Bool)) (rows : Option (List (ℕ × List ℕ))) (numbers : Option (List (ℕ × List ℤ))) (ordinal : ℕ) (bytes : List ℕ) (own list : List (ℕ × List ℕ)) (test : Bool) → None ≡ present → Some own_rows ≡ rows → own ≡ list → (IsTrue test ↔ All (IsKeywordAt own_rows ordinal) own) → IsTrue test ↔ IsTermOf present rows numbers ordinal bytes list
of_keyword own_rows present rows numbers ordinal bytes own list test none found same law =
    subst (λ (p : Option (List Bool)). IsTrue test ↔ IsTermOf p rows numbers ordinal bytes list) none
    (subst (λ (r : Option (List (ℕ × List ℕ))). IsTrue test ↔ IsTermOf None r numbers ordinal bytes list) found (subst (λ (l : List (ℕ × List ℕ)). IsTrue test ↔ All (IsKeywordAt own_rows ordinal) l) same law))

pub of_number : (own_rows : List (ℕ × List ℤ)) (present : Option (List Bool)) (rows : Option (List (ℕ × List ℕ))) (numbers : Option (List (ℕ × List ℤ))) (ordinal : ℕ) (bytes : List ℕ) (own list : List (ℕ × List ℕ)) (test : Bool) → None ≡ present → None ≡ rows → Some own_rows ≡ numbers → own ≡ list → (IsTrue test ↔ All (IsNumberAt own_rows bytes) own) → IsTrue test ↔ IsTermOf present rows numbers ordinal bytes list
of_number own_rows present rows numbers ordinal bytes own list test none no_rows found same law =
    subst (λ (p : Option (List Bool)). IsTrue test ↔ IsTermOf p rows numbers ordinal bytes list) none
    (subst (λ (r : Option (List (ℕ × List ℕ))). IsTrue test ↔ IsTermOf None r numbers ordinal bytes list) no_rows
    (subst (λ (n : Option (List (ℕ × List ℤ))). IsTrue test ↔ IsTermOf None None n ordinal bytes list) found (subst (λ (l : List (ℕ × List ℕ)). IsTrue test ↔ All (IsNumberAt own_rows bytes) l) same law)))

split : (b : Bool) → (b ≡ true) ⊎ (b ≡ false)
split true = inl refl
split false = inr refl

-- a column that is found is one of them
found_column : {X : Type 0} (P : ℕ × X → Type 0) (columns : List (ℕ × X)) (field : ℕ) (x : X) → All P columns → Some x ≡ column_of field columns → (own : ℕ) × P (own, x)
found_column P [] field x each found = absurd (let no : ⊥ = cc in no)
found_column {X} P (column ∷ columns) field x each found =
    let here : P column = each 0 column (omega arith) in
    elim (split (column.0 == field)) [
      | inl holds ↦
          let same : x ≡ column.1 = same_Some x column.1 (rw holds at found) in
          (column.0, subst (λ y. P (column.0, y)) (sym same) here)
      | inr fails ↦ found_column P columns field x (λ k d below. each (suc k) d (omega arith)) (rw fails at found)
    ]

pub numbers_fit : (columns : List (ℕ × List (ℕ × List ℤ))) (field : ℕ) (rows : List (ℕ × List ℤ)) → AreByField IsNumberColumn columns → Some rows ≡ column_of field columns → All (λ (row : ℕ × List ℤ). All (FitsSigned w64) row.1) rows
numbers_fit columns field rows are found = (found_column IsNumberColumn columns field rows are.each found).1.entries.fit

-- what follows of what a call gives
pub when_ok : {A E : Type 0} (P Q : A → Type 0) (r : Result A E) → IfOk r P → ((a : A) → P a → Q a) → IfOk r Q
when_ok P Q (Ok a) own more = more a own
when_ok P Q (Err e) own more = own
