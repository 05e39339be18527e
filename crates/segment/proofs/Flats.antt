-- Tests over lists, and the values of a document by its row.
use Rattle.std.proofs.Common.{◌≡◌, ◌∙◌, ◌⊎◌, inl, inr, ℕ, suc, ◌<◌, ◌≤◌, Bool, true, false, ◌&&◌, ◌||◌, List, [], ◌∷◌, length, map, slice_get, Some, All, Contains, refl, sym, ap, arith}
use Rattle.std.specs.Prelude.{◌==◌, nat_lt}
use Rattle.std.specs.List.{filter, list_any}
use Rattle.std.proofs.lemmas.Bool.{false≢true}
use Rattle.std.proofs.lemmas.Bool.Decides.{nat_tests, Decides-eqb}
use Rattle.std.proofs.lemmas.List.Folds.{Any-from_list_any, list_any_at}
use Rattle.std.proofs.lemmas.List.Elements.{All-head, All-tail}
use Rattle.std.proofs.lemmas.Option.{slice_get-get_or, slice_get_within, get_or_from_slice_get, same_Some, none-some}
use Rattle.doc_values.specs.Values.{values_of}
use Rattle.postings.specs.Postings.{documents}
use Rattle.postings.specs.Marks.{has_document}
use Rattle.segment_parts.specs.Fields.{column_of}
use Rattle.segment.specs.Flat.{values_at}

pub split : (b : Bool) → (b ≡ true) ⊎ (b ≡ false)
split true = inl refl
split false = inr refl

-- an element that passes, by its index
pub record IsPassing {X : Type 0} (test : X → Bool) (xs : List X) : Type 0 where
  pub at : ℕ
  pub own : X
  pub is : slice_get xs at ≡ Some own
  pub passes : test own ≡ true

pub passing : {X : Type 0} (test : X → Bool) (xs : List X) → list_any test xs ≡ true → IsPassing test xs
passing test xs holds =
    let any = Any-from_list_any test xs holds in
    record { at = any.0; own = any.1; is = slice_get-get_or xs any.0 any.1 any.2 ∙ ap Some any.3; passes = any.4 }

pub any_at : {X : Type 0} (test : X → Bool) (xs : List X) (at : ℕ) (own : X) → slice_get xs at ≡ Some own → test own ≡ true → list_any test xs ≡ true
any_at test xs at own is passes = list_any_at test xs at own (slice_get_within xs at own is) (ap test (get_or_from_slice_get xs at own own is) ∙ passes)

pub any_contained : {X : Type 0} (test : X → Bool) (xs : List X) (x : X) → Contains xs x → test x ≡ true → list_any test xs ≡ true
any_contained test xs x there passes = list_any_at test xs there.0 x there.1 (ap test there.2 ∙ passes)

pub contained : {X : Type 0} (xs : List X) (at : ℕ) (x : X) → slice_get xs at ≡ Some x → Contains xs x
contained xs at x is = (at, slice_get_within xs at x is, get_or_from_slice_get xs at x x is)

pub contained_get : {X : Type 0} (xs : List X) (x : X) (there : Contains xs x) → slice_get xs there.0 ≡ Some x
contained_get xs x there = slice_get-get_or xs there.0 x there.1 ∙ ap Some there.2

-- two tests that follow from one another
pub same_test : (one other : Bool) → (one ≡ true → other ≡ true) → (other ≡ true → one ≡ true) → one ≡ other
same_test true other there back = sym (there refl)
same_test false true there back = back refl
same_test false false there back = refl

pub any-map : {X Y : Type 0} (test : Y → Bool) (f : X → Y) (xs : List X) → list_any test (map f xs) ≡ list_any (λ x. test (f x)) xs
any-map test f [] = refl
any-map test f (x ∷ xs) = ap (λ b. test (f x) || b) (any-map test f xs)

pub any-same : {X : Type 0} (one other : X → Bool) (xs : List X) → ((x : X) → one x ≡ other x) → list_any one xs ≡ list_any other xs
any-same one other [] same = refl
any-same one other (x ∷ xs) same = ap (λ b. b || list_any one xs) (same x) ∙ ap (λ b. other x || b) (any-same one other xs same)

pub any-filter : {X : Type 0} (keep test : X → Bool) (xs : List X) → list_any test (filter keep xs) ≡ list_any (λ x. keep x && test x) xs
any-filter keep test [] = refl
any-filter keep test (x ∷ xs) =
    let rest = any-filter keep test xs in
    elim (split (keep x)) [
      | inl holds ↦ rw holds (ap (λ b. test x || b) rest)
      | inr fails ↦ rw fails rest
    ]

-- a test of some element asks for one
long_is : {X : Type 0} (x : X) (xs : List X) → nat_lt 0 (length (x ∷ xs)) ≡ true
long_is x xs = grind (arith, nat_tests)

none_flag : (flag : Bool) → false ≡ (flag && false)
none_flag true = refl
none_flag false = refl

pub kept : {X : Type 0} (flag : Bool) (test : X → Bool) (xs : List X) → (nat_lt 0 (length xs) && (flag && list_any test xs)) ≡ (flag && list_any test xs)
kept flag test [] = none_flag flag
kept flag test (x ∷ xs) = ap (λ b. b && (flag && list_any test (x ∷ xs))) (long_is x xs)

pub is_some : (n : ℕ) → nat_lt 0 n ≡ true → 0 < n
is_some n holds = grind (arith, nat_tests)

pub some_is : (n : ℕ) → 0 < n → nat_lt 0 n ≡ true
some_is n some = grind (arith, nat_tests)

-- a value of a field in the columns of values
pub any-values : {X : Type 0} (doc field : ℕ) (test : X → Bool) (columns : List (ℕ × List (ℕ × List X))) → list_any (λ (pair : ℕ × List X). (pair.0 == field) && list_any test pair.1) (values_at doc columns) ≡ list_any (λ (column : ℕ × List (ℕ × List X)). (column.0 == field) && list_any test (values_of doc column.1)) columns
any-values {X} doc field test columns =
    let own : ℕ × List (ℕ × List X) → ℕ × List X = λ column. (column.0, values_of doc column.1) in
    let some : ℕ × List X → Bool = λ pair. nat_lt 0 (length pair.1) in
    let has : ℕ × List X → Bool = λ pair. (pair.0 == field) && list_any test pair.1 in
    any-filter some has (map own columns)
    ∙ any-map (λ pair. some pair && has pair) own columns
    ∙ any-same (λ column. some (own column) && has (own column)) (λ column. has (own column)) columns (λ column. kept (column.0 == field) test (values_of doc column.1))

-- the row of a document that has values
pub record IsRowOf {X : Type 0} (doc : ℕ) (rows : List (ℕ × List X)) : Type 0 where
  pub at : ℕ
  pub row : ℕ × List X
  pub is : slice_get rows at ≡ Some row
  pub own : row.0 ≡ doc
  pub values : values_of doc rows ≡ row.1

pub row_of : {X : Type 0} (doc : ℕ) (rows : List (ℕ × List X)) → 0 < length (values_of doc rows) → IsRowOf doc rows
row_of doc [] some = absurd (omega (arith, some))
row_of doc (row ∷ rows) some =
    elim (split (row.0 == doc)) [
      | inl holds ↦ record { at = 0; row = row; is = refl; own = (Decides-eqb row.0 doc).0 holds; values = rw holds refl }
      | inr fails ↦
          let rest = row_of doc rows (rw fails at some) in
          record { at = suc rest.at; row = rest.row; is = rest.is; own = rest.own; values = rw fails rest.values }
    ]

pub contained_some : {X : Type 0} (xs : List X) (x : X) → Contains xs x → 0 < length xs
contained_some xs x there = omega (arith, there.1)

-- a document is among the postings where it has a row there
pub posted_row : (doc : ℕ) (postings : List (ℕ × List ℕ)) → 0 < length (values_of doc postings) → has_document doc postings ≡ true
posted_row doc postings some =
    let found = row_of doc postings some in
    any_at (λ (posting : ℕ × List ℕ). posting.0 == doc) postings found.at found.row found.is ((Decides-eqb found.row.0 doc).1 found.own)

pub posted_document : (doc : ℕ) (postings : List (ℕ × List ℕ)) → Contains (documents postings) doc → has_document doc postings ≡ true
posted_document doc postings there =
    let first : ℕ × List ℕ → ℕ = λ posting. posting.0 in
    sym (any-map (λ d. d == doc) first postings) ∙ any_contained (λ d. d == doc) (documents postings) doc there ((Decides-eqb doc doc).1 refl)

-- and it has values there where each posting has some
pub valued_row : (doc : ℕ) (postings : List (ℕ × List ℕ)) → has_document doc postings ≡ true → All (λ (posting : ℕ × List ℕ). 1 ≤ length posting.1) postings → 0 < length (values_of doc postings)
valued_row doc [] holds some = absurd (false≢true holds)
valued_row doc (posting ∷ postings) holds some =
    let Long : ℕ × List ℕ → Type 0 = λ p. 1 ≤ length p.1 in
    let here = All-head Long posting postings some in
    let more = All-tail Long posting postings some in
    elim (split (posting.0 == doc)) [
      | inl is ↦ rw is (omega (arith, here))
      | inr fails ↦ rw fails (valued_row doc postings (rw fails at holds) more)
    ]

-- a column that is found stands in the list
pub record IsColumnOf {X : Type 0} (field : ℕ) (x : X) (columns : List (ℕ × X)) : Type 0 where
  pub at : ℕ
  pub column : ℕ × X
  pub is : slice_get columns at ≡ Some column
  pub own : column.0 ≡ field
  pub same : column.1 ≡ x

pub column_found : {X : Type 0} (field : ℕ) (x : X) (columns : List (ℕ × X)) → column_of field columns ≡ Some x → IsColumnOf field x columns
column_found field x [] found = absurd (none-some x found)
column_found field x (column ∷ columns) found =
    elim (split (column.0 == field)) [
      | inl holds ↦ record { at = 0; column = column; is = refl; own = (Decides-eqb column.0 field).0 holds; same = same_Some column.1 x (rw holds at found) }
      | inr fails ↦
          let rest = column_found field x columns (rw fails at found) in
          record { at = suc rest.at; column = rest.column; is = rest.is; own = rest.own; same = rest.same }
    ]
