-- Reading a column from left to right, and the laws that this undoes its text.
use Rattle.std.proofs.Common.{◌≡◌, ℕ, ◌+◌, ◌<◌, ◌^◌, Bool, true, false, not, ltb, List, length, get_or, Option, Some, None, refl, sym, subst, arith}
use Rattle.std.specs.List.{All}
use Rattle.std.specs.Ordering.{is_lt}
use Rattle.std.specs.declared.cmp.Ordering.{Ordering}
use Rattle.std.proofs.lemmas.Bool.{ltb-true, lt-ltb}
use Rattle.std.proofs.lemmas.List.{map-id, get_or_default}
use Rattle.part_text.specs.Text.{u32_text, counted_text}
use Rattle.part_text.specs.Reading.{Reader, u32_at, both_at, tested_at, follows, counted_at}
use Rattle.part_text.specs.Reads.{Reads, Follow, u32_reads, both_reads, tested_reads, counted_reads, reads_as}
use Rattle.part_text.specs.Order.{After, Rising, follow_all, follow_rising, follow_of}
use Rattle.doc_values.specs.Values.{documents, AreValues}
use Rattle.doc_values.specs.Text.{entry_text, column_text}
use Rattle.doc_values.specs.Stands.{AreEntries, IsColumn}

-- ---- readers

abbrev pub is_up_to : {X : Type 0} → (X → X → Ordering) → X → X → Bool
is_up_to cmp one other = not (is_lt (cmp other one))

-- a value that isn't below the one before it
unfoldable pub value_at : {X : Type 0} → (X → X → Ordering) → Reader X → Option X → Reader X
value_at cmp read = tested_at (follows (is_up_to cmp)) read

unfoldable pub values_at : {X : Type 0} → (X → X → Ordering) → Reader X → Reader (List X)
values_at cmp read = counted_at u32_at (λ value. value) (value_at cmp read)

-- a list that isn't empty
abbrev pub has_some : {A X : Type 0} → A → List X → Bool
has_some before items = ltb 0 (length items)

unfoldable pub some_at : {X : Type 0} → Reader (List X) → Reader (List X)
some_at list = tested_at (has_some {A = Unit {0}}) list tt

-- a document behind the one before it
unfoldable pub document_at : Option ℕ → Reader ℕ
document_at = tested_at (follows ltb) u32_at

unfoldable pub entry_at : {X : Type 0} → (X → X → Ordering) → Reader X → Option ℕ → Reader (ℕ × List X)
entry_at cmp read = both_at document_at (some_at (values_at cmp read))

unfoldable pub column_at : {X : Type 0} → (X → X → Ordering) → Reader X → Reader (ℕ × List (ℕ × List X))
column_at cmp read = both_at (λ (_ : Unit {0}). u32_at) (some_at (counted_at u32_at (λ row. row.0) (entry_at cmp read))) tt

-- a field and a number of entries, at least one, stand in front
pub record HasHead (bytes : List ℕ) (count : ℕ) (entries : List ℕ) : Type 0 where
  pub field : ℕ
  pub middle : List ℕ
  pub field_is : u32_at bytes ≡ Some (field, middle)
  pub count_is : u32_at middle ≡ Some (count, entries)
  pub some : 0 < count

abbrev pub HasNoHead : List ℕ → Type 0
HasNoHead bytes = (count : ℕ) (entries : List ℕ) → HasHead bytes count entries → ⊥

-- ---- laws

abbrev pub UpTo : {X : Type 0} → (X → X → Ordering) → X → X → Type 0
UpTo cmp one other = is_lt (cmp other one) ≡ false

not_true : (b : Bool) → not b ≡ true → b ≡ false
not_true true e = absurd (cc)
not_true false e = refl

not_false : (b : Bool) → b ≡ false → not b ≡ true
not_false true e = absurd (cc)
not_false false e = refl

up_to_after : {X : Type 0} (cmp : X → X → Ordering) (before : Option X) (x : X) → follows (is_up_to cmp) before x ≡ true → After (UpTo cmp) before x
up_to_after cmp None x e = tt
up_to_after cmp (Some before) x e = not_true (is_lt (cmp x before)) e

after_up_to : {X : Type 0} (cmp : X → X → Ordering) (before : Option X) (x : X) → After (UpTo cmp) before x → follows (is_up_to cmp) before x ≡ true
after_up_to cmp None x e = refl
after_up_to cmp (Some before) x e = not_false (is_lt (cmp x before)) e

behind_after : (before : Option ℕ) (x : ℕ) → follows ltb before x ≡ true → After (λ (a b : ℕ). a < b) before x
behind_after None x e = tt
behind_after (Some before) x e = ltb-true before x e

after_behind : (before : Option ℕ) (x : ℕ) → After (λ (a b : ℕ). a < b) before x → follows ltb before x ≡ true
after_behind None x e = refl
after_behind (Some before) x e = lt-ltb before x e

abbrev pub MayValue : {X : Type 0} → (X → X → Ordering) → (X → Type 0) → Option X → X → Type 0
MayValue cmp Fits before value = Fits value × After (UpTo cmp) before value

pub value_reads : {X : Type 0} (cmp : X → X → Ordering) (Fits : X → Type 0) (text : X → List ℕ) (read : Reader X) → Reads {B = Option X} text (λ _ value. Fits value) (λ _. read) → Reads text (MayValue cmp Fits) (value_at cmp read)
unfolding value_at
value_reads {X} cmp Fits text read law =
    tested_reads text (λ _ value. Fits value) (After (UpTo cmp)) (follows (is_up_to cmp)) read law (up_to_after cmp) (after_up_to cmp)

abbrev pub AreValuesRead : {X : Type 0} → (X → X → Ordering) → (X → Type 0) → List X → Type 0
AreValuesRead cmp Fits values = (length values < 2 ^ 32) × Follow (λ value. value) (MayValue cmp Fits) None values

pub values_reads : {B X : Type 0} (cmp : X → X → Ordering) (Fits : X → Type 0) (text : X → List ℕ) (read : Reader X) → Reads {B = Option X} text (λ _ value. Fits value) (λ _. read)
    → Reads {B = B} (counted_text u32_text text) (λ _ values. AreValuesRead cmp Fits values) (λ _. values_at cmp read)
unfolding values_at
values_reads {B} {X} cmp Fits text read law =
    counted_reads (2 ^ 32) u32_text u32_at (λ value. value) text (MayValue cmp Fits) (value_at cmp read) u32_reads (value_reads cmp Fits text read law)

pub some_reads : {B X : Type 0} (text : List X → List ℕ) (May : List X → Type 0) (list : Reader (List X)) → Reads {B = B} text (λ _ items. May items) (λ _. list)
    → Reads {B = B} text (λ _ items. May items × (0 < length items)) (λ _. some_at list)
unfolding some_at
some_reads {B} {X} text May list law =
    tested_reads {B = B} text (λ _ items. May items) (λ _ items. 0 < length items) (has_some {A = B}) list law (λ before items e. ltb-true 0 (length items) e) (λ before items e. lt-ltb 0 (length items) e)

document_reads : Reads u32_text (λ before doc. (doc < 2 ^ 32) × After (λ (a b : ℕ). a < b) before doc) document_at
unfolding document_at
document_reads = tested_reads u32_text (λ _ doc. doc < 2 ^ 32) (After (λ (a b : ℕ). a < b)) (follows ltb) u32_at u32_reads behind_after after_behind

-- what an entry is by itself
abbrev pub IsEntry : {X : Type 0} → (X → X → Ordering) → (X → Type 0) → ℕ × List X → Type 0
IsEntry cmp Fits row = (row.0 < 2 ^ 32) × (AreValuesRead cmp Fits row.1 × (0 < length row.1))

abbrev pub MayEntry : {X : Type 0} → (X → X → Ordering) → (X → Type 0) → Option ℕ → ℕ × List X → Type 0
MayEntry cmp Fits before row = IsEntry cmp Fits row × After (λ (a b : ℕ). a < b) before row.0

pub entry_reads : {X : Type 0} (cmp : X → X → Ordering) (Fits : X → Type 0) (text : X → List ℕ) (read : Reader X) → Reads {B = Option X} text (λ _ value. Fits value) (λ _. read)
    → Reads (entry_text text) (MayEntry cmp Fits) (entry_at cmp read)
unfolding entry_at
entry_reads {X} cmp Fits text read law =
    let MayValues : List X → Type 0 = λ values. AreValuesRead cmp Fits values × (0 < length values) in
    reads_as (entry_text text) (λ before (row : ℕ × List X). ((row.0 < 2 ^ 32) × After (λ (a b : ℕ). a < b) before row.0) × MayValues row.1) (MayEntry cmp Fits) (both_at document_at (some_at (values_at cmp read)))
    (both_reads u32_text (counted_text u32_text text) (λ before doc. (doc < 2 ^ 32) × After (λ (a b : ℕ). a < b) before doc) (λ _ values. MayValues values) document_at (some_at (values_at cmp read))
    document_reads (some_reads (counted_text u32_text text) (AreValuesRead cmp Fits) (values_at cmp read) (values_reads cmp Fits text read law)))
    (λ before row may. ((may.0.0, may.1), may.0.1))
    (λ before row may. ((may.0.0, may.1), may.0.1))

-- ---- the same in the words for lists

sorted_from : {X : Type 0} (cmp : X → X → Ordering) (Fits : X → Type 0) (values : List X) → AreValuesRead cmp Fits values → 0 < length values → AreValues cmp values
sorted_from {X} cmp Fits values read some = record {
  some = some;
  fewer = read.0;
  ascending = λ k d low below. subst (λ (xs : List X). Rising (UpTo cmp) xs) (map-id values) (follow_rising (λ value. value) (UpTo cmp) Fits None values read.1) k d below;
}

read_from : {X : Type 0} (cmp : X → X → Ordering) (Fits : X → Type 0) (values : List X) → AreValues cmp values → All Fits values → AreValuesRead cmp Fits values
read_from {X} cmp Fits values are fit =
    (are.fewer, follow_of (λ value. value) (UpTo cmp) Fits values fit (subst (λ (xs : List X). Rising (UpTo cmp) xs) (sym (map-id values)) (λ k d below. are.ascending k d (omega arith) below)))

abbrev pub AreEntriesRead : {X : Type 0} → (X → X → Ordering) → (X → Type 0) → List (ℕ × List X) → Type 0
AreEntriesRead {X} cmp Fits rows = ((length rows < 2 ^ 32) × Follow (λ (row : ℕ × List X). row.0) (MayEntry cmp Fits) None rows) × (0 < length rows)

entries_from : {X : Type 0} (cmp : X → X → Ordering) (Fits : X → Type 0) (rows : List (ℕ × List X)) → AreEntriesRead cmp Fits rows → AreEntries cmp Fits rows
entries_from {X} cmp Fits rows read =
    let each = follow_all (λ (row : ℕ × List X). row.0) (λ (a b : ℕ). a < b) (IsEntry cmp Fits) None rows read.0.1 in
    let rising = follow_rising (λ (row : ℕ × List X). row.0) (λ (a b : ℕ). a < b) (IsEntry cmp Fits) None rows read.0.1 in
    record {
      some = read.1;
      rows_are = record {
        fewer = read.0.0;
        ascending = λ k below. rising k 0 below;
        valued = λ k d below. sorted_from cmp Fits (get_or rows k d).1 (each k d below).1.0 (each k d below).1.1;
      };
      numbered = λ k d below. (each k d below).0;
      fit = λ k d below. follow_all (λ value. value) (UpTo cmp) Fits None (get_or rows k d).1 (each k d below).1.0.1;
    }

entries_read : {X : Type 0} (cmp : X → X → Ordering) (Fits : X → Type 0) (rows : List (ℕ × List X)) → AreEntries cmp Fits rows → AreEntriesRead cmp Fits rows
entries_read {X} cmp Fits rows are =
    let each : All (IsEntry cmp Fits) rows =
    λ k d below. (are.numbered k d below, (read_from cmp Fits (get_or rows k d).1 (are.rows_are.valued k d below) (are.fit k d below), (are.rows_are.valued k d below).some)) in (
      (
        are.rows_are.fewer,
        follow_of (λ (row : ℕ × List X). row.0) (λ (a b : ℕ). a < b) (IsEntry cmp Fits) rows each (λ k d below.
            let docs = documents rows in
            let here : get_or docs k d ≡ get_or docs k 0 = get_or_default docs k d 0 (omega arith) in
            let next : get_or docs (k + 1) d ≡ get_or docs (k + 1) 0 = get_or_default docs (k + 1) d 0 below in
            let rises : get_or docs k 0 < get_or docs (k + 1) 0 = are.rows_are.ascending k below in
            omega (arith, rises, here, next)),
      ),
      are.some,
    )

pub column_reads : {X : Type 0} (cmp : X → X → Ordering) (Fits : X → Type 0) (text : X → List ℕ) (read : Reader X) → Reads {B = Option X} text (λ _ value. Fits value) (λ _. read)
    → Reads {B = Unit {0}} (column_text text) (λ _ column. IsColumn cmp Fits column) (λ _. column_at cmp read)
unfolding column_at
column_reads {X} cmp Fits text read law =
    let first : ℕ × List X → ℕ = λ row. row.0 in
    let entries = counted_at u32_at first (entry_at cmp read) in
    reads_as (column_text text) (λ _ (column : ℕ × List (ℕ × List X)). (column.0 < 2 ^ 32) × AreEntriesRead cmp Fits column.1) (λ _ column. IsColumn cmp Fits column) (λ _. column_at cmp read)
    (both_reads {B = Unit {0}} u32_text (counted_text u32_text (entry_text text)) (λ _ field. field < 2 ^ 32) (λ _ rows. AreEntriesRead cmp Fits rows) (λ _. u32_at) (some_at entries) u32_reads
    (some_reads (counted_text u32_text (entry_text text)) (λ rows. (length rows < 2 ^ 32) × Follow first (MayEntry cmp Fits) None rows) entries
    (counted_reads (2 ^ 32) u32_text u32_at first (entry_text text) (MayEntry cmp Fits) (entry_at cmp read) u32_reads (entry_reads cmp Fits text read law))))
    (λ _ column may. record { field = may.0; entries = entries_from cmp Fits column.1 may.1 })
    (λ _ column is. (is.field, entries_read cmp Fits column.1 is.entries))
