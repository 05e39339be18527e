-- What was read from a place on stands there, and where nothing was read no column stands.
use Rattle.std.proofs.Common.{◌≡◌, ℕ, zero, suc, ◌+◌, ◌-◌, ◌<◌, ◌≤◌, ◌⊎◌, inl, inr, true, ltb, List, [], ◌++◌, length, drop, Option, Some, None, refl, sym, ap, subst, ◌∙◌, arith}
use Rattle.std.specs.declared.cmp.Ordering.{Ordering}
use Rattle.std.proofs.lemmas.Bool.{lt-ltb}
use Rattle.std.proofs.lemmas.List.{drop_at, drop_all, drop-drop, length-append, length-drop}
use Rattle.std.proofs.lemmas.Option.{none-some}
use Rattle.part_text.specs.Text.{u32_text}
use Rattle.part_text.specs.Reading.{Reader, u32_at, many_at, counted_at}
use Rattle.part_text.specs.Reads.{Reads, IsBytes, IsBytes-drop, IsBytes-rest, u32_reads, many_take, length-u32_text}
use Rattle.part_text.specs.Places.{places_from}
use Rattle.part_text.specs.Placed.{ArePlaced}
use Rattle.doc_values.specs.Text.{entry_text, column_text}
use Rattle.doc_values.specs.Stands.{IsColumn, Stands}
use Rattle.doc_values.specs.Reading.{some_at, entry_at, column_at, HasHead, HasNoHead, MayEntry, entry_reads, column_reads}

split : {A : Type 0} (o : Option A) → (o ≡ None) ⊎ ((x : A) × (o ≡ Some x))
split None = inl refl
split (Some x) = inr (x, refl)

none_or_some : (n : ℕ) → (n ≡ 0) ⊎ (0 < n)
none_or_some zero = inl refl
none_or_some (suc n) = inr (omega arith)

-- how values are written and read
pub record AreRead {X : Type 0} (cmp : X → X → Ordering) (Fits : X → Type 0) (text : X → List ℕ) (read : Reader X) : Type 0 where
  pub law : Reads {B = Option X} text (λ _ value. Fits value) (λ _. read)

pub no_column : {X : Type 0} (cmp : X → X → Ordering) (Fits : X → Type 0) (text : X → List ℕ) (read : Reader X) → AreRead cmp Fits text read → (bytes : List ℕ) (at : ℕ) → column_at cmp read (drop at bytes) ≡ None
    → (column : ℕ × List (ℕ × List X)) (rest : List ℕ) → IsColumn cmp Fits column → drop at bytes ≡ column_text text column ++ rest → ⊥
no_column cmp Fits text read are bytes at none column rest is there =
    none-some (column, rest) (sym none ∙ ap (column_at cmp read) there ∙ (column_reads cmp Fits text read are.law).again tt column rest is)

nothing_read : {X : Type 0} (cmp : X → X → Ordering) (read : Reader X) → column_at cmp read [] ≡ None
unfolding column_at u32_at
nothing_read cmp read = refl

pub past_the_end : {X : Type 0} (cmp : X → X → Ordering) (read : Reader X) (bytes : List ℕ) (at : ℕ) → length bytes < at → column_at cmp read (drop at bytes) ≡ None
past_the_end cmp read bytes at past = ap (column_at cmp read) (drop_all at bytes (omega arith)) ∙ nothing_read cmp read

pub no_head : {X : Type 0} (cmp : X → X → Ordering) (read : Reader X) (own : List ℕ) → HasNoHead own → column_at cmp read own ≡ None
unfolding column_at some_at counted_at many_at
no_head cmp read own never = elim (split (u32_at own)) [
  | inl none ↦ rw none refl
  | inr field ↦ elim (split (u32_at field.0.1)) [
    | inl none ↦ rw (field.1, none) refl
    | inr count ↦ elim (none_or_some count.0.0) [
      | inl empty ↦ rw (field.1, count.1, empty) refl
      | inr some ↦ absurd (never count.0.0 count.0.1 (record { field = field.0.0; middle = field.0.1; field_is = field.1; count_is = count.1; some = some }))
    ]
  ]
]

pub no_entries : {X : Type 0} (cmp : X → X → Ordering) (read : Reader X) (own : List ℕ) (count : ℕ) (entries : List ℕ) → HasHead own count entries → many_at (λ (entry : ℕ × List X). entry.0) (entry_at cmp read) None count entries ≡ None → column_at cmp read own ≡ None
unfolding column_at some_at counted_at
no_entries cmp read own count entries head none = rw (head.field_is, head.count_is, none) refl

pub head_there : (own other : List ℕ) (count : ℕ) (entries : List ℕ) → own ≡ other → HasHead own count entries → HasHead other count entries
head_there own other count entries same head = subst (λ bytes. HasHead bytes count entries) {x = own} {y = other} same head

pub no_head_there : (own other : List ℕ) → own ≡ other → HasNoHead own → HasNoHead other
no_head_there own other same never = subst HasNoHead {x = own} {y = other} same never

-- what follows the number of entries is no longer than the bytes
pub head_within : (bytes : List ℕ) (at count : ℕ) (entries : List ℕ) → IsBytes bytes → at ≤ length bytes → HasHead (drop at bytes) count entries → length bytes ≡ at + 8 + length entries
head_within bytes at count entries fits inside head =
    let own = drop at bytes in
    let first = (u32_reads {B = Unit {0}}).takes tt own head.field head.middle (IsBytes-drop at bytes fits) head.field_is in
    let second = (u32_reads {B = Unit {0}}).takes tt head.middle count entries (IsBytes-rest own (u32_text head.field) head.middle (IsBytes-drop at bytes fits) first.1) head.count_is in
    let long : length bytes - at ≡ length (u32_text head.field) + length head.middle = sym (length-drop at bytes) ∙ ap length first.1 ∙ length-append (u32_text head.field) head.middle in
    let rest : length head.middle ≡ length (u32_text count) + length entries = ap length second.1 ∙ length-append (u32_text count) entries in
    omega (arith, long, rest, inside, length-u32_text head.field, length-u32_text count)

-- the column that was read, and where it ends
pub record Found {X : Type 0} (cmp : X → X → Ordering) (Fits : X → Type 0) (text : X → List ℕ) (bytes : List ℕ) (at : ℕ) (rest places : List ℕ) : Type 0 where
  pub within : length rest ≤ length bytes
  pub column : ℕ × List (ℕ × List X)
  pub stands : Stands cmp Fits text bytes at column places (length bytes - length rest)

pub found : {X : Type 0} (cmp : X → X → Ordering) (Fits : X → Type 0) (text : X → List ℕ) (read : Reader X) → AreRead cmp Fits text read → (bytes : List ℕ) (at count : ℕ) (entries rest places : List ℕ) → IsBytes bytes → at ≤ length bytes → HasHead (drop at bytes) count entries
    → ArePlaced (λ (entry : ℕ × List X). entry.0) (entry_text text) (entry_at cmp read) count entries (length bytes - length entries) rest places → Found cmp Fits text bytes at rest places
unfolding column_at some_at counted_at
found {X} cmp Fits text read are bytes at count entries rest places fits inside head placed =
    let first : ℕ × List X → ℕ = λ entry. entry.0 in
    let own = drop at bytes in
    let rows : List (ℕ × List X) = placed.items in
    let column : ℕ × List (ℕ × List X) = (head.field, rows) in
    let own_fits = IsBytes-drop at bytes fits in
    let one = (u32_reads {B = Unit {0}}).takes tt own head.field head.middle own_fits head.field_is in
    let middle_fits = IsBytes-rest own (u32_text head.field) head.middle own_fits one.1 in
    let two = (u32_reads {B = Unit {0}}).takes tt head.middle count entries middle_fits head.count_is in
    let entries_fit = IsBytes-rest head.middle (u32_text count) entries middle_fits two.1 in
    let read_all = many_take first (entry_text text) (MayEntry cmp Fits) (entry_at cmp read) (entry_reads cmp Fits text read are.law) None count entries rows rest entries_fit placed.is in
    let some : ltb 0 (length rows) ≡ true = lt-ltb 0 (length rows) (omega (arith, read_all.0, head.some)) in
    let whole : column_at cmp read own ≡ Some (column, rest) = rw (head.field_is, head.count_is, placed.is, some) refl in
    let law = (column_reads cmp Fits text read are.law).takes tt own column rest own_fits whole in
    let size : length bytes ≡ at + 8 + length entries = head_within bytes at count entries fits inside head in
    let long : length bytes - at ≡ length (column_text text column) + length rest = sym (length-drop at bytes) ∙ ap length law.1 ∙ length-append (column_text text column) rest in
    let ends : length bytes - length rest ≡ at + length (column_text text column) = omega (arith, long, inside) in
    let behind : drop (length bytes - length rest) bytes ≡ rest =
    ap (λ place. drop place bytes) ends ∙ sym (drop-drop (length (column_text text column)) at bytes) ∙ ap (drop (length (column_text text column))) law.1 ∙ drop_at (column_text text column) rest (length (column_text text column)) refl in
    let starts : length bytes - length entries ≡ at + 8 = omega (arith, size) in
    record {
      within = omega (arith, long, inside);
      column = column;
      stands = record {
        is = law.0;
        there = law.1 ∙ ap (λ last. column_text text column ++ last) (sym behind);
        ends = ends;
        within = omega arith;
        placed = placed.placed ∙ ap (λ place. places_from (entry_text text) place rows) starts;
      };
    }
