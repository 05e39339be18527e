-- What was read from a place on stands there, and where nothing was read no rows stand.
use Rattle.std.proofs.Common.{◌≡◌, ℕ, ◌+◌, ◌-◌, ◌<◌, ◌≤◌, List, [], ◌++◌, length, drop, Some, None, refl, sym, ap, ◌∙◌, arith}
use Rattle.std.proofs.lemmas.List.{drop_at, drop_all, drop-drop, length-append, length-drop}
use Rattle.std.proofs.lemmas.Option.{none-some}
use Rattle.part_text.specs.Text.{u64_text}
use Rattle.part_text.specs.Reading.{u64_at, many_at, counted_at}
use Rattle.part_text.specs.Reads.{IsBytes, IsBytes-drop, u64_reads, length-u64_text}
use Rattle.part_text.specs.Places.{places_from}
use Rattle.part_text.specs.Placed.{ArePlaced}
use Rattle.term_table.specs.declared.rows.TermRow.{TermRow}
use Rattle.term_table.specs.Part.{row_text, rows_text, AreRows, Stand}
use Rattle.term_table.specs.Reading.{row_at, rows_at}
use Rattle.term_table.specs.Laws.{rows_reads}

pub none_stand : (bytes : List ℕ) (at : ℕ) → rows_at (drop at bytes) ≡ None → (rows : List TermRow) (rest : List ℕ) → AreRows rows → drop at bytes ≡ rows_text rows ++ rest → ⊥
none_stand bytes at none rows rest are text =
    none-some (rows, rest) (sym none ∙ ap rows_at text ∙ rows_reads.again tt rows rest are)

nothing_read : rows_at [] ≡ None
unfolding counted_at u64_at
nothing_read = refl

pub past_the_end : (bytes : List ℕ) (at : ℕ) → length bytes < at → rows_at (drop at bytes) ≡ None
past_the_end bytes at past = ap rows_at (drop_all at bytes (omega arith)) ∙ nothing_read

pub no_number : (own : List ℕ) → u64_at own ≡ None → rows_at own ≡ None
unfolding counted_at
no_number own none = rw none refl

pub no_rows : (own first : List ℕ) (count : ℕ) → u64_at own ≡ Some (count, first) → many_at (λ (row : TermRow). row.term) row_at None count first ≡ None → rows_at own ≡ None
unfolding counted_at
no_rows own first count is none = rw is none

-- what follows the number is no longer than the bytes
pub first_within : (bytes : List ℕ) (at count : ℕ) (first : List ℕ) → IsBytes bytes → at ≤ length bytes → u64_at (drop at bytes) ≡ Some (count, first) → length bytes ≡ at + 8 + length first
first_within bytes at count first fits inside is =
    let took = (u64_reads {B = Unit {0}}).takes tt (drop at bytes) count first (IsBytes-drop at bytes fits) is in
    let long : length bytes - at ≡ length (u64_text count) + length first = sym (length-drop at bytes) ∙ ap length took.1 ∙ length-append (u64_text count) first in
    omega (arith, long, length-u64_text count)

-- the rows that were read, and where they end
pub record Found (bytes : List ℕ) (at : ℕ) (rest places : List ℕ) : Type 0 where
  pub within : length rest ≤ length bytes
  pub rows : List TermRow
  pub stand : Stand bytes at rows places (length bytes - length rest)

pub found : (bytes : List ℕ) (at count : ℕ) (first rest places : List ℕ) → IsBytes bytes → at ≤ length bytes → u64_at (drop at bytes) ≡ Some (count, first) → ArePlaced (λ (row : TermRow). row.term) row_text row_at count first (length bytes - length first) rest places → Found bytes at rest places
unfolding counted_at
found bytes at count first rest places fits inside is placed =
    let rows : List TermRow = placed.items in
    let read : rows_at (drop at bytes) ≡ Some (rows, rest) = rw is placed.is in
    let law = rows_reads.takes tt (drop at bytes) rows rest (IsBytes-drop at bytes fits) read in
    let size : length bytes ≡ at + 8 + length first = first_within bytes at count first fits inside is in
    let long : length bytes - at ≡ length (rows_text rows) + length rest = sym (length-drop at bytes) ∙ ap length law.1 ∙ length-append (rows_text rows) rest in
    let ends : length bytes - length rest ≡ at + length (rows_text rows) = omega (arith, long, inside) in
    let behind : drop (length bytes - length rest) bytes ≡ rest =
    ap (λ place. drop place bytes) ends ∙ sym (drop-drop (length (rows_text rows)) at bytes) ∙ ap (drop (length (rows_text rows))) law.1 ∙ drop_at (rows_text rows) rest (length (rows_text rows)) refl in
    let starts : length bytes - length first ≡ at + 8 = omega (arith, size) in
    record {
      within = omega (arith, long, inside);
      rows = rows;
      stand = record {
        are = law.0;
        text = law.1 ∙ ap (λ last. rows_text rows ++ last) (sym behind);
        ends = ends;
        placed = placed.placed ∙ ap (λ place. places_from row_text place rows) starts;
      };
    }
