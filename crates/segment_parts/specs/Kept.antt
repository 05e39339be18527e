-- How a segment's parts are read in place: what stands behind the places that are kept of each.
use Rattle.std.proofs.Common.{◌≡◌, ◌⊎◌, inl, inr, Bool, true, false, ℕ, suc, ◌+◌, ◌-◌, ◌<◌, ◌≤◌, ◌^◌, List, [], ◌∷◌, ◌++◌, length, get_or, slice_get, map, drop, Option, Some, None, All, refl, sym, ap, subst, ◌∙◌, append_assoc, arith}
use Rattle.std.specs.List.{flat_map}
use Rattle.std.specs.List.Sorted.{IsStrictlyIncreasing}
use Rattle.std.specs.Prelude.{slice_index, ◌==◌}
use Rattle.std.specs.declared.cmp.Ordering.{Ordering}
use Rattle.std.proofs.lemmas.List.{drop_at, drop-drop, length-append, length-drop, length-map, get_or-map, map-append}
use Rattle.std.proofs.lemmas.Option.{slice_get-get_or, same_Some}
use Rattle.std.proofs.lemmas.List.Elements.{All-push}
use Rattle.part_text.specs.Text.{u32_text, counted_text}
use Rattle.part_text.specs.Reading.{Reader}
use Rattle.part_text.specs.Reads.{Reads, first_u32-text, length-u32_text, reads_once}
use Rattle.part_text.specs.Front.{first_u32}
use Rattle.part_text.specs.Places.{places_from}
use Rattle.doc_values.specs.Text.{entry_text, column_text}
use Rattle.doc_values.specs.Stands.{IsColumn, Stands, Belong}
use Rattle.doc_values.specs.Reading.{column_at, column_reads}
use Rattle.segment_parts.specs.Fields.{fields, column_of, AreByField}
use Rattle.segment_parts.specs.Once.{IsTaken, IsNowhere, IsOnce, AreFew, IsTaking, taking_none, taking_more, counted_taken, counted_ends, counted_once, once_as}

-- what was read, or the column of no field
abbrev pub column_read : {X : Type 0} → Option ((ℕ × List (ℕ × List X)) × List ℕ) → ℕ × List (ℕ × List X)
column_read None = (0, [])
column_read (Some read) = read.0

-- the column whose entries stand at these places: its field and their number stand in front of them
unfoldable pub column_in : {X : Type 0} → (X → X → Ordering) → Reader X → List ℕ → List ℕ → ℕ × List (ℕ × List X)
column_in cmp read bytes places = column_read (column_at cmp read (drop (slice_index places 0 - 8) bytes))

-- the columns of the fields that are kept with their places
abbrev pub columns_in : {X : Type 0} → (X → X → Ordering) → Reader X → List ℕ → List (ℕ × List ℕ) → List (ℕ × List (ℕ × List X))
columns_in {X} cmp read bytes kept = map (λ (own : ℕ × List ℕ). column_in cmp read bytes own.1) kept

-- a field and the places of the entries of its column
pub record IsKept {X : Type 0} (cmp : X → X → Ordering) (Fits : X → Type 0) (text : X → List ℕ) (read : Reader X) (bytes : List ℕ) (kept : ℕ × List ℕ) : Type 0 where
  pub field : kept.0 ≡ (column_in cmp read bytes kept.1).0
  pub is : IsColumn cmp Fits (column_in cmp read bytes kept.1)
  pub belong : Belong cmp Fits text bytes kept.1 (column_in cmp read bytes kept.1)

-- its column stands from the place `at` up to the place `end`
pub record IsColumnAt {X : Type 0} (cmp : X → X → Ordering) (Fits : X → Type 0) (text : X → List ℕ) (read : Reader X) (bytes : List ℕ) (at : ℕ) (kept : ℕ × List ℕ) (end : ℕ) : Type 0 where
  pub kept_is : IsKept cmp Fits text read bytes kept
  pub there : drop at bytes ≡ column_text text (column_in cmp read bytes kept.1) ++ drop end bytes
  pub within : end ≤ length bytes

-- a list of columns stands there
pub record AreColumnsAt {X : Type 0} (cmp : X → X → Ordering) (Fits : X → Type 0) (text : X → List ℕ) (read : Reader X) (bytes : List ℕ) (at : ℕ) (kept : List (ℕ × List ℕ)) (end : ℕ) : Type 0 where
  pub each : All (IsKept cmp Fits text read bytes) kept
  pub are : AreByField (IsColumn cmp Fits) (columns_in cmp read bytes kept)
  pub there : drop at bytes ≡ counted_text u32_text (column_text text) (columns_in cmp read bytes kept) ++ drop end bytes
  pub within : end ≤ length bytes

-- how values are written and read
abbrev pub ValueReads : {X : Type 0} → (X → Type 0) → (X → List ℕ) → Reader X → Type 0
ValueReads {X} Fits text read = Reads {B = Option X} text (λ _ value. Fits value) (λ _. read)

first_place : {X : Type 0} (text : X → List ℕ) (place : ℕ) (items : List X) → get_or (places_from text place items) 0 0 ≡ place
first_place text place [] = refl
first_place text place (item ∷ items) = refl

pub column_once : {X : Type 0} (cmp : X → X → Ordering) (Fits : X → Type 0) (text : X → List ℕ) (read : Reader X) → ValueReads Fits text read → IsOnce (column_text text) (IsColumn cmp Fits)
column_once cmp Fits text read law = reads_once {B = Unit {0}} (column_text text) (λ _ column. IsColumn cmp Fits column) (λ _. column_at cmp read) (column_reads cmp Fits text read law) tt

-- a column that stands at a place is the one behind its places
pub column_stands : {X : Type 0} (cmp : X → X → Ordering) (Fits : X → Type 0) (text : X → List ℕ) (read : Reader X) → ValueReads Fits text read → (bytes : List ℕ) (at : ℕ) (column : ℕ × List (ℕ × List X)) (places : List ℕ) (end : ℕ) → Stands cmp Fits text bytes at column places end → column_in cmp read bytes places ≡ column
unfolding column_in
column_stands {X} cmp Fits text read law bytes at column places end stands =
    let first : slice_index places 0 ≡ at + 8 = ap (λ ps. get_or ps 0 0) stands.placed ∙ first_place (entry_text text) (at + 8) column.1 in
    let start : slice_index places 0 - 8 ≡ at = omega (arith, first) in
    ap (λ place. column_read (column_at cmp read (drop place bytes))) start
    ∙ ap (λ own. column_read (column_at cmp read own)) stands.there
    ∙ ap column_read ((column_reads cmp Fits text read law).again tt column (drop end bytes) stands.is)

-- the field stands in front
pub field_first : {X : Type 0} (text : X → List ℕ) (column : ℕ × List (ℕ × List X)) (bytes rest : List ℕ) → column.0 < 2 ^ 32 → bytes ≡ column_text text column ++ rest → (4 ≤ length bytes) × (first_u32 bytes ≡ column.0)
field_first {X} text column bytes rest fits there =
    let entries = counted_text u32_text (entry_text text) column.1 in
    let parts : bytes ≡ u32_text column.0 ++ (entries ++ rest) = there ∙ append_assoc (u32_text column.0) entries rest in
    let long : length bytes ≡ length (u32_text column.0) + length (entries ++ rest) = ap length parts ∙ length-append (u32_text column.0) (entries ++ rest) in
    (omega (arith, long, length-u32_text column.0), ap first_u32 parts ∙ first_u32-text column.0 (entries ++ rest) fits)

pub column_taken : {X : Type 0} (cmp : X → X → Ordering) (Fits : X → Type 0) (text : X → List ℕ) (read : Reader X) → ValueReads Fits text read → (bytes : List ℕ) (at : ℕ) (column : ℕ × List (ℕ × List X)) (places : List ℕ) (end field : ℕ) → Stands cmp Fits text bytes at column places end → field ≡ first_u32 (drop at bytes) → IsColumnAt cmp Fits text read bytes at (field, places) end
column_taken {X} cmp Fits text read law bytes at column places end field stands is =
    let same = column_stands cmp Fits text read law bytes at column places end stands in
    let own : field ≡ column.0 = is ∙ (field_first text column (drop at bytes) (drop end bytes) stands.is.field stands.there).1 in
    record {
      kept_is = record {
        field = own ∙ ap (λ (c : ℕ × List (ℕ × List X)). c.0) (sym same);
        is = subst (IsColumn cmp Fits) (sym same) stands.is;
        belong = subst (Belong cmp Fits text bytes places) (sym same) (record { at = at; end = end; stands = stands });
      };
      there = stands.there ∙ ap (λ (c : ℕ × List (ℕ × List X)). column_text text c ++ drop end bytes) (sym same);
      within = stands.within;
    }

-- ---- a loop over columns

pub record AreTaking {X : Type 0} (cmp : X → X → Ordering) (Fits : X → Type 0) (text : X → List ℕ) (read : Reader X) (bytes first : List ℕ) (kept : List (ℕ × List ℕ)) (place : ℕ) : Type 0 where
  pub each : All (IsKept cmp Fits text read bytes) kept
  pub taking : IsTaking (column_text text) (IsColumn cmp Fits) first (columns_in cmp read bytes kept) (drop place bytes)
  pub within : place ≤ length bytes

-- what stands behind a number stands behind its place
pub behind_number : (bytes : List ℕ) (at number : ℕ) (first : List ℕ) → at ≤ length bytes → drop at bytes ≡ u32_text number ++ first → (length first ≤ length bytes) × (drop (length bytes - length first) bytes ≡ first)
behind_number bytes at number first inside there =
    let long : length bytes - at ≡ length (u32_text number) + length first = sym (length-drop at bytes) ∙ ap length there ∙ length-append (u32_text number) first in
    let place : length bytes - length first ≡ at + 4 = omega (arith, long, inside, length-u32_text number) in
    (omega (arith, long), ap (λ n. drop n bytes) place ∙ sym (drop-drop 4 at bytes) ∙ ap (drop 4) there ∙ drop_at (u32_text number) first 4 (length-u32_text number))

pub columns_none : {X : Type 0} (cmp : X → X → Ordering) (Fits : X → Type 0) (text : X → List ℕ) (read : Reader X) (bytes : List ℕ) (at number : ℕ) (first : List ℕ) → at ≤ length bytes → drop at bytes ≡ u32_text number ++ first → AreTaking cmp Fits text read bytes first [] (length bytes - length first)
columns_none cmp Fits text read bytes at number first inside there =
    let behind = behind_number bytes at number first inside there in
    record {
      each = λ k d below. absurd (omega arith);
      taking = subst (IsTaking (column_text text) (IsColumn cmp Fits) first []) (sym behind.1) (taking_none (column_text text) (IsColumn cmp Fits) first);
      within = omega arith;
    }

pub columns_more : {X : Type 0} (cmp : X → X → Ordering) (Fits : X → Type 0) (text : X → List ℕ) (read : Reader X) (bytes first : List ℕ) (kept : List (ℕ × List ℕ)) (place : ℕ) (own : ℕ × List ℕ) (end : ℕ) → AreTaking cmp Fits text read bytes first kept place → IsColumnAt cmp Fits text read bytes place own end → AreTaking cmp Fits text read bytes first (kept ++ own ∷ []) end
columns_more {X} cmp Fits text read bytes first kept place own end was here =
    let column_of_kept : ℕ × List ℕ → ℕ × List (ℕ × List X) = λ k. column_in cmp read bytes k.1 in
    let pushed : columns_in cmp read bytes (kept ++ own ∷ []) ≡ columns_in cmp read bytes kept ++ column_in cmp read bytes own.1 ∷ [] = map-append column_of_kept kept (own ∷ []) in
    record {
      each = All-push (IsKept cmp Fits text read bytes) kept own was.each here.kept_is;
      taking = subst (λ (columns : List (ℕ × List (ℕ × List X))). IsTaking (column_text text) (IsColumn cmp Fits) first columns (drop end bytes)) (sym pushed)
          (taking_more (column_text text) (IsColumn cmp Fits) first (columns_in cmp read bytes kept) (drop place bytes) (column_in cmp read bytes own.1) (drop end bytes) was.taking here.kept_is.is here.there);
      within = here.within;
    }

-- the fields that are kept are those of the columns
pub fields_in : {X : Type 0} (cmp : X → X → Ordering) (Fits : X → Type 0) (text : X → List ℕ) (read : Reader X) (bytes : List ℕ) (kept : List (ℕ × List ℕ)) → All (IsKept cmp Fits text read bytes) kept → fields kept ≡ fields (columns_in cmp read bytes kept)
fields_in cmp Fits text read bytes [] each = refl
fields_in cmp Fits text read bytes (own ∷ kept) each =
    let first : own.0 ≡ (column_in cmp read bytes own.1).0 = (each 0 own (omega arith)).field in
    ap (λ (field : ℕ). field ∷ fields kept) first ∙ ap (λ (rest : List ℕ). (column_in cmp read bytes own.1).0 ∷ rest) (fields_in cmp Fits text read bytes kept (λ k d below. each (suc k) d (omega arith)))

pub columns_taken : {X : Type 0} (cmp : X → X → Ordering) (Fits : X → Type 0) (text : X → List ℕ) (read : Reader X) (bytes : List ℕ) (at count : ℕ) (first : List ℕ) (kept : List (ℕ × List ℕ)) (place : ℕ) → IsTaken u32_text (λ number. number < 2 ^ 32) (drop at bytes) count first → AreTaking cmp Fits text read bytes first kept place → length kept ≡ count → IsStrictlyIncreasing (fields kept) → AreColumnsAt cmp Fits text read bytes at kept place
columns_taken {X} cmp Fits text read bytes at count first kept place number was many ascending =
    let column_of_kept : ℕ × List ℕ → ℕ × List (ℕ × List X) = λ k. column_in cmp read bytes k.1 in
    let long : length (columns_in cmp read bytes kept) ≡ count = length-map kept column_of_kept ∙ many in
    let taken = counted_taken (column_text text) (IsColumn cmp Fits) (drop at bytes) count first (columns_in cmp read bytes kept) (drop place bytes) number was.taking long in
    record {
      each = was.each;
      are = record { fewer = taken.may.0; ascending = subst IsStrictlyIncreasing (fields_in cmp Fits text read bytes kept was.each) ascending; each = taken.may.1 };
      there = taken.parts;
      within = was.within;
    }

abbrev pub NoColumns : {X : Type 0} → (X → X → Ordering) → (X → Type 0) → (X → List ℕ) → List ℕ → Type 0
NoColumns cmp Fits text bytes = IsNowhere (counted_text u32_text (column_text text)) (AreByField (IsColumn cmp Fits)) bytes

-- a column fewer than their number
pub columns_end : {X : Type 0} (cmp : X → X → Ordering) (Fits : X → Type 0) (text : X → List ℕ) (read : Reader X) → ValueReads Fits text read → (bytes : List ℕ) (at count : ℕ) (first : List ℕ) (kept : List (ℕ × List ℕ)) (place : ℕ) → IsTaken u32_text (λ number. number < 2 ^ 32) (drop at bytes) count first → AreTaking cmp Fits text read bytes first kept place → length kept < count → IsNowhere (column_text text) (IsColumn cmp Fits) (drop place bytes) → NoColumns cmp Fits text (drop at bytes)
columns_end {X} cmp Fits text read law bytes at count first kept place number was less never columns rest are parts =
    let column_of_kept : ℕ × List ℕ → ℕ × List (ℕ × List X) = λ k. column_in cmp read bytes k.1 in
    counted_ends (column_text text) (IsColumn cmp Fits) (drop at bytes) count first (columns_in cmp read bytes kept) (drop place bytes) (column_once cmp Fits text read law) number was.taking (omega (arith, less, length-map kept column_of_kept)) never
    columns rest (are.fewer, are.each) parts

-- columns whose fields don't ascend
pub columns_fall : {X : Type 0} (cmp : X → X → Ordering) (Fits : X → Type 0) (text : X → List ℕ) (read : Reader X) → ValueReads Fits text read → (bytes : List ℕ) (at count : ℕ) (first : List ℕ) (kept : List (ℕ × List ℕ)) (place : ℕ) → IsTaken u32_text (λ number. number < 2 ^ 32) (drop at bytes) count first → AreTaking cmp Fits text read bytes first kept place → length kept ≡ count → (IsStrictlyIncreasing (fields kept) → ⊥) → NoColumns cmp Fits text (drop at bytes)
columns_fall {X} cmp Fits text read law bytes at count first kept place number was many never columns rest are parts =
    let column_of_kept : ℕ × List ℕ → ℕ × List (ℕ × List X) = λ k. column_in cmp read bytes k.1 in
    let taken = counted_taken (column_text text) (IsColumn cmp Fits) (drop at bytes) count first (columns_in cmp read bytes kept) (drop place bytes) number was.taking (length-map kept column_of_kept ∙ many) in
    let same = counted_once (column_text text) (IsColumn cmp Fits) (column_once cmp Fits text read law) (columns_in cmp read bytes kept) columns (drop place bytes) rest taken.may (are.fewer, are.each) (sym taken.parts ∙ parts) in
    never (subst IsStrictlyIncreasing (sym (fields_in cmp Fits text read bytes kept was.each ∙ ap fields same.0)) are.ascending)

-- no number
pub columns_no_number : {X : Type 0} (cmp : X → X → Ordering) (Fits : X → Type 0) (text : X → List ℕ) (bytes : List ℕ) → IsNowhere u32_text (λ number. number < 2 ^ 32) bytes → NoColumns cmp Fits text bytes
columns_no_number cmp Fits text bytes never columns rest are parts = never (length columns) (flat_map (column_text text) columns ++ rest) are.fewer (parts ∙ append_assoc (u32_text (length columns)) (flat_map (column_text text) columns) rest)

-- lists of columns stand at the front of bytes in one way at most
pub columns_once : {X : Type 0} (cmp : X → X → Ordering) (Fits : X → Type 0) (text : X → List ℕ) (read : Reader X) → ValueReads Fits text read → IsOnce (counted_text u32_text (column_text text)) (AreByField (IsColumn cmp Fits))
columns_once cmp Fits text read law = once_as (counted_text u32_text (column_text text)) (AreFew (IsColumn cmp Fits)) (AreByField (IsColumn cmp Fits)) (counted_once (column_text text) (IsColumn cmp Fits) (column_once cmp Fits text read law)) (λ columns are. (are.fewer, are.each))

-- the column of the field at a place
pub column_at_place : {X : Type 0} (cmp : X → X → Ordering) (read : Reader X) (bytes : List ℕ) (kept : List (ℕ × List ℕ)) (at : ℕ) (own : ℕ × List ℕ) (rows : List (ℕ × List X)) → own.0 ≡ (column_in cmp read bytes own.1).0 → at < length kept → own ≡ get_or kept at own → rows ≡ (column_in cmp read bytes own.1).1 → slice_get (columns_in cmp read bytes kept) at ≡ Some (own.0, rows)
column_at_place {X} cmp read bytes kept at own rows field inside is same =
    let column_of_kept : ℕ × List ℕ → ℕ × List (ℕ × List X) = λ k. column_in cmp read bytes k.1 in
    let column = column_in cmp read bytes own.1 in
    let there : at < length (columns_in cmp read bytes kept) = omega (arith, inside, length-map kept column_of_kept) in
    let read_there : get_or (columns_in cmp read bytes kept) at column ≡ column = get_or-map column_of_kept kept at own column inside ∙ ap column_of_kept (sym is) in
    slice_get-get_or (columns_in cmp read bytes kept) at column there
    ∙ ap Some (read_there ∙ ap (λ (f : ℕ). (f, column.1)) (sym field) ∙ ap (λ (rs : List (ℕ × List X)). (own.0, rs)) (sym same))

split : (b : Bool) → (b ≡ true) ⊎ (b ≡ false)
split true = inl refl
split false = inr refl

-- the places of a field are those of its column
pub found_kept : {X : Type 0} (cmp : X → X → Ordering) (Fits : X → Type 0) (text : X → List ℕ) (read : Reader X) (bytes : List ℕ) (kept : List (ℕ × List ℕ)) (field : ℕ) (places : List ℕ) → All (IsKept cmp Fits text read bytes) kept → Some places ≡ column_of field kept
    → Belong cmp Fits text bytes places (column_in cmp read bytes places) × (Some (column_in cmp read bytes places).1 ≡ column_of field (columns_in cmp read bytes kept))
found_kept cmp Fits text read bytes [] field places each found = absurd (let no : ⊥ = cc in no)
found_kept {X} cmp Fits text read bytes (own ∷ kept) field places each found =
    let here = each 0 own (omega arith) in
    let rest = found_kept cmp Fits text read bytes kept field places (λ k d below. each (suc k) d (omega arith)) in
    elim (split (own.0 == field)) [
      | inl holds ↦
          let same : places ≡ own.1 = same_Some places own.1 (rw holds at found) in
          let known : (column_in cmp read bytes own.1).0 == field ≡ true = ap (λ k. k == field) (sym here.field) ∙ holds in (
            subst (λ ps. Belong cmp Fits text bytes ps (column_in cmp read bytes ps)) (sym same) here.belong,
            rw known (ap (λ ps. Some (column_in cmp read bytes ps).1) same),
          )
      | inr fails ↦
          let known : (column_in cmp read bytes own.1).0 == field ≡ false = ap (λ k. k == field) (sym here.field) ∙ fails in
          let later = rest (rw fails at found) in
          (later.0, rw known later.1)
    ]

pub missing_kept : {X : Type 0} (cmp : X → X → Ordering) (Fits : X → Type 0) (text : X → List ℕ) (read : Reader X) (bytes : List ℕ) (kept : List (ℕ × List ℕ)) (field : ℕ) → All (IsKept cmp Fits text read bytes) kept → None ≡ column_of field kept → None ≡ column_of field (columns_in cmp read bytes kept)
missing_kept cmp Fits text read bytes [] field each none = refl
missing_kept {X} cmp Fits text read bytes (own ∷ kept) field each none =
    let here = each 0 own (omega arith) in
    let rest = missing_kept cmp Fits text read bytes kept field (λ k d below. each (suc k) d (omega arith)) in
    elim (split (own.0 == field)) [
      | inl holds ↦ let no = rw holds at none in absurd (let never : ⊥ = cc in never)
      | inr fails ↦
          let known : (column_in cmp read bytes own.1).0 == field ≡ false = ap (λ k. k == field) (sym here.field) ∙ fails in
          rw known (rest (rw fails at none))
    ]
