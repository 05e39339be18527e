-- The record of a commit: the next sequence number, the bodies of the mapping, and a row for each segment. It has two forms: REC1,
-- from before mappings grew, and REC2, the one that is written.
use Rattle.std.specs.Prelude.{◌≡◌, ℕ, ◌+◌, ◌*◌, ◌<◌, ◌≤◌, ◌^◌, Bool, true, false, cond, List, [], ◌∷◌, ◌++◌, length, sum_by}
use Rattle.std.specs.List.{All, flat_map}
use Rattle.std.specs.List.Sorted.{IsStrictlyIncreasing}
use Rattle.part_text.specs.Text.{u32_text, u64_text, string_text, counted_text}
use Rattle.store_text.specs.declared.record.TheConstants.{MOST_BODIES}
use Rattle.store_text.specs.declared.record.Row.{Row}
use Rattle.store_text.specs.declared.record.RecordText.{RecordText}

-- ---- the bytes

-- the ASCII text REC1
abbrev pub old_mark : List ℕ
old_mark = 82 ∷ 69 ∷ 67 ∷ 49 ∷ []

-- the ASCII text REC2
abbrev pub mark : List ℕ
mark = 82 ∷ 69 ∷ 67 ∷ 50 ∷ []

-- 00 for false, 01 for true
abbrev pub bool_text : Bool → List ℕ
bool_text false = 0 ∷ []
bool_text true = 1 ∷ []

-- a row: where the segment stands, how long it is, and its dead roots
abbrev pub row_text : Row → List ℕ
row_text row = u64_text row.at ++ (u64_text row.len ++ counted_text u32_text u32_text row.dead)

abbrev pub rows_text : List Row → List ℕ
rows_text rows = counted_text u32_text row_text rows

abbrev pub bodies_text : List (List ℕ) → List ℕ
bodies_text bodies = counted_text u32_text string_text bodies

-- REC1: the number of bodies isn't written, since there is one
abbrev pub old_record_text : RecordText → List ℕ
old_record_text r = old_mark ++ (u64_text r.next ++ (flat_map string_text r.bodies ++ rows_text r.rows))

-- REC2
abbrev pub new_record_text : RecordText → List ℕ
new_record_text r = mark ++ (u64_text r.next ++ (bool_text r.dynamic ++ (bodies_text r.bodies ++ rows_text r.rows)))

unfoldable pub record_text : RecordText → List ℕ
record_text r = cond r.old (old_record_text r) (new_record_text r)

-- ---- its length

-- how many bytes a record has besides its bodies and its rows
abbrev pub fixed_size : Bool → ℕ
fixed_size true = 16
fixed_size false = 21

abbrev pub body_size : List ℕ → ℕ
body_size body = 4 + length body

abbrev pub row_size : Row → ℕ
row_size row = 20 + 4 * length row.dead

unfoldable pub record_size : RecordText → ℕ
record_size r = fixed_size r.old + sum_by body_size r.bodies + sum_by row_size r.rows

-- ---- what a record is

-- a row: numbers that fit their bytes, and dead roots' indexes that ascend strictly
pub record IsRow (row : Row) : Type 0 where
  pub at : row.at < 2 ^ 64
  pub len : row.len < 2 ^ 64
  pub few : length row.dead < 2 ^ 32
  pub indexes : All (λ (index : ℕ). index < 2 ^ 32) row.dead
  pub ascending : IsStrictlyIncreasing row.dead

-- one body at least, each with a length that fits its bytes
pub record AreBodyTexts (bodies : List (List ℕ)) : Type 0 where
  pub some : 1 ≤ length bodies
  pub few : length bodies ≤ MOST_BODIES
  pub short : All (λ (body : List ℕ). length body < 2 ^ 32) bodies

-- before mappings grew, a mapping had one body, and no source added to it
pub record IsOldForm (r : RecordText) : Type 0 where
  pub one : length r.bodies ≡ 1
  pub fixed : r.dynamic ≡ false

-- A record of either form. What its bodies say, and which extents its rows may name, belongs to opening.
pub record IsRecord (r : RecordText) : Type 0 where
  pub next : r.next < 2 ^ 64
  pub bodies : AreBodyTexts r.bodies
  pub few : length r.rows < 2 ^ 32
  pub rows : All IsRow r.rows
  pub old : r.old ≡ true → IsOldForm r
