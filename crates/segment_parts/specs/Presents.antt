-- The list of text fields, read from left to right.
use Rattle.std.proofs.Common.{ℕ, ◌<◌, ◌≤◌, ◌^◌, Bool, List, sym, subst, ◌∙◌}
use Rattle.std.specs.List.Sorted.{IsStrictlyIncreasing}
use Rattle.part_text.specs.Text.{u32_text, counted_text}
use Rattle.segment_parts.specs.Text.{presence_text, present_text}
use Rattle.segment_parts.specs.Fields.{fields, AreByField}
use Rattle.segment_parts.specs.Parts.{IsPresence}
use Rattle.segment_parts.specs.Marks.{presence_once}
use Rattle.segment_parts.specs.Once.{IsTaken, IsNowhere, AreFew, IsReading, counted_nowhere, counted_once, reading_fails, reading_ends}

abbrev NoPresent : ℕ → List ℕ → Type 0
NoPresent documents bytes = IsNowhere present_text (AreByField (IsPresence documents)) bytes

from_counted : (documents : ℕ) (bytes : List ℕ) → IsNowhere (counted_text u32_text presence_text) (AreFew (IsPresence documents)) bytes → NoPresent documents bytes
unfolding present_text
from_counted documents bytes never columns rest are parts = never columns rest (are.fewer, are.each) parts

pub present_no_number : (documents : ℕ) (bytes : List ℕ) → IsNowhere u32_text (λ number. number < 2 ^ 32) bytes → NoPresent documents bytes
present_no_number documents bytes never = from_counted documents bytes (counted_nowhere presence_text (IsPresence documents) bytes never)

pub present_fails : (documents : ℕ) (bytes : List ℕ) (count : ℕ) (first : List ℕ) (columns : List (ℕ × List Bool)) (rest : List ℕ) (at : ℕ) → documents < 2 ^ 32 → IsTaken u32_text (λ number. number < 2 ^ 32) bytes count first → IsReading presence_text (IsPresence documents) first columns rest at → at < count → IsNowhere presence_text (IsPresence documents) rest → NoPresent documents bytes
present_fails documents bytes count first columns rest at numbered number was less never =
    from_counted documents bytes (reading_fails presence_text (IsPresence documents) bytes count first columns rest at (presence_once documents numbered) number was less never)

-- all were read
pub present_taken : (documents : ℕ) (bytes : List ℕ) (count : ℕ) (first : List ℕ) (columns : List (ℕ × List Bool)) (rest : List ℕ) (at : ℕ) → IsTaken u32_text (λ number. number < 2 ^ 32) bytes count first → IsReading presence_text (IsPresence documents) first columns rest at → at ≤ count → count ≤ at → IsStrictlyIncreasing (fields columns) → IsTaken present_text (AreByField (IsPresence documents)) bytes columns rest
unfolding present_text
present_taken documents bytes count first columns rest at number was within past ascending =
    let taken = reading_ends presence_text (IsPresence documents) bytes count first columns rest at number was within past in
    record { may = record { fewer = taken.may.0; ascending = ascending; each = taken.may.1 }; parts = taken.parts }

-- fields that don't ascend
pub present_falls : (documents : ℕ) (bytes : List ℕ) (count : ℕ) (first : List ℕ) (columns : List (ℕ × List Bool)) (rest : List ℕ) (at : ℕ) → documents < 2 ^ 32 → IsTaken u32_text (λ number. number < 2 ^ 32) bytes count first → IsReading presence_text (IsPresence documents) first columns rest at → at ≤ count → count ≤ at → (IsStrictlyIncreasing (fields columns) → ⊥) → NoPresent documents bytes
unfolding present_text
present_falls documents bytes count first columns rest at numbered number was within past never others more are parts =
    let taken = reading_ends presence_text (IsPresence documents) bytes count first columns rest at number was within past in
    let same = counted_once presence_text (IsPresence documents) (presence_once documents numbered) columns others rest more taken.may (are.fewer, are.each) (sym taken.parts ∙ parts) in
    never (subst (λ (cs : List (ℕ × List Bool)). IsStrictlyIncreasing (fields cs)) (sym same.0) are.ascending)
