-- The fields of a segment, read in place up to the end of its bytes.
use Rattle.std.proofs.Common.{◌≡◌, ℕ, ℤ, ◌<◌, ◌^◌, Bool, List, [], ◌++◌, drop, All, w64, FitsSigned, nat_cmp, int_cmp, sym, ap, ◌∙◌}
use Rattle.std.proofs.lemmas.List.{append-nil}
use Rattle.part_text.specs.Text.{u32_text, u64_text, i64_text, counted_text}
use Rattle.part_text.specs.Reading.{u64_at, i64_at}
use Rattle.part_text.specs.Reads.{u64_reads, i64_reads}
use Rattle.doc_values.specs.Values.{IsOrdinal}
use Rattle.segment_parts.specs.Text.{ordinals_text, numbers_text, presence_text, present_text}
use Rattle.segment_parts.specs.Fields.{AreByField}
use Rattle.segment_parts.specs.Parts.{IsPresence, IsOrdinalColumn, IsNumberColumn}
use Rattle.segment_parts.specs.Once.{IsTaken, IsNowhere, IsOnce, AreFew, counted_once, once_as}
use Rattle.segment_parts.specs.Marks.{presence_once}
use Rattle.segment_parts.specs.Kept.{columns_in, IsKept, AreColumnsAt, NoColumns, columns_once}

abbrev pub AreOrdinalsAt : List ℕ → ℕ → List (ℕ × List ℕ) → ℕ → Type 0
AreOrdinalsAt = AreColumnsAt nat_cmp IsOrdinal u64_text u64_at

abbrev pub AreNumbersAt : List ℕ → ℕ → List (ℕ × List ℕ) → ℕ → Type 0
AreNumbersAt = AreColumnsAt int_cmp (FitsSigned w64) i64_text i64_at

pub once_ordinals : IsOnce ordinals_text (AreByField IsOrdinalColumn)
unfolding ordinals_text
once_ordinals = columns_once nat_cmp IsOrdinal u64_text u64_at u64_reads

pub once_numbers : IsOnce numbers_text (AreByField IsNumberColumn)
unfolding numbers_text
once_numbers = columns_once int_cmp (FitsSigned w64) i64_text i64_at i64_reads

pub once_present : (documents : ℕ) → documents < 2 ^ 32 → IsOnce present_text (AreByField (IsPresence documents))
unfolding present_text
once_present documents numbered = once_as (counted_text u32_text presence_text) (AreFew (IsPresence documents)) (AreByField (IsPresence documents)) (counted_once presence_text (IsPresence documents) (presence_once documents numbered)) (λ columns are. (are.fewer, are.each))

-- the three lists
abbrev pub fields_text : List (ℕ × List (ℕ × List ℕ)) → List (ℕ × List (ℕ × List ℤ)) → List (ℕ × List Bool) → List ℕ
fields_text ordinals numbers present = ordinals_text ordinals ++ (numbers_text numbers ++ present_text present)

pub record AreFields (documents : ℕ) (ordinals : List (ℕ × List (ℕ × List ℕ))) (numbers : List (ℕ × List (ℕ × List ℤ))) (present : List (ℕ × List Bool)) : Type 0 where
  pub ordinals_are : AreByField IsOrdinalColumn ordinals
  pub numbers_are : AreByField IsNumberColumn numbers
  pub present_are : AreByField (IsPresence documents) present

-- they stand from the place `at` up to the end
pub record AreFieldsAt (bytes : List ℕ) (at documents : ℕ) (ordinals numbers : List (ℕ × List ℕ)) (present : List (ℕ × List Bool)) : Type 0 where
  pub are : AreFields documents (columns_in nat_cmp u64_at bytes ordinals) (columns_in int_cmp i64_at bytes numbers) present
  pub ordinals_kept : All (IsKept nat_cmp IsOrdinal u64_text u64_at bytes) ordinals
  pub numbers_kept : All (IsKept int_cmp (FitsSigned w64) i64_text i64_at bytes) numbers
  pub there : drop at bytes ≡ fields_text (columns_in nat_cmp u64_at bytes ordinals) (columns_in int_cmp i64_at bytes numbers) present

abbrev pub NoFields : ℕ → List ℕ → Type 0
NoFields documents bytes = (ordinals : List (ℕ × List (ℕ × List ℕ))) (numbers : List (ℕ × List (ℕ × List ℤ))) (present : List (ℕ × List Bool)) → AreFields documents ordinals numbers present → bytes ≡ fields_text ordinals numbers present → ⊥

pub fields_taken : (bytes : List ℕ) (at middle behind documents : ℕ) (ordinals numbers : List (ℕ × List ℕ)) (present : List (ℕ × List Bool)) (rest : List ℕ) → AreOrdinalsAt bytes at ordinals middle → AreNumbersAt bytes middle numbers behind → IsTaken present_text (AreByField (IsPresence documents)) (drop behind bytes) present rest → rest ≡ [] → AreFieldsAt bytes at documents ordinals numbers present
unfolding ordinals_text numbers_text
fields_taken bytes at middle behind documents ordinals numbers present rest first second third end = record {
  are = record { ordinals_are = first.are; numbers_are = second.are; present_are = third.may };
  ordinals_kept = first.each;
  numbers_kept = second.each;
  there = first.there ∙ ap (λ more. ordinals_text (columns_in nat_cmp u64_at bytes ordinals) ++ more)
      (second.there ∙ ap (λ more. numbers_text (columns_in int_cmp i64_at bytes numbers) ++ more) (third.parts ∙ ap (λ last. present_text present ++ last) end ∙ append-nil (present_text present)));
}

pub no_ordinals : (bytes : List ℕ) (documents : ℕ) → NoColumns nat_cmp IsOrdinal u64_text bytes → NoFields documents bytes
unfolding ordinals_text
no_ordinals bytes documents never ordinals numbers present are parts = never ordinals (numbers_text numbers ++ present_text present) are.ordinals_are parts

-- behind the ordinals
behind_ordinals : (bytes : List ℕ) (at middle : ℕ) (kept : List (ℕ × List ℕ)) (ordinals : List (ℕ × List (ℕ × List ℕ))) (rest : List ℕ) → AreOrdinalsAt bytes at kept middle → AreByField IsOrdinalColumn ordinals → drop at bytes ≡ ordinals_text ordinals ++ rest → drop middle bytes ≡ rest
unfolding ordinals_text
behind_ordinals bytes at middle kept ordinals rest first are parts = (once_ordinals (columns_in nat_cmp u64_at bytes kept) ordinals (drop middle bytes) rest first.are are (sym first.there ∙ parts)).1

behind_numbers : (bytes : List ℕ) (at middle : ℕ) (kept : List (ℕ × List ℕ)) (numbers : List (ℕ × List (ℕ × List ℤ))) (rest : List ℕ) → AreNumbersAt bytes at kept middle → AreByField IsNumberColumn numbers → drop at bytes ≡ numbers_text numbers ++ rest → drop middle bytes ≡ rest
unfolding numbers_text
behind_numbers bytes at middle kept numbers rest first are parts = (once_numbers (columns_in int_cmp i64_at bytes kept) numbers (drop middle bytes) rest first.are are (sym first.there ∙ parts)).1

pub no_numbers : (bytes : List ℕ) (at middle documents : ℕ) (kept : List (ℕ × List ℕ)) → AreOrdinalsAt bytes at kept middle → NoColumns int_cmp (FitsSigned w64) i64_text (drop middle bytes) → NoFields documents (drop at bytes)
unfolding numbers_text
no_numbers bytes at middle documents kept first never ordinals numbers present are parts =
    never numbers (present_text present) are.numbers_are (behind_ordinals bytes at middle kept ordinals (numbers_text numbers ++ present_text present) first are.ordinals_are parts)

behind_both : (bytes : List ℕ) (at middle behind : ℕ) (kept numbers_kept : List (ℕ × List ℕ)) (documents : ℕ) (ordinals : List (ℕ × List (ℕ × List ℕ))) (numbers : List (ℕ × List (ℕ × List ℤ))) (present : List (ℕ × List Bool)) → AreOrdinalsAt bytes at kept middle → AreNumbersAt bytes middle numbers_kept behind → AreFields documents ordinals numbers present → drop at bytes ≡ fields_text ordinals numbers present → drop behind bytes ≡ present_text present
behind_both bytes at middle behind kept numbers_kept documents ordinals numbers present first second are parts =
    behind_numbers bytes middle behind numbers_kept numbers (present_text present) second are.numbers_are (behind_ordinals bytes at middle kept ordinals (numbers_text numbers ++ present_text present) first are.ordinals_are parts)

pub no_present : (bytes : List ℕ) (at middle behind documents : ℕ) (kept numbers_kept : List (ℕ × List ℕ)) → AreOrdinalsAt bytes at kept middle → AreNumbersAt bytes middle numbers_kept behind → IsNowhere present_text (AreByField (IsPresence documents)) (drop behind bytes) → NoFields documents (drop at bytes)
no_present bytes at middle behind documents kept numbers_kept first second never ordinals numbers present are parts =
    never present [] are.present_are (behind_both bytes at middle behind kept numbers_kept documents ordinals numbers present first second are parts ∙ sym (append-nil (present_text present)))

-- bytes are left over
pub more_left : (bytes : List ℕ) (at middle behind documents : ℕ) (kept numbers_kept : List (ℕ × List ℕ)) (own : List (ℕ × List Bool)) (rest : List ℕ) → documents < 2 ^ 32 → AreOrdinalsAt bytes at kept middle → AreNumbersAt bytes middle numbers_kept behind → IsTaken present_text (AreByField (IsPresence documents)) (drop behind bytes) own rest → (rest ≡ [] → ⊥) → NoFields documents (drop at bytes)
more_left bytes at middle behind documents kept numbers_kept own rest numbered first second third some ordinals numbers present are parts =
    some (once_present documents numbered own present rest [] third.may are.present_are (sym third.parts ∙ behind_both bytes at middle behind kept numbers_kept documents ordinals numbers present first second are parts ∙ sym (append-nil (present_text present)))).1
