-- Sets of documents as the numbers of their documents.
use Rattle.std.proofs.Common.{◌≡◌, ◌⊎◌, inl, inr, ℕ, zero, suc, ◌+◌, ◌-◌, ◌<◌, ◌≤◌, ◌^◌, Bool, true, false, cond, List, [], ◌∷◌, Some, None, ◌++◌, length, get_or, set, take, drop, replicate, refl, sym, ap, ◌∙◌, append_assoc, arith}
use Rattle.std.specs.List.{count_by, position_from}
use Rattle.std.proofs.lemmas.Bool.{cases_lt}
use Rattle.std.proofs.lemmas.List.{take_more, take_all, get_or_default, get_or_past, get_or-set_other, length-set, get_or-replicate, length-replicate}
use Rattle.std.proofs.lemmas.List.Sums.{sum_by-cons}
use Rattle.block_bits.specs.Flags.{is_marked}
use Rattle.part_text.specs.Text.{u32_text, counted_text}
use Rattle.segment_parts.specs.Text.{marked_places, presence_text}
use Rattle.segment_parts.specs.Parts.{IsPresence}
use Rattle.segment_parts.specs.Once.{IsTaken, IsNowhere, IsOnce, AreFew, counted_once, once_u32}

-- one flag more
pub count-mark : (flag : Bool) (flags : List Bool) → count_by is_marked (flag ∷ flags) ≡ cond flag 1 0 + count_by is_marked flags
count-mark flag flags = sum_by-cons (λ one. cond one 1 0) flag flags

-- as many places as marks
pub length-marked_places : (start : ℕ) (flags : List Bool) → length (marked_places start flags) ≡ count_by is_marked flags
length-marked_places start [] = refl
length-marked_places start (true ∷ flags) = omega (arith, count-mark true flags, length-marked_places (start + 1) flags)
length-marked_places start (false ∷ flags) = omega (arith, count-mark false flags, length-marked_places (start + 1) flags)

-- each place lies within the list
pub marked_places-within : (start : ℕ) (flags : List Bool) (i : ℕ) → i < count_by is_marked flags → (start ≤ get_or (marked_places start flags) i 0) × (get_or (marked_places start flags) i 0 < start + length flags)
marked_places-within start [] i h = absurd (omega arith)
marked_places-within start (true ∷ flags) zero h = (omega arith, omega arith)
marked_places-within start (true ∷ flags) (suc i) h =
    let rest = marked_places-within (start + 1) flags i (omega (arith, h, count-mark true flags)) in
    (omega (arith, rest.0), omega (arith, rest.1))
marked_places-within start (false ∷ flags) i h =
    let rest = marked_places-within (start + 1) flags i (omega (arith, h, count-mark false flags)) in
    (omega (arith, rest.0), omega (arith, rest.1))

-- places ascend
pub marked_places-ascend : (start : ℕ) (flags : List Bool) (i : ℕ) → suc i < count_by is_marked flags → get_or (marked_places start flags) i 0 < get_or (marked_places start flags) (suc i) 0
marked_places-ascend start [] i h = absurd (omega arith)
marked_places-ascend start (true ∷ flags) zero h = omega (arith, (marked_places-within (start + 1) flags 0 (omega (arith, h, count-mark true flags))).0)
marked_places-ascend start (true ∷ flags) (suc i) h = marked_places-ascend (start + 1) flags i (omega (arith, h, count-mark true flags))
marked_places-ascend start (false ∷ flags) i h = marked_places-ascend (start + 1) flags i (omega (arith, h, count-mark false flags))

-- no more marks than flags
pub marks-few : (start : ℕ) (flags : List Bool) → length (marked_places start flags) ≤ length flags
marks-few start [] = omega arith
marks-few start (true ∷ flags) = omega (arith, marks-few (start + 1) flags)
marks-few start (false ∷ flags) = omega (arith, marks-few (start + 1) flags)

-- a list that goes on doesn't begin where others go on from the next place
never_later : (start : ℕ) (more : List ℕ) (flags : List Bool) → start ∷ more ≡ marked_places (start + 1) flags → ⊥
never_later start more flags same =
    let some : 0 < count_by is_marked flags = omega (arith, ap length same, length-marked_places (start + 1) flags) in
    let first : start ≡ get_or (marked_places (start + 1) flags) 0 0 = ap (λ (xs : List ℕ). get_or xs 0 0) same in
    omega (arith, first, (marked_places-within (start + 1) flags 0 some).0)

-- flags of one number with the same places are the same
pub marked_once : (start : ℕ) (flags others : List Bool) → length flags ≡ length others → marked_places start flags ≡ marked_places start others → flags ≡ others
marked_once start [] [] long same = refl
marked_once start [] (other ∷ others) long same = absurd (omega arith)
marked_once start (flag ∷ flags) [] long same = absurd (omega arith)
marked_once start (true ∷ flags) (true ∷ others) long same = ap (λ (rest : List Bool). true ∷ rest) (marked_once (start + 1) flags others (omega arith) (ap (drop 1) same))
marked_once start (false ∷ flags) (false ∷ others) long same = ap (λ (rest : List Bool). false ∷ rest) (marked_once (start + 1) flags others (omega arith) same)
marked_once start (true ∷ flags) (false ∷ others) long same = absurd (never_later start (marked_places (start + 1) flags) others same)
marked_once start (false ∷ flags) (true ∷ others) long same = absurd (never_later start (marked_places (start + 1) others) flags (sym same))

abbrev pub AreNumbers : List ℕ → Type 0
AreNumbers = AreFew (λ number. number < 2 ^ 32)

pub marks_fit : (documents : ℕ) (flags : List Bool) → documents < 2 ^ 32 → length flags ≡ documents → AreNumbers (marked_places 0 flags)
marks_fit documents flags numbered long = (
  omega (arith, marks-few 0 flags, numbered, long),
  λ k d below.
      let inside = (marked_places-within 0 flags k (omega (arith, below, length-marked_places 0 flags))).1 in
      let same : get_or (marked_places 0 flags) k d ≡ get_or (marked_places 0 flags) k 0 = get_or_default (marked_places 0 flags) k d 0 below in
      omega (arith, inside, same, numbered, long),
)

pub once_numbers : IsOnce (counted_text u32_text u32_text) AreNumbers
once_numbers = counted_once u32_text (λ number. number < 2 ^ 32) once_u32

abbrev marks_text : List Bool → List ℕ
marks_text flags = counted_text u32_text u32_text (marked_places 0 flags)

pub presence_once : (documents : ℕ) → documents < 2 ^ 32 → IsOnce presence_text (IsPresence documents)
presence_once documents numbered one other rest more may is same =
    let first = once_u32 one.0 other.0 (marks_text one.1 ++ rest) (marks_text other.1 ++ more) may.field is.field (sym (append_assoc (u32_text one.0) (marks_text one.1) rest) ∙ same ∙ append_assoc (u32_text other.0) (marks_text other.1) more) in
    let second = once_numbers (marked_places 0 one.1) (marked_places 0 other.1) rest more (marks_fit documents one.1 numbered may.long) (marks_fit documents other.1 numbered is.long) first.1 in
    let flags : one.1 ≡ other.1 = marked_once 0 one.1 other.1 (may.long ∙ sym is.long) second.0 in
    (ap (λ (n : ℕ). (n, one.1)) first.0 ∙ ap (λ (f : List Bool). (other.0, f)) flags, second.1)

-- ---- a set that is made of numbers one after the other

no_marks : (start : ℕ) (flags : List Bool) → ((k : ℕ) → get_or flags k false ≡ false) → marked_places start flags ≡ []
no_marks start [] none = refl
no_marks start (true ∷ flags) none = absurd (let no : true ≡ false = none 0 in cc)
no_marks start (false ∷ flags) none = no_marks (start + 1) flags (λ k. none (suc k))

pub marked_places-set : (start : ℕ) (flags : List Bool) (at place : ℕ) → place ≡ start + at → at < length flags → ((k : ℕ) → at ≤ k → get_or flags k false ≡ false) → marked_places start (set flags at true) ≡ marked_places start flags ++ place ∷ []
marked_places-set start [] at place is inside none = absurd (omega arith)
marked_places-set start (true ∷ flags) zero place is inside none = absurd (let no : true ≡ false = none 0 (omega arith) in cc)
marked_places-set start (false ∷ flags) zero place is inside none =
    let rest : marked_places (start + 1) flags ≡ [] = no_marks (start + 1) flags (λ k. none (suc k) (omega arith)) in
    let here : place ≡ start = omega (arith, is) in
    rw (rest, here) refl
marked_places-set start (true ∷ flags) (suc at) place is inside none =
    ap (λ (rest : List ℕ). start ∷ rest) (marked_places-set (start + 1) flags at place (omega (arith, is)) (omega arith) (λ k after. none (suc k) (omega arith)))
marked_places-set start (false ∷ flags) (suc at) place is inside none =
    marked_places-set (start + 1) flags at place (omega (arith, is)) (omega arith) (λ k after. none (suc k) (omega arith))

unmarked : (start n : ℕ) → marked_places start (replicate n false) ≡ []
unmarked start zero = refl
unmarked start (suc n) = unmarked (start + 1) n

-- the set of the first numbers; the next may be `next` or a later one
pub record IsMarking (documents : ℕ) (flags : List Bool) (numbers : List ℕ) (at next : ℕ) : Type 0 where
  pub long : length flags ≡ documents
  pub marked : marked_places 0 flags ≡ take at numbers
  pub none : (k : ℕ) → next ≤ k → get_or flags k false ≡ false
  pub first : at ≡ 0 → next ≡ 0
  pub later : 0 < at → next ≡ get_or numbers (at - 1) 0 + 1

pub marking_none : (documents : ℕ) (numbers : List ℕ) → IsMarking documents (replicate documents false) numbers 0 0
marking_none documents numbers = record {
  long = length-replicate documents false;
  marked = unmarked 0 documents;
  none = λ k _. elim (cases_lt k documents) [
    | inl inside ↦ get_or-replicate documents k false false inside
    | inr past ↦ get_or_past (replicate documents false) k false (omega (arith, past, length-replicate documents false))
  ];
  first = λ _. refl;
  later = λ some. absurd (omega arith);
}

pub marking_more : (documents : ℕ) (flags : List Bool) (numbers : List ℕ) (at next number : ℕ) → IsMarking documents flags numbers at next → at < length numbers → number ≡ get_or numbers at 0 → next ≤ number → number < documents → IsMarking documents (set flags number true) numbers (at + 1) (number + 1)
marking_more documents flags numbers at next number was inside is from below =
    let here : number ≡ get_or numbers at 0 = is in
    record {
      long = length-set flags number true ∙ was.long;
      marked = marked_places-set 0 flags number number (omega arith) (omega (arith, was.long, below)) (λ k after. was.none k (omega arith)) ∙ ap (λ front. front ++ number ∷ []) was.marked ∙ ap (λ n. take at numbers ++ n ∷ []) here ∙ sym (take_more numbers at 0 inside);
      none = λ k after. get_or-set_other flags number k true false (λ same. omega arith) ∙ was.none k (omega arith);
      first = λ no. absurd (omega arith);
      later = λ _. let back : at + 1 - 1 ≡ at = omega arith in rw back (ap (λ n. n + 1) here);
    }

-- a number that doesn't follow, or a document that isn't there
pub marking_fails : (documents : ℕ) (flags : List Bool) (numbers : List ℕ) (at next number : ℕ) → IsMarking documents flags numbers at next → at < length numbers → number ≡ get_or numbers at 0 → (number < next) ⊎ (documents ≤ number) → (others : List Bool) → length others ≡ documents → marked_places 0 others ≡ numbers → ⊥
marking_fails documents flags numbers at next number was inside is fails others long same =
    let here : number ≡ get_or (marked_places 0 others) at 0 = is ∙ ap (λ xs. get_or xs at 0) (sym same) in
    let count : at < count_by is_marked others = omega (arith, inside, ap length same, length-marked_places 0 others) in
    elim fails [
      | inl early ↦ elim (cases_lt 0 at) [
        | inl some ↦
            let rises = marked_places-ascend 0 others (at - 1) (omega (arith, count, some)) in
            let on : suc (at - 1) ≡ at = omega (arith, some) in
            let next_is : get_or (marked_places 0 others) (suc (at - 1)) 0 ≡ number = ap (λ k. get_or (marked_places 0 others) k 0) on ∙ sym here in
            let before : next ≡ get_or (marked_places 0 others) (at - 1) 0 + 1 = was.later some ∙ ap (λ xs. get_or xs (at - 1) 0 + 1) (sym same) in
            omega (arith, rises, next_is, before, early)
        | inr begin ↦ omega (arith, early, was.first (omega arith))
      ]
      | inr past ↦ omega (arith, past, here, (marked_places-within 0 others at count).1, long)
    ]

pub marking_all : (documents : ℕ) (flags : List Bool) (numbers : List ℕ) (at next : ℕ) → IsMarking documents flags numbers at next → length numbers ≤ at → (length flags ≡ documents) × (marked_places 0 flags ≡ numbers)
marking_all documents flags numbers at next was past = (was.long, was.marked ∙ take_all at numbers past)

-- ---- a field with its set

pub presence_taken : (documents : ℕ) (bytes : List ℕ) (field : ℕ) (behind numbers rest : List ℕ) (flags : List Bool) → IsTaken u32_text (λ number. number < 2 ^ 32) bytes field behind → IsTaken (counted_text u32_text u32_text) AreNumbers behind numbers rest → (length flags ≡ documents) × (marked_places 0 flags ≡ numbers) → IsTaken presence_text (IsPresence documents) bytes (field, flags) rest
presence_taken documents bytes field behind numbers rest flags first second marks = record {
  may = record { field = first.may; long = marks.0 };
  parts = first.parts ∙ ap (λ more. u32_text field ++ more) (second.parts ∙ ap (λ ns. counted_text u32_text u32_text ns ++ rest) (sym marks.1)) ∙ sym (append_assoc (u32_text field) (counted_text u32_text u32_text (marked_places 0 flags)) rest);
}

pub presence_no_field : (documents : ℕ) (bytes : List ℕ) → IsNowhere u32_text (λ number. number < 2 ^ 32) bytes → IsNowhere presence_text (IsPresence documents) bytes
presence_no_field documents bytes never column rest is parts = never column.0 (counted_text u32_text u32_text (marked_places 0 column.1) ++ rest) is.field (parts ∙ append_assoc (u32_text column.0) (counted_text u32_text u32_text (marked_places 0 column.1)) rest)

pub presence_no_numbers : (documents : ℕ) (bytes : List ℕ) (field : ℕ) (behind : List ℕ) → documents < 2 ^ 32 → IsTaken u32_text (λ number. number < 2 ^ 32) bytes field behind → IsNowhere (counted_text u32_text u32_text) AreNumbers behind → IsNowhere presence_text (IsPresence documents) bytes
presence_no_numbers documents bytes field behind numbered first never column rest is parts =
    let same = once_u32 field column.0 behind (counted_text u32_text u32_text (marked_places 0 column.1) ++ rest) first.may is.field (sym first.parts ∙ parts ∙ append_assoc (u32_text column.0) (counted_text u32_text u32_text (marked_places 0 column.1)) rest) in
    never (marked_places 0 column.1) rest (marks_fit documents column.1 numbered is.long) same.1

pub presence_no_set : (documents : ℕ) (bytes : List ℕ) (field : ℕ) (behind numbers more : List ℕ) → documents < 2 ^ 32 → IsTaken u32_text (λ number. number < 2 ^ 32) bytes field behind → IsTaken (counted_text u32_text u32_text) AreNumbers behind numbers more → ((flags : List Bool) → length flags ≡ documents → marked_places 0 flags ≡ numbers → ⊥) → IsNowhere presence_text (IsPresence documents) bytes
presence_no_set documents bytes field behind numbers more numbered first second never column rest is parts =
    let same = once_u32 field column.0 behind (counted_text u32_text u32_text (marked_places 0 column.1) ++ rest) first.may is.field (sym first.parts ∙ parts ∙ append_assoc (u32_text column.0) (counted_text u32_text u32_text (marked_places 0 column.1)) rest) in
    let list = once_numbers numbers (marked_places 0 column.1) more rest second.may (marks_fit documents column.1 numbered is.long) (sym second.parts ∙ same.1) in
    never column.1 is.long (sym list.0)

-- ---- the first mark of the flags from place `start` on

-- the next mark: the places are that one and those after it
pub marked_places-next : (start : ℕ) (flags : List Bool) (place : ℕ) → position_from is_marked start flags ≡ Some place
    → (start ≤ place) × (marked_places start flags ≡ place ∷ marked_places (place + 1) (drop (place + 1 - start) flags))
marked_places-next start [] place e = absurd (let no : ⊥ = cc in no)
marked_places-next start (true ∷ flags) place e =
    let here : start ≡ place = cc in
    let one : place + 1 - start ≡ suc zero = omega (arith, here) in
    (omega (arith, here), rw (one, here) refl)
marked_places-next start (false ∷ flags) place e =
    let rest = marked_places-next (start + 1) flags place e in
    let less : place + 1 - start ≡ suc (place + 1 - (start + 1)) = omega (arith, rest.0) in
    (omega (arith, rest.0), rw less rest.1)

-- no next mark: there are no places
pub marked_places-none : (start : ℕ) (flags : List Bool) → position_from is_marked start flags ≡ None → marked_places start flags ≡ []
marked_places-none start [] e = refl
marked_places-none start (true ∷ flags) e = absurd (let no : ⊥ = cc in no)
marked_places-none start (false ∷ flags) e = marked_places-none (start + 1) flags e
