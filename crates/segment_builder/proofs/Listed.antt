-- Things written one after the other.
use Rattle.std.proofs.Common.{◌≡◌, ℕ, ◌+◌, ◌-◌, ◌≤◌, Bool, List, [], ◌∷◌, ◌++◌, length, take, drop, Some, None, append_assoc, length-append, refl, sym, ap, ◌∙◌, arith}
use Rattle.std.specs.List.{flat_map, count_by}
use Rattle.std.proofs.Math.Seq.{drop-append_seam, take-append_seam}
use Rattle.std.proofs.lemmas.List.{append-nil, drop-drop}
use Rattle.block_bits.specs.Flags.{is_marked}
use Rattle.block_bits.specs.Places.{next_place}
use Rattle.part_text.specs.Text.{counted_text, u32_text, u64_text}
use Rattle.segment_parts.specs.Text.{marked_places, presence_text}
use Rattle.segment_parts.specs.Marks.{length-marked_places}
use Rattle.segment_parts.specs.Marks.{marked_places-next, marked_places-none}

-- one more of a list
pub put_one : {X : Type 0} (text : X → List ℕ) (old new whole : List ℕ) (x : X) (left rest : List X) → left ≡ x ∷ rest → new ≡ old ++ text x → old ++ flat_map text left ≡ whole → new ++ flat_map text rest ≡ whole
put_one text old new whole x left rest is more goes =
    ap (λ front. front ++ flat_map text rest) more ∙ append_assoc old (text x) (flat_map text rest) ∙ ap (λ xs. old ++ flat_map text xs) (sym is) ∙ goes

-- a list behind its number
pub put_counted : {X : Type 0} (text : X → List ℕ) (number : ℕ) (items : List X) (old one new : List ℕ) → one ≡ old ++ u32_text number → new ≡ one ++ flat_map text items → number ≡ length items → new ≡ old ++ counted_text u32_text text items
put_counted text number items old one new first more long =
    more ∙ ap (λ front. front ++ flat_map text items) (first ∙ ap (λ n. old ++ u32_text n) long) ∙ append_assoc old (u32_text (length items)) (flat_map text items)

-- ---- a list behind its number, which is written over a 0 once the list stands there

text_long : (number : ℕ) → length (u64_text number) ≡ 8
unfolding u64_text
text_long number = refl

-- the 0 takes eight bytes
pub zero_stands : (old one two rows : List ℕ) → one ≡ old ++ u64_text 0 → two ≡ one ++ rows → (length one ≡ length old + 8) × (length old + 8 ≤ length two)
zero_stands old one two rows first more =
    let long : length one ≡ length old + 8 = omega (arith, ap length first, length-append old (u64_text 0), text_long 0) in
    (long, omega (arith, long, ap length more, length-append one rows))

pub put_numbered : (number : ℕ) (old one two three rows : List ℕ) → one ≡ old ++ u64_text 0 → two ≡ one ++ rows → three ≡ take (length old) two ++ (u64_text number ++ drop (length old + 8) two) → three ≡ old ++ (u64_text number ++ rows)
put_numbered number old one two three rows first more over =
    let front : take (length old) two ≡ old = ap (take (length old)) (more ∙ ap (λ xs. xs ++ rows) first ∙ append_assoc old (u64_text 0) rows) ∙ take-append_seam old (u64_text 0 ++ rows) in
    let rest : drop (length old + 8) two ≡ rows = ap (λ n. drop n two) (sym (zero_stands old one two rows first more).0) ∙ ap (drop (length one)) more ∙ drop-append_seam one rows in
    over ∙ ap (λ xs. xs ++ (u64_text number ++ drop (length old + 8) two)) front ∙ ap (λ xs. old ++ (u64_text number ++ xs)) rest

-- ---- the documents of a set

abbrev left : ℕ → List Bool → List ℕ
left from flags = flat_map u32_text (marked_places from (drop from flags))

pub put_more : (flags : List Bool) (from place : ℕ) (now next all : List ℕ) → now ++ left from flags ≡ all → next_place is_marked from flags ≡ Some place → next ≡ now ++ u32_text place → next ++ left (place + 1) flags ≡ all
put_more flags from place now next all was found put =
    let more = marked_places-next from (drop from flags) place found in
    let on : from + (place + 1 - from) ≡ place + 1 = omega (arith, more.0) in
    let behind : marked_places from (drop from flags) ≡ place ∷ marked_places (place + 1) (drop (place + 1) flags) =
    more.1 ∙ ap (λ (rest : List Bool). place ∷ marked_places (place + 1) rest) (drop-drop (place + 1 - from) from flags ∙ ap (λ n. drop n flags) on) in
    ap (λ front. front ++ left (place + 1) flags) put
    ∙ append_assoc now (u32_text place) (left (place + 1) flags)
    ∙ ap (λ (ps : List ℕ). now ++ flat_map u32_text ps) (sym behind)
    ∙ was

pub put_all : (flags : List Bool) (from : ℕ) (now all : List ℕ) → now ++ left from flags ≡ all → next_place is_marked from flags ≡ None → now ≡ all
put_all flags from now all was none =
    let nothing : marked_places from (drop from flags) ≡ [] = marked_places-none from (drop from flags) none in
    sym (append-nil now) ∙ ap (λ (ps : List ℕ). now ++ flat_map u32_text ps) (sym nothing) ∙ was

-- a field, and the documents behind their number
pub put_presence : (field count : ℕ) (flags : List Bool) (old one two three : List ℕ) → one ≡ old ++ u32_text field → two ≡ one ++ u32_text count → three ≡ two ++ flat_map u32_text (marked_places 0 flags) → count ≡ count_by is_marked flags → three ≡ old ++ presence_text (field, flags)
put_presence field count flags old one two three first second third counted =
    let marks = flat_map u32_text (marked_places 0 flags) in
    let number : u32_text count ≡ u32_text (length (marked_places 0 flags)) = ap u32_text (counted ∙ sym (length-marked_places 0 flags)) in
    third
    ∙ ap (λ front. front ++ marks) (second ∙ ap (λ front. front ++ u32_text count) first)
    ∙ append_assoc (old ++ u32_text field) (u32_text count) marks
    ∙ append_assoc old (u32_text field) (u32_text count ++ marks)
    ∙ ap (λ (n : List ℕ). old ++ (u32_text field ++ (n ++ marks))) number
