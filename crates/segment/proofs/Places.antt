-- The documents of the roots.
use Rattle.std.proofs.Common.{subst, Some, None, slice_get, ◌++◌, drop, append_assoc, ◌≡◌, inl, inr, ℕ, zero, suc, ◌+◌, ◌-◌, ◌<◌, ◌≤◌, ◌↔◌, Bool, true, false, List, [], ◌∷◌, length, get_or, take, IsTrue, refl, sym, ap, ◌∙◌, arith}
use Rattle.std.specs.Prelude.{nat_lt, slice_index_or}
use Rattle.std.specs.List.{All, count_by, prefix_len}
use Rattle.std.specs.List.Sorted.{IsStrictlyIncreasing, IsNonDecreasingBy}
use Rattle.std.proofs.lemmas.List.{append-nil, get_or_default, drop-drop}
use Rattle.std.proofs.lemmas.Option.{slice_get_read, get_or_from_slice_get}
use Rattle.block_bits.specs.Flags.{is_marked}
use Rattle.block_bits.specs.Places.{next_place}
use Rattle.block_bits.specs.Blocks.{HaveOneScope, documents_of}
use Rattle.segment_parts.specs.Agree.{AreColumns}
use Rattle.segment_parts.specs.declared.columns.Columns.{Columns}
use Rattle.segment.specs.Live.{root_of, block_start, block_end}
use Rattle.std.proofs.lemmas.Bool.{cases_lt, false≢true}
use Rattle.std.proofs.lemmas.Map.Keys.{sorted_from_strictly_increasing, below_from_sorted}
use Rattle.std.proofs.lemmas.Bool.Decides.{nat_tests}
use Rattle.segment_parts.specs.Text.{marked_places}
use Rattle.segment_parts.specs.Marks.{count-mark, length-marked_places, marked_places-within, marked_places-ascend, marked_places-next, marked_places-none}
use Rattle.segment_parts.specs.Parts.{root_flags}
use Rattle.segment.specs.Roots.{root_documents}

-- a place is at or before mark `root` exactly where at most so many marks come before it
pub marks_before : (start : ℕ) (flags : List Bool) (root place : ℕ) → root < count_by is_marked flags → (place + start ≤ get_or (marked_places start flags) root 0) ↔ (count_by is_marked (take place flags) ≤ root)
marks_before start [] root place h = absurd (omega arith)
marks_before start (flag ∷ flags) root zero h = (λ _. omega arith, λ _. omega (arith, (marked_places-within start (flag ∷ flags) root h).0))
marks_before start (true ∷ flags) zero (suc place) h =
    (λ early. absurd (omega arith), λ few. absurd (omega (arith, few, count-mark true (take place flags))))
marks_before start (true ∷ flags) (suc root) (suc place) h =
    let rest = marks_before (start + 1) flags root place (omega (arith, h, count-mark true flags)) in (
      λ early. omega (arith, rest.0 (omega (arith, early)), count-mark true (take place flags)),
      λ few. omega (arith, rest.1 (omega (arith, few, count-mark true (take place flags)))),
    )
marks_before start (false ∷ flags) root (suc place) h =
    let rest = marks_before (start + 1) flags root place (omega (arith, h, count-mark false flags)) in (
      λ early. omega (arith, rest.0 (omega (arith, early)), count-mark false (take place flags)),
      λ few. omega (arith, rest.1 (omega (arith, few, count-mark false (take place flags)))),
    )

-- places listed so far, and those of the flags from `from` on
pub record AreListed (places : List ℕ) (from : ℕ) (flags : List Bool) : Type 0 where
  pub all : places ++ marked_places from (drop from flags) ≡ marked_places 0 flags

pub listed-none : (flags : List Bool) → AreListed [] 0 flags
listed-none flags = record { all = refl }

pub listed-more : (places : List ℕ) (from place : ℕ) (flags : List Bool) → AreListed places from flags → next_place is_marked from flags ≡ Some place → AreListed (places ++ place ∷ []) (place + 1) flags
listed-more places from place flags so_far e =
    let next = marked_places-next from (drop from flags) place e in
    let on : from + (place + 1 - from) ≡ place + 1 = omega (arith, next.0) in
    record {
      all = append_assoc places (place ∷ []) (marked_places (place + 1) (drop (place + 1) flags))
          ∙ ap (λ rest. places ++ (place ∷ marked_places (place + 1) rest)) (ap (λ n. drop n flags) (sym on) ∙ sym (drop-drop (place + 1 - from) from flags))
          ∙ ap (λ rest. places ++ rest) (sym next.1)
          ∙ so_far.all;
    }

pub listed-all : (places : List ℕ) (from : ℕ) (flags : List Bool) → AreListed places from flags → next_place is_marked from flags ≡ None → places ≡ marked_places 0 flags
listed-all places from flags so_far e =
    sym (append-nil places) ∙ ap (λ rest. places ++ rest) (sym (marked_places-none from (drop from flags) e)) ∙ so_far.all

-- ---- the same of a segment's roots

pub length-root_documents : (scopes : List (List Bool)) → length (root_documents scopes) ≡ count_by is_marked (root_flags scopes)
unfolding root_documents
length-root_documents scopes = length-marked_places 0 (root_flags scopes)

-- no scopes, no roots
pub root_documents-none : (scopes : List (List Bool)) → length scopes < 1 → [] ≡ root_documents scopes
unfolding root_documents
root_documents-none [] h = refl
root_documents-none (set ∷ sets) h = absurd (omega arith)

-- the roots are the documents of the first scope
pub root_documents-first : (scopes : List (List Bool)) (roots : List Bool) → 0 < length scopes → roots ≡ get_or scopes 0 roots → marked_places 0 roots ≡ root_documents scopes
unfolding root_documents
root_documents-first scopes roots h read = ap (marked_places 0) (read ∙ get_or_default scopes 0 roots [] h)

pub root_documents-within : (scopes : List (List Bool)) (root : ℕ) → root < count_by is_marked (root_flags scopes) → get_or (root_documents scopes) root 0 < length (root_flags scopes)
unfolding root_documents
root_documents-within scopes root h = omega (arith, (marked_places-within 0 (root_flags scopes) root h).1)

no_scope : (scopes : List ℕ) → All (λ scope. scope < 0) scopes → length scopes ≡ 0
no_scope [] never = refl
no_scope (scope ∷ scopes) never = absurd (let h = never 0 0 (omega arith) in omega (arith, h))

long_flags : (scopes : List ℕ) → length (documents_of scopes 0) ≡ length scopes
long_flags [] = refl
long_flags (scope ∷ scopes) = omega (arith, long_flags scopes)

-- there are as many flags as documents
pub length-root_flags : (count : ℕ) (sets : List (List Bool)) → HaveOneScope count sets → length (root_flags sets) ≡ count
length-root_flags count [] one = sym (no_scope one.0 one.1.in_range) ∙ one.2
length-root_flags count (set ∷ sets) one =
    ap (λ (all : List (List Bool)). length (get_or all 0 [])) one.1.sets
    ∙ long_flags one.0 ∙ one.2

-- `places` are the documents of the roots, kept beside columns that are seen as `now`
pub record ArePlaces (own now : Columns) (places : List ℕ) : Type 0 where
  pub seen : own ≡ now
  pub agree : AreColumns own
  pub are : places ≡ root_documents own.scopes

pub place_there : (own now : Columns) (places : List ℕ) (root : ℕ) → ArePlaces own now places → root < length now.roots → root < length places
place_there own now places root it h =
    omega (arith, h, ap (λ (ps : List ℕ). length ps) it.are, length-root_documents own.scopes, it.agree.parts.rooted, ap (λ (one : Columns). length one.roots) it.seen)

pub place_is : (own now : Columns) (places : List ℕ) (root doc : ℕ) → ArePlaces own now places → root < length now.roots → doc ≡ get_or places root doc → slice_get (root_documents now.scopes) root ≡ Some doc
place_is own now places root doc it h read =
    ap (λ (one : Columns). slice_get (root_documents one.scopes) root) (sym it.seen)
    ∙ ap (λ ps. slice_get ps root) (sym it.are)
    ∙ slice_get_read places (length places) root doc refl (place_there own now places root it h) read

pub place_within : (own now : Columns) (places : List ℕ) (root doc : ℕ) → ArePlaces own now places → root < length now.roots → doc ≡ get_or places root doc → doc < now.documents
place_within own now places root doc it h read =
    let there = place_there own now places root it h in
    let known : root < count_by is_marked (root_flags own.scopes) = omega (arith, there, ap (λ (ps : List ℕ). length ps) it.are, length-root_documents own.scopes) in
    omega (
      arith,
      read,
      get_or_default places root doc 0 there,
      ap (λ ps. get_or ps root 0) it.are,
      root_documents-within own.scopes root known,
      length-root_flags own.documents own.scopes it.agree.rooted.scopes,
      ap (λ (one : Columns). one.documents) it.seen,
    )

pub root_documents-ascend : (scopes : List (List Bool)) (i : ℕ) → suc i < count_by is_marked (root_flags scopes) → get_or (root_documents scopes) i 0 < get_or (root_documents scopes) (suc i) 0
unfolding root_documents
root_documents-ascend scopes i h = marked_places-ascend 0 (root_flags scopes) i h

-- a document is before the end of a root's block exactly where at most so many roots come before it
pub end_edge : (scopes : List (List Bool)) (root doc : ℕ) → root < count_by is_marked (root_flags scopes) → (doc < block_end scopes root) ↔ (root_of (root_flags scopes) doc ≤ root)
unfolding root_documents
end_edge scopes root doc h =
    let edge = marks_before 0 (root_flags scopes) root doc h in
    (λ early. edge.0 (omega (arith, early)), λ few. omega (arith, edge.1 few))

-- a block begins where the one before it ends
start_after : (scopes : List (List Bool)) (root : ℕ) → block_start scopes (suc root) ≡ block_end scopes root
start_after scopes root =
    let e : suc root - 1 ≡ root = omega arith in
    rw e (grind (arith, nat_tests))

-- and from the block's start on exactly where so many do
pub start_edge : (scopes : List (List Bool)) (root doc : ℕ) → root < count_by is_marked (root_flags scopes) → (block_start scopes root ≤ doc) ↔ (root ≤ root_of (root_flags scopes) doc)
start_edge scopes zero doc h = (λ _. omega arith, λ _. omega arith)
start_edge scopes (suc root) doc h =
    let edge = end_edge scopes root doc (omega (arith, h)) in
    let start = start_after scopes root in (
      λ late. elim (cases_lt (root_of (root_flags scopes) doc) (suc root)) [
        | inl few ↦ absurd (omega (arith, start, late, edge.1 (omega (arith, few))))
        | inr many ↦ many
      ],
      λ many. elim (cases_lt doc (block_end scopes root)) [
        | inl early ↦ absurd (omega (arith, edge.0 early, many))
        | inr late ↦ omega (arith, start, late)
      ],
    )

-- ---- the root of a document's block

no_place : (start bound : ℕ) (flags : List Bool) → bound ≤ start → prefix_len (λ place. nat_lt place bound) (marked_places start flags) ≡ 0
no_place start bound [] from = refl
no_place start bound (true ∷ flags) from =
    let past : nat_lt start bound ≡ false = grind (arith, nat_tests) in
    rw past refl
no_place start bound (false ∷ flags) from = no_place (start + 1) bound flags (omega arith)

-- as many marks come before a document as places
places-before : (start bound doc : ℕ) (flags : List Bool) → bound ≡ start + doc → prefix_len (λ place. nat_lt place bound) (marked_places start flags) ≡ count_by is_marked (take doc flags)
places-before start bound zero flags is = no_place start bound flags (omega (arith, is))
places-before start bound (suc doc) [] is = refl
places-before start bound (suc doc) (true ∷ flags) is =
    let before : nat_lt start bound ≡ true = grind (arith, nat_tests) in
    let rest = places-before (start + 1) bound doc flags (omega (arith, is)) in
    rw before (omega (arith, rest, count-mark true (take doc flags)))
places-before start bound (suc doc) (false ∷ flags) is =
    let rest = places-before (start + 1) bound doc flags (omega (arith, is)) in
    omega (arith, rest, count-mark false (take doc flags))

some_mark : (flags : List Bool) (at : ℕ) → IsTrue (slice_index_or flags at false) → 0 < count_by is_marked flags
some_mark [] at holds = absurd (false≢true holds)
some_mark (true ∷ flags) zero holds = omega (arith, count-mark true flags)
some_mark (false ∷ flags) zero holds = absurd (false≢true holds)
some_mark (flag ∷ flags) (suc at) holds = omega (arith, some_mark flags at holds, count-mark flag flags)

-- a mark behind a document is one more than those before it
before_last : (flags : List Bool) (doc last : ℕ) → doc ≤ last → IsTrue (slice_index_or flags last false) → count_by is_marked (take doc flags) < count_by is_marked flags
before_last flags zero last upto holds = omega (arith, some_mark flags last holds)
before_last [] (suc doc) last upto holds = absurd (false≢true holds)
before_last (flag ∷ flags) (suc doc) zero upto holds = absurd (omega (arith, upto))
before_last (flag ∷ flags) (suc doc) (suc last) upto holds =
    omega (arith, before_last flags doc last (omega (arith, upto)) holds, count-mark flag flags, count-mark flag (take doc flags))

pub root_before : (own now : Columns) (places : List ℕ) (doc n : ℕ) → ArePlaces own now places → n ≡ prefix_len (λ place. nat_lt place doc) places → n ≡ root_of (root_flags now.scopes) doc
unfolding root_documents
root_before own now places doc n it is =
    is
    ∙ ap (prefix_len (λ place. nat_lt place doc)) it.are
    ∙ places-before 0 doc doc (root_flags own.scopes) (omega arith)
    ∙ ap (λ (one : Columns). root_of (root_flags one.scopes) doc) it.seen

pub root_of-within : (columns : Columns) (doc : ℕ) → AreColumns columns → doc < columns.documents → root_of (root_flags columns.scopes) doc < length columns.roots
root_of-within columns doc agree inside =
    omega (arith, before_last (root_flags columns.scopes) doc (columns.documents - 1) (omega (arith, inside)) agree.rooted.last, agree.parts.rooted)

pub root_block : (columns : Columns) (doc : ℕ) → AreColumns columns → doc < columns.documents → (block_start columns.scopes (root_of (root_flags columns.scopes) doc) ≤ doc) × (doc < block_end columns.scopes (root_of (root_flags columns.scopes) doc))
root_block columns doc agree inside =
    let root = root_of (root_flags columns.scopes) doc in
    let known : root < count_by is_marked (root_flags columns.scopes) = omega (arith, root_of-within columns doc agree inside, agree.parts.rooted) in
    ((start_edge columns.scopes root doc known).1 (omega arith), (end_edge columns.scopes root doc known).1 (omega arith))

-- the places of roots don't fall
pub places-rise : (own now : Columns) (places : List ℕ) → ArePlaces own now places → IsNonDecreasingBy (λ place. place) places
unfolding root_documents
places-rise own now places it i j d upto inside =
    let flags = root_flags own.scopes in
    let known : j < count_by is_marked flags = omega (arith, inside, ap (λ (ps : List ℕ). length ps) it.are, length-marked_places 0 flags) in
    let rising : IsStrictlyIncreasing (marked_places 0 flags) = λ k below.
    let next : k + 1 ≡ suc k = omega arith in
    rw next (marked_places-ascend 0 flags k (omega (arith, below, length-marked_places 0 flags))) in
    let same : (k : ℕ) → k ≤ j → get_or places k d ≡ get_or (marked_places 0 flags) k 0 = λ k low. get_or_default places k d 0 (omega (arith, low, inside)) ∙ ap (λ (ps : List ℕ). get_or ps k 0) it.are in
    elim (cases_lt i j) [
      | inl earlier ↦
          let less : get_or (marked_places 0 flags) i 0 < get_or (marked_places 0 flags) j 0 = below_from_sorted (marked_places 0 flags) i j 0 (sorted_from_strictly_increasing (marked_places 0 flags) rising) earlier (omega (arith, known, length-marked_places 0 flags)) in
          omega (arith, less, same i upto, same j (omega arith))
      | inr from ↦ let equal : i ≡ j = omega arith in omega (arith, ap (λ k. get_or places k d) equal)
    ]

-- a block has a document
pub block-ordered : (scopes : List (List Bool)) (root : ℕ) → root < count_by is_marked (root_flags scopes) → block_start scopes root < block_end scopes root
block-ordered scopes zero h = omega arith
block-ordered scopes (suc root) h =
    let start = start_after scopes root in
    omega (arith, start, root_documents-ascend scopes root h)

pub block-within : (columns : Columns) (root : ℕ) → AreColumns columns → root < length columns.roots → block_end columns.scopes root ≤ columns.documents
block-within columns root agree h =
    omega (arith, root_documents-within columns.scopes root (omega (arith, h, agree.parts.rooted)), length-root_flags columns.documents columns.scopes agree.rooted.scopes)

pub before_root : (own now : Columns) (root before doc : ℕ) → own ≡ now → AreColumns own → (root ≡ 0 → ⊥) → root < length now.roots
    → slice_get (root_documents now.scopes) (root - 1) ≡ Some before → slice_get (root_documents now.scopes) root ≡ Some doc → before < doc
before_root own now zero before doc seen agree some h one other = absurd (some refl)
before_root own now (suc root) before doc seen agree some h one other =
    let e : suc root - 1 ≡ root = omega arith in
    let is = subst (λ (it : Columns). AreColumns it) seen agree in
    omega (
      arith,
      get_or_from_slice_get (root_documents now.scopes) (suc root - 1) before 0 one,
      ap (λ r. get_or (root_documents now.scopes) r 0) e,
      get_or_from_slice_get (root_documents now.scopes) (suc root) doc 0 other,
      root_documents-ascend now.scopes root (omega (arith, h, is.parts.rooted)),
    )
