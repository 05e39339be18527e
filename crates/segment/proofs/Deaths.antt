-- A block dies with its root.
use Rattle.std.proofs.Common.{◌≡◌, ◌≢◌, ◌↔◌, inl, inr, cond, subst, Contains, ℕ, ◌+◌, ◌<◌, ◌≤◌, Bool, true, false, List, length, get_or, set, replicate, refl, sym, ap, ◌∙◌, arith}
use Rattle.std.specs.List.{count_by}
use Rattle.std.proofs.lemmas.List.{same_lists, get_or-set_same, get_or-set_other, length-set, length-replicate, get_or-replicate, get_or_past, get_or_default}
use Rattle.std.proofs.lemmas.List.FromFn.{length-map-range_with_len, get_or-map-range_with_len}
use Rattle.std.specs.List.Sorted.{IsStrictlyIncreasing}
use Rattle.std.proofs.lemmas.Map.Keys.{sorted_from_strictly_increasing, below_from_sorted}
use Rattle.std.proofs.lemmas.Bool.{cases_eq, cases_lt}
use Rattle.block_bits.specs.Flags.{is_marked, cleared}
use Rattle.segment_parts.specs.Agree.{AreColumns}
use Rattle.segment.specs.Live.{LiveState, IsLiveOver, live_docs, root_of, block_start, block_end, killed}
use Rattle.segment_parts.specs.Parts.{root_flags}
use Rattle.segment_parts.specs.declared.columns.Columns.{Columns}
use Rattle.block_bits.proofs.Ranges.{length-cleared, cleared-before, cleared-inside, cleared-after}
use Rattle.segment.proofs.Places.{length-root_flags, end_edge, start_edge, block-ordered, block-within}

pub length-live_docs : (flags roots : List Bool) → length (live_docs flags roots) ≡ length flags
unfolding live_docs
length-live_docs flags roots = length-map-range_with_len (λ doc. get_or roots (root_of flags doc) true) 0 (length flags)

pub get_or-live_docs : (flags roots : List Bool) (k : ℕ) (d : Bool) → k < length flags → get_or (live_docs flags roots) k d ≡ get_or roots (root_of flags k) true
unfolding live_docs
get_or-live_docs flags roots k d h = get_or-map-range_with_len (λ doc. get_or roots (root_of flags doc) true) 0 (length flags) k k d h (omega arith)

-- a place outside of the block goes by another root
unchanged : (flags roots : List Bool) (root k : ℕ) (d : Bool) → k < length flags → root_of flags k ≢ root → get_or (live_docs flags roots) k d ≡ get_or (live_docs flags (set roots root false)) k d
unchanged flags roots root k d h other =
    get_or-live_docs flags roots k d h ∙ sym (get_or-set_other roots root (root_of flags k) false true other) ∙ sym (get_or-live_docs flags (set roots root false) k d h)

pub live_docs-killed : (scopes : List (List Bool)) (roots : List Bool) (root : ℕ) → length roots ≡ count_by is_marked (root_flags scopes) → root < length roots → block_end scopes root ≤ length (root_flags scopes)
    → cleared (block_start scopes root) (block_end scopes root) (live_docs (root_flags scopes) roots) ≡ live_docs (root_flags scopes) (set roots root false)
live_docs-killed scopes roots root long h within =
    let flags = root_flags scopes in
    let known : root < count_by is_marked flags = omega (arith, long, h) in
    let from = block_start scopes root in
    let end = block_end scopes root in
    let ordered : from ≤ end = omega (arith, block-ordered scopes root known) in
    let old = length-live_docs flags roots in
    let inside : end ≤ length (live_docs flags roots) = omega (arith, within, old) in
    let kept = length-cleared from end (live_docs flags roots) ordered inside in
    same_lists (cleared from end (live_docs flags roots)) (live_docs flags (set roots root false))
    (kept ∙ old ∙ sym (length-live_docs flags (set roots root false)))
    (λ k d below.
    let there : k < length flags = omega (arith, below, kept, old) in
    let starts = start_edge scopes root k known in
    let ends = end_edge scopes root k known in
    elim (cases_lt k from) [
      | inl early ↦ cleared-before from end (live_docs flags roots) k d ordered inside early
          ∙ unchanged flags roots root k d there (λ e. absurd (omega (arith, early, starts.1 (omega (arith, e)))))
      | inr late ↦ elim (cases_lt k end) [
        | inl amid ↦ cleared-inside from end (live_docs flags roots) k d ordered inside late amid
            ∙ sym (get_or-live_docs flags (set roots root false) k d there
            ∙ ap (λ r. get_or (set roots root false) r true) (let e : root_of flags k ≡ root = omega (arith, starts.0 late, ends.0 amid) in e)
            ∙ get_or-set_same roots root false true h)
        | inr behind ↦ cleared-after from end (live_docs flags roots) k d ordered inside behind
            ∙ unchanged flags roots root k d there (λ e. absurd (omega (arith, behind, ends.1 (omega (arith, e)))))
      ]
    ])

-- as many flags as documents
docs_long : (columns : Columns) (docs roots : List Bool) → AreColumns columns → docs ≡ live_docs (root_flags columns.scopes) roots → length docs ≡ columns.documents
docs_long columns docs roots agree are =
    ap (λ (one : List Bool). length one) are ∙ length-live_docs (root_flags columns.scopes) roots
    ∙ length-root_flags columns.documents columns.scopes agree.rooted.scopes

over_from : (columns : Columns) (docs roots : List Bool) → AreColumns columns → length roots ≡ length columns.roots → docs ≡ live_docs (root_flags columns.scopes) roots → IsLiveOver columns (record { docs = docs; roots = roots })
over_from columns docs roots agree long are = record { roots = long; documents = docs_long columns docs roots agree are; docs = are }

-- the bits stay those of the segment
pub IsLiveOver-killed : (columns : Columns) (live : LiveState) (root : ℕ) → AreColumns columns → IsLiveOver columns live → root < length live.roots → IsLiveOver columns (killed columns root live)
IsLiveOver-killed columns live root agree over h =
    over_from columns (cleared (block_start columns.scopes root) (block_end columns.scopes root) live.docs) (set live.roots root false) agree
    (length-set live.roots root false ∙ over.roots)
    (ap (λ docs. cleared (block_start columns.scopes root) (block_end columns.scopes root) docs) over.docs
    ∙ live_docs-killed columns.scopes live.roots root (over.roots ∙ agree.parts.rooted) h
    (omega (arith, block-within columns root agree (omega (arith, h, over.roots)), length-root_flags columns.documents columns.scopes agree.rooted.scopes)))

-- the block lies within the flags of documents
pub block-in_live : (columns : Columns) (live : LiveState) (root : ℕ) → AreColumns columns → IsLiveOver columns live → root < length columns.roots → block_end columns.scopes root ≤ length live.docs
block-in_live columns live root agree over h =
    omega (arith, block-within columns root agree h, over.documents)

each : (n k : ℕ) → get_or (replicate n true) k true ≡ true
each n k = elim (cases_lt k n) [
  | inl below ↦ get_or-replicate n k true true below
  | inr past ↦ get_or_past (replicate n true) k true (omega (arith, past, length-replicate n true))
]

-- all are live
pub live_docs-all : (flags : List Bool) (n : ℕ) → live_docs flags (replicate n true) ≡ replicate (length flags) true
live_docs-all flags n =
    same_lists (live_docs flags (replicate n true)) (replicate (length flags) true)
    (length-live_docs flags (replicate n true) ∙ sym (length-replicate (length flags) true))
    (λ k d below.
    let there : k < length flags = omega (arith, below, length-live_docs flags (replicate n true)) in
    get_or-live_docs flags (replicate n true) k d there
    ∙ each n (root_of flags k)
    ∙ sym (get_or-replicate (length flags) k true d there))

-- all documents and all roots of a segment
pub IsLiveOver-all : (columns : Columns) → AreColumns columns → IsLiveOver columns (record { docs = replicate columns.documents true; roots = replicate (length columns.roots) true })
IsLiveOver-all columns agree =
    over_from columns (replicate columns.documents true) (replicate (length columns.roots) true) agree
    (length-replicate (length columns.roots) true)
    (ap (λ n. replicate n true) (sym (length-root_flags columns.documents columns.scopes agree.rooted.scopes)) ∙ sym (live_docs-all (root_flags columns.scopes) (length columns.roots)))

false_no_true : false ≡ true → ⊥
false_no_true e = absurd (subst (λ flag. cond flag ⊥ (Unit {0})) e tt)

not_false : (flag : Bool) → (flag ≡ false → ⊥) → flag ≡ true
not_false true h = refl
not_false false h = absurd (h refl)

-- of the first `i` of the dead roots, and of no others, the flags are false
pub record AreDead (roots : List Bool) (dead : List ℕ) (i : ℕ) : Type 0 where
  pub flags : (root : ℕ) → root < length roots → (get_or roots root false ≡ false) ↔ ((k : ℕ) × (k < i) × (get_or dead k 0 ≡ root))

pub dead-none : (n : ℕ) (dead : List ℕ) → AreDead (replicate n true) dead 0
dead-none n dead = record {
  flags = λ root below. (
    λ off. absurd (false_no_true (sym off ∙ get_or-replicate n root true false (omega (arith, below, length-replicate n true)))),
    λ some. absurd (omega (arith, some.1)),
  );
}

pub dead-more : (roots : List Bool) (dead : List ℕ) (i root : ℕ) → AreDead roots dead i → get_or dead i 0 ≡ root → root < length roots → AreDead (set roots root false) dead (i + 1)
dead-more roots dead i root so is inside = record {
  flags = λ other below.
      let there : other < length roots = omega (arith, below, length-set roots root false) in
      elim (cases_eq other root) [
        | inl same ↦ (λ _. (i, omega arith, is ∙ sym same), λ _. ap (λ r. get_or (set roots root false) r false) same ∙ get_or-set_same roots root false false inside)
        | inr differ ↦
            let kept = get_or-set_other roots root other false false differ in (
              λ off. let some = (so.flags other there).0 (sym kept ∙ off) in (some.0, omega (arith, some.1), some.2),
              λ some. elim (cases_lt some.0 i) [
                | inl early ↦ kept ∙ (so.flags other there).1 (some.0, early, some.2)
                | inr late ↦
                    let last : some.0 ≡ i = omega (arith, late, some.1) in
                    absurd (differ (omega (arith, some.2, is, ap (λ k. get_or dead k 0) last)))
              ],
            )
      ];
}

-- the next dead root is live yet
pub live-next : (roots : List Bool) (dead : List ℕ) (i root : ℕ) → IsStrictlyIncreasing dead → AreDead roots dead i → i < length dead → get_or dead i 0 ≡ root → root < length roots → get_or roots root false ≡ true
live-next roots dead i root ascend so h is inside = not_false (get_or roots root false)
    (λ off.
    let some = (so.flags root inside).0 off in
    let less = below_from_sorted dead some.0 i 0 (sorted_from_strictly_increasing dead ascend) some.1 h in
    omega (arith, less, some.2, is))

pub dead-all : (roots : List Bool) (dead : List ℕ) (n : ℕ) → AreDead roots dead n → n ≡ length dead → (root : ℕ) → root < length roots → (get_or roots root false ≡ false) ↔ Contains dead root
dead-all roots dead n so whole root below = (
  λ off. let some = (so.flags root below).0 off in
      let h : some.0 < length dead = omega (arith, some.1, whole) in
      (some.0, h, get_or_default dead some.0 root 0 h ∙ some.2),
  λ some. (so.flags root below).1 (some.0, omega (arith, some.1, whole), sym (get_or_default dead some.0 root 0 some.1) ∙ some.2),
)

-- a root that is live is one of the roots
pub live-inside : (roots : List Bool) (root : ℕ) → get_or roots root false ≡ true → root < length roots
live-inside roots root live = elim (cases_lt root (length roots)) [
  | inl inside ↦ inside
  | inr past ↦ absurd (false_no_true (sym (get_or_past roots root false past) ∙ live))
]

pub over-made : (columns : Columns) (docs roots : List Bool) → AreColumns columns → docs ≡ replicate columns.documents true → roots ≡ replicate (length columns.roots) true → IsLiveOver columns (record { docs = docs; roots = roots })
over-made columns docs roots agree docs_are roots_are =
    let all = IsLiveOver-all columns agree in
    over_from columns docs roots agree
    (ap (λ (one : List Bool). length one) roots_are ∙ all.roots)
    (docs_are ∙ all.docs ∙ ap (λ one. live_docs (root_flags columns.scopes) one) (sym roots_are))

-- what `kill` does to the bits `inner`, which are seen as `live`
pub record IsKilling (columns : Columns) (inner live : LiveState) (root : ℕ) (range : ℕ × ℕ) : Type 0 where
  pub seen : inner ≡ live
  pub agree : AreColumns columns
  pub over : IsLiveOver columns live
  pub alive : get_or live.roots root false ≡ true
  pub edges : range ≡ (block_start columns.scopes root, block_end columns.scopes root)

pub kill-over : (columns : Columns) (inner live : LiveState) (root : ℕ) (range : ℕ × ℕ) (docs roots : List Bool) → IsKilling columns inner live root range
    → docs ≡ cleared range.0 range.1 inner.docs → roots ≡ set inner.roots root false → IsLiveOver columns (record { docs = docs; roots = roots })
kill-over columns inner live root range docs roots it docs_are roots_are =
    let then = IsLiveOver-killed columns live root it.agree it.over (live-inside live.roots root it.alive) in
    over_from columns docs roots it.agree
    (ap (λ (one : List Bool). length one) roots_are ∙ ap (λ (one : LiveState). length (set one.roots root false)) it.seen ∙ then.roots)
    (docs_are
    ∙ ap (λ (pair : ℕ × ℕ). cleared pair.0 pair.1 inner.docs) it.edges
    ∙ ap (λ (one : LiveState). cleared (block_start columns.scopes root) (block_end columns.scopes root) one.docs) it.seen
    ∙ then.docs
    ∙ ap (λ (one : LiveState). live_docs (root_flags columns.scopes) (set one.roots root false)) (sym it.seen)
    ∙ ap (λ one. live_docs (root_flags columns.scopes) one) (sym roots_are))

pub kill-within : (columns : Columns) (inner live : LiveState) (root : ℕ) (range : ℕ × ℕ) → IsKilling columns inner live root range → range.1 ≤ length inner.docs
kill-within columns inner live root range it =
    omega (
      arith,
      ap (λ (pair : ℕ × ℕ). pair.1) it.edges,
      ap (λ (one : LiveState). length one.docs) it.seen,
      block-in_live columns live root it.agree it.over (omega (arith, live-inside live.roots root it.alive, it.over.roots)),
    )
