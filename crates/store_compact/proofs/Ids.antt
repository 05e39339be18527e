-- Segments under ids of their own, and which of them a list of moves names.
use Rattle.std.proofs.Common.{◌≡◌, ◌≢◌, ℕ, zero, suc, ◌<◌, cond, Bool, List, [], ◌∷◌, length, map, find, get_or, slice_get, slice_set, Option, None, Some, unwrap_or, refl, sym, ◌∙◌, ap, subst, arith}
use Rattle.std.specs.List.{AllByRecursion}
use Rattle.std.proofs.lemmas.Bool.{eq-eqb, ne_eqb}
use Rattle.std.proofs.lemmas.Option.{none-some}
use Rattle.extent_pool.specs.Placing.{NamedExtent}
use Rattle.extent_pool.specs.declared.extent.Extent.{Extent}
use Rattle.machine.specs.Storing.{has_extent_id, with_move}
use Rattle.segment.specs.Live.{EntryState}
use Rattle.segment_view.specs.Views.{HaveOwnIds}
use Rattle.commit_store.specs.Moving.{moved_into, named_planned}
use Rattle.commit_store.specs.Preparing.{PlannedSegment}
use Rattle.store_compact.specs.Moves.{befores, with_before}
use Rattle.store_compact.proofs.Candidates.{some_once}

-- no entry has this id
abbrev pub HasNot : ℕ → List EntryState → Type 0
HasNot id entries = AllByRecursion (λ (entry : EntryState). entry.id ≢ id) entries

-- each entry has another id than those behind it
abbrev pub HaveIds : List EntryState → Type 0
HaveIds [] = Unit {0}
HaveIds (entry ∷ entries) = HasNot entry.id entries × HaveIds entries

all_from : (P : EntryState → Type 0) (entries : List EntryState) → ((i : ℕ) (d : EntryState) → i < length entries → P (get_or entries i d)) → AllByRecursion P entries
all_from P [] each = tt
all_from P (entry ∷ entries) each = (each 0 entry (omega arith), all_from P entries (λ i d less. each (suc i) d (omega (arith, less))))

pub have_ids : (entries : List EntryState) → HaveOwnIds entries → HaveIds entries
have_ids [] own = tt
have_ids (entry ∷ entries) own = (
  all_from (λ (it : EntryState). it.id ≢ entry.id) entries (λ i d less same. own 0 (suc i) d (omega arith) (omega (arith, less)) (sym same)),
  have_ids entries (λ i j d before within. own (suc i) (suc j) d (omega (arith, before)) (omega (arith, within))),
)

abbrev pub entries_in : List PlannedSegment → List EntryState
entries_in segments = map (λ (segment : PlannedSegment). segment.entry) segments

pub one_of : (P : EntryState → Type 0) (segments : List PlannedSegment) (place : ℕ) (own : PlannedSegment) → AllByRecursion P (entries_in segments) → slice_get segments place ≡ Some own → P own.entry
one_of P [] place own all there = absurd (none-some own there)
one_of P (first ∷ segments) zero own all there = subst (λ (it : PlannedSegment). P it.entry) (some_once first own there) all.0
one_of P (first ∷ segments) (suc place) own all there = one_of P segments place own all.1 there

pub segment_at : (P : PlannedSegment → Type 0) (segments : List PlannedSegment) (place : ℕ) (own : PlannedSegment) → AllByRecursion P segments → slice_get segments place ≡ Some own → P own
segment_at P [] place own all there = absurd (none-some own there)
segment_at P (first ∷ segments) zero own all there = subst P (some_once first own there) all.0
segment_at P (first ∷ segments) (suc place) own all there = segment_at P segments place own all.1 there

-- ---- a move

pub move_here : (named it : NamedExtent) (others : List NamedExtent) → named.id ≡ it.id → with_move (named ∷ others) it ≡ named
move_here named it others same = ap (λ (b : Bool). unwrap_or (cond b (Some named) (find (has_extent_id it.id) others)) it) (eq-eqb named.id it.id same)

pub move_other : (named it : NamedExtent) (others : List NamedExtent) → (named.id ≡ it.id → ⊥) → with_move (named ∷ others) it ≡ with_move others it
move_other named it others differ = ap (λ (b : Bool). unwrap_or (cond b (Some named) (find (has_extent_id it.id) others)) it) (ne_eqb named.id it.id differ)

found_none : (id : ℕ) (named : List NamedExtent) → AllByRecursion (λ (it : NamedExtent). it.id ≢ id) named → find (has_extent_id id) named ≡ None
found_none id [] none = refl
found_none id (it ∷ named) none =
    ap (λ (b : Bool). cond b (Some it) (find (has_extent_id id) named)) (ne_eqb it.id id none.0) ∙ found_none id named none.1

pub move_none : (it : NamedExtent) (named : List NamedExtent) → AllByRecursion (λ (own : NamedExtent). own.id ≢ it.id) named → with_move named it ≡ it
move_none it named none = ap (λ (o : Option NamedExtent). unwrap_or o it) (found_none it.id named none)

pub no_moves : (named : List NamedExtent) → map (with_move []) named ≡ named
no_moves [] = refl
no_moves (it ∷ named) = ap (λ (rest : List NamedExtent). it ∷ rest) (no_moves named)

others_same : (own : NamedExtent) (moves : List NamedExtent) (segments : List PlannedSegment) → HasNot own.id (entries_in segments)
    → map (with_move (own ∷ moves)) (map named_planned segments) ≡ map (with_move moves) (map named_planned segments)
others_same own moves [] none = refl
others_same own moves (segment ∷ segments) none =
    ap (λ (it : NamedExtent). it ∷ map (with_move (own ∷ moves)) (map named_planned segments)) (move_other own (named_planned segment) moves (λ same. none.0 (sym same)))
    ∙ ap (λ (rest : List NamedExtent). with_move moves (named_planned segment) ∷ rest) (others_same own moves segments none.1)

-- a move of a segment ahead of others, or the segment moved and then the others
pub moved_first : (extent : Extent) (moves : List NamedExtent) (segments : List PlannedSegment) (place : ℕ) (own : PlannedSegment) → HaveIds (entries_in segments) → slice_get segments place ≡ Some own
    → AllByRecursion (λ (it : NamedExtent). it.id ≢ own.entry.id) moves
    → map (with_move (record { id = own.entry.id; extent = extent } ∷ moves)) (map named_planned segments) ≡ map (with_move moves) (map named_planned (slice_set segments place (moved_into extent own)))
moved_first extent moves [] place own ids there none = absurd (none-some own there)
moved_first extent moves (first ∷ segments) zero own ids there none =
    let same : first ≡ own = some_once first own there in
    let named : NamedExtent = record { id = own.entry.id; extent = extent } in
    ap (λ (it : NamedExtent). it ∷ map (with_move (named ∷ moves)) (map named_planned segments))
    (move_here named (named_planned first) moves (ap (λ (it : PlannedSegment). it.entry.id) (sym same)) ∙ sym (move_none named moves none))
    ∙ ap (λ (rest : List NamedExtent). with_move moves named ∷ rest)
    (others_same named moves segments (subst (λ (it : PlannedSegment). HasNot it.entry.id (entries_in segments)) same ids.0))
moved_first extent moves (first ∷ segments) (suc place) own ids there none =
    let named : NamedExtent = record { id = own.entry.id; extent = extent } in
    ap (λ (it : NamedExtent). it ∷ map (with_move (named ∷ moves)) (map named_planned segments))
    (move_other named (named_planned first) moves (one_of (λ (it : EntryState). it.id ≢ first.entry.id) segments place own ids.0 there))
    ∙ ap (λ (rest : List NamedExtent). with_move moves (named_planned first) ∷ rest) (moved_first extent moves segments place own ids.1 there none)

-- ---- the extents that segments had

pub befores_set : (segments : List PlannedSegment) (place : ℕ) (own : PlannedSegment) (extent : Extent) → slice_get segments place ≡ Some own
    → befores (slice_set segments place (moved_into extent own)) ≡ befores segments
befores_set [] place own extent there = refl
befores_set (first ∷ segments) zero own extent there =
    ap (λ (it : PlannedSegment). with_before it.entry.id it.before (befores segments)) (sym (some_once first own there))
befores_set (first ∷ segments) (suc place) own extent there = ap (with_before first.entry.id first.before) (befores_set segments place own extent there)

pub entries_set : (segments : List PlannedSegment) (place : ℕ) (own : PlannedSegment) (extent : Extent) → slice_get segments place ≡ Some own
    → entries_in (slice_set segments place (moved_into extent own)) ≡ entries_in segments
entries_set [] place own extent there = refl
entries_set (first ∷ segments) zero own extent there = ap (λ (it : PlannedSegment). it.entry ∷ entries_in segments) (sym (some_once first own there))
entries_set (first ∷ segments) (suc place) own extent there = ap (λ (rest : List EntryState). first.entry ∷ rest) (entries_set segments place own extent there)

pub all_set : (P : PlannedSegment → Type 0) (segments : List PlannedSegment) (place : ℕ) (own : PlannedSegment) → AllByRecursion P segments → P own → AllByRecursion P (slice_set segments place own)
all_set P [] place own all one = tt
all_set P (first ∷ segments) zero own all one = (one, all.1)
all_set P (first ∷ segments) (suc place) own all one = (all.0, all_set P segments place own all.1 one)

with_all : (P : NamedExtent → Type 0) (id : ℕ) (before : Option Extent) (named : List NamedExtent) → ((extent : Extent) → before ≡ Some extent → P (record { id = id; extent = extent }))
    → AllByRecursion P named → AllByRecursion P (with_before id before named)
with_all P id None named one all = all
with_all P id (Some extent) named one all = (one extent refl, all)

-- of segments with other ids
others_all : (id at : ℕ) (segments : List PlannedSegment) → HasNot id (entries_in segments) → AllByRecursion (λ (it : NamedExtent). it.id ≡ id → it.extent.at ≡ at) (befores segments)
others_all id at [] none = tt
others_all id at (segment ∷ segments) none =
    with_all (λ (it : NamedExtent). it.id ≡ id → it.extent.at ≡ at) segment.entry.id segment.before (befores segments) (λ extent is same. absurd (none.0 same)) (others_all id at segments none.1)

-- under the id of a segment there is its extent alone
pub one_extent : (segments : List PlannedSegment) (place : ℕ) (own : PlannedSegment) (extent : Extent) → HaveIds (entries_in segments) → slice_get segments place ≡ Some own → own.before ≡ Some extent
    → AllByRecursion (λ (it : NamedExtent). it.id ≡ own.entry.id → it.extent.at ≡ extent.at) (befores segments)
one_extent [] place own extent ids there had = absurd (none-some own there)
one_extent (first ∷ segments) zero own extent ids there had =
    let same : first ≡ own = some_once first own there in
    with_all (λ (it : NamedExtent). it.id ≡ own.entry.id → it.extent.at ≡ extent.at) first.entry.id first.before (befores segments)
    (λ one is id. ap (λ (it : Extent). it.at) (some_once one extent (sym is ∙ ap (λ (it : PlannedSegment). it.before) same ∙ had)))
    (others_all own.entry.id extent.at segments (subst (λ (it : PlannedSegment). HasNot it.entry.id (entries_in segments)) same ids.0))
one_extent (first ∷ segments) (suc place) own extent ids there had =
    with_all (λ (it : NamedExtent). it.id ≡ own.entry.id → it.extent.at ≡ extent.at) first.entry.id first.before (befores segments)
    (λ one is id. absurd (one_of (λ (it : EntryState). it.id ≢ first.entry.id) segments place own ids.0 there (sym id)))
    (one_extent segments place own extent ids.1 there had)
