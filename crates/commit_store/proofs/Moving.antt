-- A commit in which one segment more was moved is again one that the store prepared, and says what it said.
use Rattle.std.proofs.Common.{◌≡◌, ℕ, zero, suc, ◌+◌, ◌*◌, ◌%◌, ◌<◌, ◌≤◌, ◌^◌, ◌⊎◌, ⊎_elim, inl, inr, cond, nat_lt, Bool, true, false, not, List, [], ◌∷◌, ◌++◌, length, map, filter, find, count_by, sum_by, slice_get, slice_set, get_or, IsSomeAnd, IfOk, Result, Ok, Err, All, Option, None, Some, option_map, unwrap_or, refl, sym, ◌∙◌, ap, subst, arith}
use Rattle.std.specs.List.{AllByRecursion}
use Rattle.std.specs.List.Sorted.{IsPermutation}
use Rattle.std.proofs.lemmas.Bool.{cases_lt, eq-eqb, eqb-true, false≢true, lt-ltb, ltb-true, ne_eqb, true≢false}
use Rattle.std.proofs.lemmas.List.Elements.{All-head}
use Rattle.std.proofs.lemmas.List.Sorted.{All-permutation, IsPermutation-append_left, IsPermutation-cons, IsPermutation-middle, IsPermutation-refl, IsPermutation-sym, IsPermutation-trans}
use Rattle.std.proofs.lemmas.List.Sums.{sum_by-cons}
use Rattle.std.proofs.lemmas.Option.{none-some}
use Rattle.extent_pool.specs.Extents.{AreDisjoint, AreInOrder, Pool, end_of, keeps}
use Rattle.extent_pool.specs.Holes.{first_fit, has_room, holes_of}
use Rattle.extent_pool.specs.Placing.{better, fit, if_before}
use Rattle.extent_pool.specs.declared.extent.TheConstants.{UNIT}
use Rattle.extent_pool.specs.declared.extent.Extent.{Extent}
use Rattle.index_core.specs.Kept.{AreBlocks, laid}
use Rattle.mapping.specs.Mapping.{Mapping}
use Rattle.segment.specs.Live.{EntryState}
use Rattle.segment_builder.specs.Blocks.{blocks_in}
use Rattle.segment_parts.specs.Text.{segment_text}
use Rattle.segment_view.specs.Views.{HaveOwnIds}
use Rattle.store_text.specs.Header.{header_size}
use Rattle.store_text.specs.Record.{IsRecord, IsRow, record_size, record_text, row_size as text_row_size}
use Rattle.store_text.specs.declared.record.RecordText.{RecordText}
use Rattle.store_text.specs.declared.record.Row.{Row}
use Rattle.tree_json.specs.Text.{compact}
use Rattle.tree_json.specs.Value.{JsonValue}
use Rattle.commit_store.specs.declared.known.KnownSegment.{KnownSegment}
use Rattle.commit_store.specs.Known.{StoreState, IsStore, IsKnownSegment, known_extents}
use Rattle.commit_store.specs.Moving.{IsMovedTo, IsOfferedTo, SaysAsMuch, moved_into, named_planned}
use Rattle.commit_store.specs.declared.prepared.Planned.{Planned}
use Rattle.commit_store.specs.Planned.{all_planned, planned_seen}
use Rattle.commit_store.specs.Placed.{IsMoved, IsTakenFor}
use Rattle.commit_store.specs.Preparing.{PlannedSegment, PreparedState, IsAsKnown, IsCommitOf, IsPreparedBy, SaysView, header_extent, is_at, known_as, moves, new_extents, stays, stored_of, taken_by}
use Rattle.commit_store.specs.Saying.{Saying, StoredSegment, StoreCommit, AreExtents, IsGood, IsNewSegment, IsOfForm, IsSegmentOf, entries_from, entries_of, extent_of, extents_of, live_by, mapping_said, record_of, row_of}
use Rattle.commit_store.proofs.Apart.{HasBytes, disjoint_permuted}
use Rattle.commit_store.proofs.Committed.{IsLong, extents_are, planned_extents}
use Rattle.commit_store.proofs.Good.{RecordLength, first_part, known_among, second_part}
use Rattle.commit_store.proofs.Lists.{by_index, by_recursion}
use Rattle.commit_store.proofs.Once.{same_bodies}
use Rattle.commit_store.proofs.Planned.{known_all, known_one}
use Rattle.commit_store.proofs.Sizes.{text_some}
use Rattle.commit_store.proofs.Writing.{some_once}

abbrev planned_extent : PlannedSegment → Extent
planned_extent segment = segment.extent

-- ---- one segment of a list in another's place

pub all_set : (P : PlannedSegment → Type 0) (segments : List PlannedSegment) (place : ℕ) (own : PlannedSegment) → AllByRecursion P segments → P own → AllByRecursion P (slice_set segments place own)
all_set P [] place own all one = tt
all_set P (first ∷ segments) zero own all one = (one, all.1)
all_set P (first ∷ segments) (suc place) own all one = (all.0, all_set P segments place own all.1 one)

pub one_of : (P : PlannedSegment → Type 0) (segments : List PlannedSegment) (place : ℕ) (own : PlannedSegment) → AllByRecursion P segments → slice_get segments place ≡ Some own → P own
one_of P [] place own all there = absurd (none-some own there)
one_of P (first ∷ segments) zero own all there = subst P (some_once first own there) all.0
one_of P (first ∷ segments) (suc place) own all there = one_of P segments place own all.1 there

map_set : {B : Type 0} (f : PlannedSegment → B) (segments : List PlannedSegment) (place : ℕ) (own new : PlannedSegment) → slice_get segments place ≡ Some own → f own ≡ f new
    → map f (slice_set segments place new) ≡ map f segments
map_set f [] place own new there same = refl
map_set f (first ∷ segments) zero own new there same = ap (λ it. it ∷ map f segments) (sym same ∙ ap f (sym (some_once first own there)))
map_set f (first ∷ segments) (suc place) own new there same = ap (λ it. f first ∷ it) (map_set f segments place own new there same)

all_extents : (P : Extent → Type 0) (segments : List PlannedSegment) (place : ℕ) (own : PlannedSegment) → AllByRecursion P (map planned_extent segments) → P own.extent
    → AllByRecursion P (map planned_extent (slice_set segments place own))
all_extents P [] place own all one = tt
all_extents P (first ∷ segments) zero own all one = (one, all.1)
all_extents P (first ∷ segments) (suc place) own all one = (all.0, all_extents P segments place own all.1 one)

-- the segments as entries are what they were
entries_set : (segments : List PlannedSegment) (place id : ℕ) (own : PlannedSegment) (extent : Extent) → slice_get segments place ≡ Some own
    → entries_from id (map stored_of (slice_set segments place (moved_into extent own))) ≡ entries_from id (map stored_of segments)
entries_set [] place id own extent there = refl
entries_set (first ∷ segments) zero id own extent there =
    ap (λ (it : PlannedSegment). record { id = id; columns = it.entry.columns; live = live_by it.entry.columns it.live } ∷ entries_from (id + 1) (map stored_of segments)) (sym (some_once first own there))
entries_set (first ∷ segments) (suc place) id own extent there =
    ap (λ (rest : List EntryState). record { id = id; columns = first.entry.columns; live = live_by first.entry.columns first.live } ∷ rest) (entries_set segments place (id + 1) own extent there)

rows_set : (segments : List PlannedSegment) (place : ℕ) (own : PlannedSegment) (extent : Extent) → slice_get segments place ≡ Some own
    → sum_by text_row_size (map row_of (map stored_of (slice_set segments place (moved_into extent own)))) ≡ sum_by text_row_size (map row_of (map stored_of segments))
rows_set [] place own extent there = refl
rows_set (first ∷ segments) zero own extent there =
    sum_by-cons text_row_size (row_of (stored_of (moved_into extent own))) (map row_of (map stored_of segments))
    ∙ ap (λ (it : PlannedSegment). text_row_size (row_of (stored_of it)) + sum_by text_row_size (map row_of (map stored_of segments))) (sym (some_once first own there))
    ∙ sym (sum_by-cons text_row_size (row_of (stored_of first)) (map row_of (map stored_of segments)))
rows_set (first ∷ segments) (suc place) own extent there =
    sum_by-cons text_row_size (row_of (stored_of first)) (map row_of (map stored_of (slice_set segments place (moved_into extent own))))
    ∙ ap (λ (n : ℕ). text_row_size (row_of (stored_of first)) + n) (rows_set segments place own extent there)
    ∙ sym (sum_by-cons text_row_size (row_of (stored_of first)) (map row_of (map stored_of segments)))

-- ---- what is taken

swap_first : (one other : Extent) (rest : List Extent) → IsPermutation (one ∷ other ∷ rest) (other ∷ one ∷ rest)
swap_first one other rest = IsPermutation-sym (other ∷ one ∷ rest) (one ∷ other ∷ rest) (IsPermutation-middle (other ∷ []) one rest)

-- one segment more moves, and with it one extent more is new
moves_set : (segments : List PlannedSegment) (place : ℕ) (own new : PlannedSegment) → slice_get segments place ≡ Some own → moves own ≡ false → moves new ≡ true
    → IsPermutation (new.extent ∷ map planned_extent (filter moves segments)) (map planned_extent (filter moves (slice_set segments place new)))
moves_set [] place own new there stay move = absurd (none-some own there)
moves_set (first ∷ segments) zero own new there stay move =
    let here : moves first ≡ false = ap moves (some_once first own there) ∙ stay in
    subst (λ (it : Bool). IsPermutation (new.extent ∷ map planned_extent (cond it (first ∷ filter moves segments) (filter moves segments))) (map planned_extent (cond (moves new) (new ∷ filter moves segments) (filter moves segments)))) (sym here)
    (subst (λ (it : Bool). IsPermutation (new.extent ∷ map planned_extent (filter moves segments)) (map planned_extent (cond it (new ∷ filter moves segments) (filter moves segments)))) (sym move)
    (IsPermutation-refl (new.extent ∷ map planned_extent (filter moves segments))))
moves_set (first ∷ segments) (suc place) own new there stay move = by_first (moves first) (moves_set segments place own new there stay move)
  where
    by_first : (it : Bool) → IsPermutation (new.extent ∷ map planned_extent (filter moves segments)) (map planned_extent (filter moves (slice_set segments place new)))
        → IsPermutation (new.extent ∷ map planned_extent (cond it (first ∷ filter moves segments) (filter moves segments)))
        (map planned_extent (cond it (first ∷ filter moves (slice_set segments place new)) (filter moves (slice_set segments place new))))
    by_first true more =
        IsPermutation-trans (new.extent ∷ first.extent ∷ map planned_extent (filter moves segments)) (first.extent ∷ new.extent ∷ map planned_extent (filter moves segments))
        (first.extent ∷ map planned_extent (filter moves (slice_set segments place new)))
        (swap_first new.extent first.extent (map planned_extent (filter moves segments)))
        (IsPermutation-cons first.extent (new.extent ∷ map planned_extent (filter moves segments)) (map planned_extent (filter moves (slice_set segments place new))) more)
    by_first false more = more

-- what is taken by a moved commit
taken_set : (extent last : Extent) (ones others before taken new : List Extent) → IsPermutation (extent ∷ ones) others → IsPermutation ((ones ++ last ∷ []) ++ before) taken
    → IsPermutation (extent ∷ taken) new → IsPermutation ((others ++ last ∷ []) ++ before) new
taken_set extent last ones others before taken new more old now =
    IsPermutation-trans ((others ++ last ∷ []) ++ before) (extent ∷ ((ones ++ last ∷ []) ++ before)) new
    (IsPermutation-sym (extent ∷ ((ones ++ last ∷ []) ++ before)) ((others ++ last ∷ []) ++ before)
    (IsPermutation-append_left before ((extent ∷ ones) ++ last ∷ []) (others ++ last ∷ [])
    (IsPermutation-append_left (last ∷ []) (extent ∷ ones) others more)))
    (IsPermutation-trans (extent ∷ ((ones ++ last ∷ []) ++ before)) (extent ∷ taken) new (IsPermutation-cons extent ((ones ++ last ∷ []) ++ before) taken old) now)

-- a segment that stays stands where the store knows it
stays_known : (segment : PlannedSegment) (own : KnownSegment) → segment.entry ≡ own.entry → segment.before ≡ Some own.extent → IsKnownSegment own → IsLong segment → moves segment ≡ false
    → own.extent ≡ segment.extent
stays_known segment own entry before is long stay =
    let at : own.extent.at ≡ segment.extent.at = eqb-true own.extent.at segment.extent.at (ap (is_at segment.extent.at) (sym before) ∙ not_moves (stays segment) stay) in
    let len : own.extent.len ≡ segment.extent.len = is.long ∙ ap (λ (it : EntryState). length (segment_text it.columns)) (sym entry) ∙ sym long in
    ap (λ (n : ℕ). record { at = n; len = own.extent.len }) at ∙ ap (λ (n : ℕ). record { at = segment.extent.at; len = n }) len
  where
    not_moves : (it : Bool) → not it ≡ false → it ≡ true
    not_moves true same = refl
    not_moves false same = absurd (true≢false same)

-- what is so of all that is taken is so of each segment's extent
extents_all : (P : Extent → Type 0) (known : List KnownSegment) (segments : List PlannedSegment) → AllByRecursion (λ (segment : PlannedSegment). IsAsKnown segment (known_as known segment.entry.id)) segments
    → AllByRecursion IsLong segments → AllByRecursion IsKnownSegment known → AllByRecursion P (known_extents known) → AllByRecursion P (map planned_extent (filter moves segments))
    → AllByRecursion P (map planned_extent segments)
extents_all P known [] as_known long is all new = tt
extents_all P known (segment ∷ segments) as_known long is all new =
    by_move (moves segment) refl (λ rest. extents_all P known segments as_known.1 long.1 is all rest) new
  where
    by_known : (own : Option KnownSegment) → known_as known segment.entry.id ≡ own → IsAsKnown segment own → moves segment ≡ false → P segment.extent
    by_known None same none stay = absurd (true≢false (ap (λ (it : Option Extent). not (is_at segment.extent.at it)) (sym none) ∙ stay))
    by_known (Some own) same there stay =
        subst P (stays_known segment own there.0 there.1 (known_one IsKnownSegment known segment.entry.id own is same) long.0 stay) (known_all P known segment.entry.id own all same)

    by_move : (it : Bool) → moves segment ≡ it → (AllByRecursion P (map planned_extent (filter moves segments)) → AllByRecursion P (map planned_extent segments))
        → AllByRecursion P (map planned_extent (cond it (segment ∷ filter moves segments) (filter moves segments))) → AllByRecursion P (map planned_extent (segment ∷ segments))
    by_move true same rest all_new = (all_new.0, rest all_new.1)
    by_move false same rest all_new = (by_known (known_as known segment.entry.id) refl as_known.0 same, rest all_new)

taken_all : (P : Extent → Type 0) (store : StoreState) (prepared : PreparedState) → IsStore store → IsPreparedBy store prepared → AllByRecursion P (new_extents prepared ++ taken_by store)
    → AllByRecursion P (prepared.record_extent ∷ map planned_extent prepared.segments)
taken_all P store prepared is by all =
    let new : AllByRecursion P (new_extents prepared) = first_part P (new_extents prepared) (taken_by store) all in
    let named : AllByRecursion P store.named = (second_part P (new_extents prepared) (taken_by store) all).1 in (
      (second_part P (map planned_extent (filter moves prepared.segments)) (prepared.record_extent ∷ []) new).0,
      extents_all P store.known prepared.segments by.known by.long is.segments (known_among P store.side store.known store.named is.names named)
          (first_part P (map planned_extent (filter moves prepared.segments)) (prepared.record_extent ∷ []) new),
    )

-- ---- bytes that one extent has

abbrev mark : Bool → ℕ
mark it = cond it 1 0

one_more : (test : Extent → Bool) (first : Extent) (others : List Extent) → count_by test (first ∷ others) ≡ cond (test first) 1 0 + count_by test others
one_more test first others = sum_by-cons (λ (it : Extent). cond (test it) 1 0) first others

none_pass : (test : Extent → Bool) (extents : List Extent) → count_by test extents ≤ 0 → AllByRecursion (λ (it : Extent). test it ≡ false) extents
none_pass test [] none = tt
none_pass test (extent ∷ extents) none =
    (by_test (test extent) refl, none_pass test extents (omega (arith, none, one_more test extent extents)))
  where
    by_test : (it : Bool) → test extent ≡ it → test extent ≡ false
    by_test true same = absurd (omega (arith, none, one_more test extent extents, ap mark same))
    by_test false same = same

none_counted : (test : Extent → Bool) (extents : List Extent) → AllByRecursion (λ (it : Extent). test it ≡ false) extents → count_by test extents ≡ 0
none_counted test [] none = refl
none_counted test (extent ∷ extents) none = omega (arith, one_more test extent extents, ap mark none.0, none_counted test extents none.1)

-- of the extents no more pass than before, but for the new one
counted_set : (test : Extent → Bool) (segments : List PlannedSegment) (place : ℕ) (new : PlannedSegment)
    → count_by test (map planned_extent (slice_set segments place new)) ≤ cond (test new.extent) 1 0 + count_by test (map planned_extent segments)
counted_set test [] place new = omega arith
counted_set test (first ∷ segments) zero new =
    let here = one_more test new.extent (map planned_extent segments) in
    let there = one_more test first.extent (map planned_extent segments) in
    omega (arith, here, there)
counted_set test (first ∷ segments) (suc place) new =
    let here = one_more test first.extent (map planned_extent (slice_set segments place new)) in
    let there = one_more test first.extent (map planned_extent segments) in
    let more = counted_set test segments place new in
    omega (arith, here, there, more)

-- where one of disjoint extents has a byte, no other has it
alone : (byte : ℕ) (extent : Extent) (extents : List Extent) → AreDisjoint (extent ∷ extents) → keeps byte extent ≡ true → AllByRecursion (λ (it : Extent). keeps byte it ≡ false) extents
alone byte extent extents disjoint own =
    none_pass (keeps byte) extents (omega (arith, disjoint.one_at_most byte, one_more (keeps byte) extent extents, ap mark own))

disjoint_set : (store : StoreState) (prepared : PreparedState) (place : ℕ) (new : PlannedSegment) → IsStore store → IsPreparedBy store prepared
    → AreDisjoint (prepared.record_extent ∷ map planned_extent prepared.segments) → AreDisjoint (new.extent ∷ (new_extents prepared ++ taken_by store))
    → AreDisjoint (prepared.record_extent ∷ map planned_extent (slice_set prepared.segments place new))
disjoint_set store prepared place new is by old taken = record { one_at_most = λ byte. by_byte byte (keeps byte new.extent) refl }
  where
    by_byte : (byte : ℕ) (it : Bool) → keeps byte new.extent ≡ it → count_by (keeps byte) (prepared.record_extent ∷ map planned_extent (slice_set prepared.segments place new)) ≤ 1
    by_byte byte true own =
        let none = none_counted (keeps byte) (prepared.record_extent ∷ map planned_extent prepared.segments)
        (taken_all (λ (it : Extent). keeps byte it ≡ false) store prepared is by (alone byte new.extent (new_extents prepared ++ taken_by store) taken own)) in
        let more = counted_set (keeps byte) prepared.segments place new in
        let here = one_more (keeps byte) prepared.record_extent (map planned_extent (slice_set prepared.segments place new)) in
        let there = one_more (keeps byte) prepared.record_extent (map planned_extent prepared.segments) in
        omega (arith, none, more, here, there, ap mark own)
    by_byte byte false own =
        let most = old.one_at_most byte in
        let more = counted_set (keeps byte) prepared.segments place new in
        let here = one_more (keeps byte) prepared.record_extent (map planned_extent (slice_set prepared.segments place new)) in
        let there = one_more (keeps byte) prepared.record_extent (map planned_extent prepared.segments) in
        omega (arith, most, more, here, there, ap mark own)

begins_inside : (extent : Extent) → 1 ≤ extent.len → keeps extent.at extent ≡ true
begins_inside extent some = grind arith

header_keeps : (byte : ℕ) → byte < 2_048 → keeps byte header_extent ≡ true
header_keeps byte less = grind arith

behind_set : (store : StoreState) (prepared : PreparedState) (extent : Extent) → 1 ≤ extent.len → AreDisjoint (extent ∷ (new_extents prepared ++ taken_by store)) → header_size ≤ extent.at
behind_set store prepared extent some disjoint =
    ⊎_elim
    (λ (inside : extent.at < 2_048).
    let others = alone extent.at extent (new_extents prepared ++ taken_by store) disjoint (begins_inside extent some) in
    let apart = second_part (λ (it : Extent). keeps extent.at it ≡ false) (new_extents prepared) (taken_by store) others in
    absurd (false≢true (sym apart.0 ∙ header_keeps extent.at inside)))
    (λ (behind : 2_048 ≤ extent.at). behind)
    (cases_lt extent.at 2_048)

-- ---- the better extent

fit_length : (len : ℕ) (holes : List Extent) (extent : Extent) → first_fit len holes ≡ Some extent → extent.len ≡ len
fit_length len holes extent same = by_hole (find (has_room len) holes) same
  where
    by_hole : (hole : Option Extent) → option_map (λ (it : Extent). record { at = it.at; len = len }) hole ≡ Some extent → extent.len ≡ len
    by_hole None is = absurd (none-some extent is)
    by_hole (Some hole) is = ap (λ (it : Option Extent). (unwrap_or it (record { at = 0; len = len })).len) (sym is)

abbrev IsBefore : ℕ → Option Extent → Extent → Type 0
IsBefore place found extent = (found ≡ Some extent) × (extent.at < place)

before_is : (place : ℕ) (found : Option Extent) (extent : Extent) → if_before place found ≡ Some extent → IsBefore place found extent
before_is place None extent same = absurd (none-some extent same)
before_is place (Some own) extent same = by_order (nat_lt own.at place) refl same
  where
    by_order : (it : Bool) → nat_lt own.at place ≡ it → cond it (Some own) None ≡ Some extent → IsBefore place (Some own) extent
    by_order true less is = (is, subst (λ (one : Extent). one.at < place) (some_once own extent is) (ltb-true own.at place less))
    by_order false less is = absurd (none-some extent is)

-- ---- the commit

-- a commit that is prepared, with a segment in another extent
abbrev pub moved_state : PreparedState → PlannedSegment → Extent → ℕ → List Extent → PreparedState
moved_state old segment extent place taken = record {
  limit = old.limit;
  bodies = old.bodies;
  dynamic = old.dynamic;
  next = old.next;
  segments = slice_set old.segments place (moved_into extent segment);
  record_extent = old.record_extent;
  taken = taken;
}

moved_state_is : (old new : PreparedState) (segment : PlannedSegment) (extent : Extent) (place : ℕ) → IsMovedTo segment extent place old new → moved_state old segment extent place new.taken ≡ new
moved_state_is old new segment extent place it =
    let segments : List PlannedSegment = slice_set old.segments place (moved_into extent segment) in
    ap (λ (n : ℕ). record { limit = n; bodies = old.bodies; dynamic = old.dynamic; next = old.next; segments = segments; record_extent = old.record_extent; taken = new.taken }) (sym it.limit)
    ∙ ap (λ (own : List (List ℕ)). record { limit = new.limit; bodies = own; dynamic = old.dynamic; next = old.next; segments = segments; record_extent = old.record_extent; taken = new.taken }) (sym it.bodies)
    ∙ ap (λ (own : Bool). record { limit = new.limit; bodies = new.bodies; dynamic = own; next = old.next; segments = segments; record_extent = old.record_extent; taken = new.taken }) (sym it.dynamic)
    ∙ ap (λ (n : ℕ). record { limit = new.limit; bodies = new.bodies; dynamic = new.dynamic; next = n; segments = segments; record_extent = old.record_extent; taken = new.taken }) (sym it.next)
    ∙ ap (λ (own : List PlannedSegment). record { limit = new.limit; bodies = new.bodies; dynamic = new.dynamic; next = new.next; segments = own; record_extent = old.record_extent; taken = new.taken }) (sym it.segments)
    ∙ ap (λ (own : Extent). record { limit = new.limit; bodies = new.bodies; dynamic = new.dynamic; next = new.next; segments = new.segments; record_extent = own; taken = new.taken }) (sym it.record_extent)

-- what the commit says then
abbrev says_moved : StoreCommit → List PlannedSegment → Saying
says_moved c segments = record { old = c.says.old; bodies = c.says.bodies; dynamic = c.says.dynamic; next = c.says.next; segments = map stored_of segments }

abbrev commit_moved : StoreCommit → Extent → List PlannedSegment → StoreCommit
commit_moved c record_extent segments = record {
  side = c.side;
  generation = c.generation;
  body = record { at = record_extent.at; bytes = record_text (record_of (says_moved c segments)) };
  segments = map (λ (it : StoredSegment). it.piece) (map stored_of segments);
  says = says_moved c segments;
}

-- what is known where a segment is moved
pub record IsMoving (store : StoreState) (old : PreparedState) (segment : PlannedSegment) (extent : Extent) (place : ℕ) (taken : List Extent) : Type 0 where
  pub is : IsStore store
  pub by : IsPreparedBy store old
  pub there : slice_get old.segments place ≡ Some segment
  pub stayed : segment.before ≡ Some segment.extent
  pub better_is : better old.limit old.taken (named_planned segment) ≡ Some extent
  pub taken_are : IsPermutation (extent ∷ old.taken) taken
  pub in_order : AreInOrder old.limit taken
  pub disjoint : AreDisjoint taken

segment_long : (store : StoreState) (old : PreparedState) (segment : PlannedSegment) (extent : Extent) (place : ℕ) (taken : List Extent) → IsMoving store old segment extent place taken → IsLong segment
segment_long store old segment extent place taken it = one_of IsLong old.segments place segment it.by.long it.there

new_long : (store : StoreState) (old : PreparedState) (segment : PlannedSegment) (extent : Extent) (place : ℕ) (taken : List Extent) → IsMoving store old segment extent place taken
    → extent.len ≡ segment.extent.len
new_long store old segment extent place taken it =
    fit_length segment.extent.len (holes_of old.limit old.taken) extent (before_is segment.extent.at (fit old.limit old.taken segment.extent.len) extent it.better_is).0

new_before : (store : StoreState) (old : PreparedState) (segment : PlannedSegment) (extent : Extent) (place : ℕ) (taken : List Extent) → IsMoving store old segment extent place taken
    → extent.at < segment.extent.at
new_before store old segment extent place taken it = (before_is segment.extent.at (fit old.limit old.taken segment.extent.len) extent it.better_is).1

new_some : (store : StoreState) (old : PreparedState) (segment : PlannedSegment) (extent : Extent) (place : ℕ) (taken : List Extent) → IsMoving store old segment extent place taken → 1 ≤ extent.len
new_some store old segment extent place taken it =
    omega (arith, new_long store old segment extent place taken it, segment_long store old segment extent place taken it, text_some segment.entry.columns)

-- it stayed, and moves now
stayed_is : (store : StoreState) (old : PreparedState) (segment : PlannedSegment) (extent : Extent) (place : ℕ) (taken : List Extent) → IsMoving store old segment extent place taken → moves segment ≡ false
stayed_is store old segment extent place taken it =
    ap (λ (before : Option Extent). not (is_at segment.extent.at before)) it.stayed ∙ ap not (eq-eqb segment.extent.at segment.extent.at refl)

moves_now : (store : StoreState) (old : PreparedState) (segment : PlannedSegment) (extent : Extent) (place : ℕ) (taken : List Extent) → IsMoving store old segment extent place taken
    → moves (moved_into extent segment) ≡ true
moves_now store old segment extent place taken it =
    ap (λ (before : Option Extent). not (is_at extent.at before)) it.stayed
    ∙ ap not (ne_eqb segment.extent.at extent.at (λ same. absurd (omega (arith, same, new_before store old segment extent place taken it))))

-- the new extent is disjoint from all that was taken
disjoint_taken : (store : StoreState) (old : PreparedState) (segment : PlannedSegment) (extent : Extent) (place : ℕ) (taken : List Extent) → IsMoving store old segment extent place taken
    → AreDisjoint (extent ∷ (new_extents old ++ taken_by store))
disjoint_taken store old segment extent place taken it =
    disjoint_permuted (extent ∷ (new_extents old ++ taken_by store)) (extent ∷ old.taken) (IsPermutation-cons extent (new_extents old ++ taken_by store) old.taken it.by.taken)
    (disjoint_permuted (extent ∷ old.taken) taken it.taken_are it.disjoint)

-- what is so of all extents in the new list of taken ones is so of the new extent
new_one : (P : Extent → Type 0) (store : StoreState) (old : PreparedState) (segment : PlannedSegment) (extent : Extent) (place : ℕ) (taken : List Extent) → IsMoving store old segment extent place taken
    → All P taken → P extent
new_one P store old segment extent place taken it all =
    All-head P extent old.taken (All-permutation P taken (extent ∷ old.taken) (IsPermutation-sym (extent ∷ old.taken) taken it.taken_are) all)

old_places : (store : StoreState) (old : PreparedState) → IsPreparedBy store old → AreExtents store.limit (old.record_extent ∷ map planned_extent old.segments)
old_places store old by =
    subst (AreExtents store.limit) (extents_are store old by.commit.0 by by.commit.1) by.commit.1.good.places

set_all : (P : Extent → Type 0) (store : StoreState) (old : PreparedState) (segment : PlannedSegment) (extent : Extent) (place : ℕ) → All P (old.record_extent ∷ map planned_extent old.segments) → P extent
    → All P (old.record_extent ∷ map planned_extent (slice_set old.segments place (moved_into extent segment)))
set_all P store old segment extent place all one =
    let own : AllByRecursion P (old.record_extent ∷ map planned_extent old.segments) = by_recursion P (old.record_extent ∷ map planned_extent old.segments) all in
    by_index P (old.record_extent ∷ map planned_extent (slice_set old.segments place (moved_into extent segment)))
    (own.0, all_extents P old.segments place (moved_into extent segment) own.1 one)

new_places : (store : StoreState) (old : PreparedState) (segment : PlannedSegment) (extent : Extent) (place : ℕ) (taken : List Extent) → IsMoving store old segment extent place taken
    → AreExtents store.limit (old.record_extent ∷ map planned_extent (slice_set old.segments place (moved_into extent segment)))
new_places store old segment extent place taken it =
    let places = old_places store old it.by in
    let within : end_of extent ≤ store.limit = subst (λ (n : ℕ). end_of extent ≤ n) it.by.limit (new_one (λ (own : Extent). end_of own ≤ old.limit) store old segment extent place taken it it.in_order.within) in
    record {
      aligned = set_all (λ (own : Extent). own.at % UNIT ≡ 0) store old segment extent place places.aligned (new_one (λ (own : Extent). own.at % UNIT ≡ 0) store old segment extent place taken it it.in_order.aligned);
      behind =
          set_all (λ (own : Extent). header_size ≤ own.at) store old segment extent place places.behind
          (behind_set store old extent (new_some store old segment extent place taken it) (disjoint_taken store old segment extent place taken it));
      some = set_all HasBytes store old segment extent place places.some (new_some store old segment extent place taken it);
      within = set_all (λ (own : Extent). end_of own ≤ store.limit) store old segment extent place places.within within;
      disjoint = disjoint_set store old place (moved_into extent segment) it.is it.by places.disjoint (disjoint_taken store old segment extent place taken it);
    }

-- ---- the record

row_set : (segment : PlannedSegment) (extent : Extent) → extent.at < 2 ^ 64 → IsRow (row_of (stored_of segment)) → IsRow (row_of (stored_of (moved_into extent segment)))
row_set segment extent at is = record { at = at; len = is.len; few = is.few; indexes = is.indexes; ascending = is.ascending }

rows_mapped : (segments : List PlannedSegment) → AllByRecursion IsRow (map row_of (map stored_of segments)) → AllByRecursion (λ (it : PlannedSegment). IsRow (row_of (stored_of it))) segments
rows_mapped [] all = tt
rows_mapped (segment ∷ segments) all = (all.0, rows_mapped segments all.1)

mapped_rows : (segments : List PlannedSegment) → AllByRecursion (λ (it : PlannedSegment). IsRow (row_of (stored_of it))) segments → AllByRecursion IsRow (map row_of (map stored_of segments))
mapped_rows [] all = tt
mapped_rows (segment ∷ segments) all = (all.0, mapped_rows segments all.1)

rows_many : (segments : List PlannedSegment) → length (map row_of (map stored_of segments)) ≡ length segments
rows_many [] = refl
rows_many (segment ∷ segments) = ap suc (rows_many segments)

stored_many : (segments : List PlannedSegment) → length (map stored_of segments) ≡ length segments
stored_many [] = refl
stored_many (segment ∷ segments) = ap suc (stored_many segments)

set_many : (segments : List PlannedSegment) (place : ℕ) (own : PlannedSegment) → length (slice_set segments place own) ≡ length segments
set_many [] place own = refl
set_many (first ∷ segments) zero own = refl
set_many (first ∷ segments) (suc place) own = ap suc (set_many segments place own)

-- the record of the commit before
record_before : (c : StoreCommit) (segments : List PlannedSegment) → c.says.segments ≡ map stored_of segments → record_of c.says ≡ record_of (says_moved c segments)
record_before c segments same =
    ap (λ (it : List StoredSegment). record { old = c.says.old; next = c.says.next; dynamic = c.says.dynamic; bodies = map compact c.says.bodies; rows = map row_of it }) same

numbers_set : (store : StoreState) (old : PreparedState) (segment : PlannedSegment) (extent : Extent) (place : ℕ) (taken : List Extent) (c : StoreCommit) → IsMoving store old segment extent place taken
    → IsCommitOf store old c → IsRecord (record_of (says_moved c (slice_set old.segments place (moved_into extent segment))))
numbers_set store old segment extent place taken c it is =
    let before : IsRecord (record_of (says_moved c old.segments)) = subst IsRecord (record_before c old.segments is.segments) is.good.numbers in
    let rows : AllByRecursion (λ (own : PlannedSegment). IsRow (row_of (stored_of own))) old.segments
    = rows_mapped old.segments (by_recursion IsRow (map row_of (map stored_of old.segments)) before.rows) in
    let within : end_of extent ≤ old.limit = new_one (λ (own : Extent). end_of own ≤ old.limit) store old segment extent place taken it it.in_order.within in
    let moved : List PlannedSegment = slice_set old.segments place (moved_into extent segment) in
    record {
      next = before.next;
      bodies = before.bodies;
      few = omega (arith, before.few, rows_many old.segments, rows_many moved, set_many old.segments place (moved_into extent segment));
      rows =
          by_index IsRow (map row_of (map stored_of moved))
          (mapped_rows moved
          (all_set (λ (own : PlannedSegment). IsRow (row_of (stored_of own))) old.segments place (moved_into extent segment) rows
          (row_set segment extent (omega (arith, within, it.by.limit, it.is.limit)) (one_of (λ (own : PlannedSegment). IsRow (row_of (stored_of own))) old.segments place segment rows it.there))));
      old = λ own. absurd (true≢false (sym own ∙ is.old));
    }

sizes_set : (c : StoreCommit) (segments : List PlannedSegment) (place : ℕ) (segment : PlannedSegment) (extent : Extent) → slice_get segments place ≡ Some segment
    → record_size (record_of (says_moved c (slice_set segments place (moved_into extent segment)))) ≡ record_size (record_of (says_moved c segments))
unfolding record_size
sizes_set c segments place segment extent there = let rows = rows_set segments place segment extent there in omega (arith, rows)

length_set : RecordLength → (store : StoreState) (old : PreparedState) (segment : PlannedSegment) (extent : Extent) (place : ℕ) (c : StoreCommit) → IsCommitOf store old c
    → slice_get old.segments place ≡ Some segment
    → length (record_text (record_of (says_moved c (slice_set old.segments place (moved_into extent segment))))) ≡ old.record_extent.len
length_set law store old segment extent place c is there =
    law (record_of (says_moved c (slice_set old.segments place (moved_into extent segment))))
    ∙ sizes_set c old.segments place segment extent there
    ∙ sym (law (record_of (says_moved c old.segments)))
    ∙ ap (λ (it : RecordText). length (record_text it)) (sym (record_before c old.segments is.segments))
    ∙ ap length (sym is.good.text)
    ∙ ap (λ (it : Extent). it.len) is.record_extent

-- ---- the commit that it is now

all_stored : (P : StoredSegment → Type 0) (segments : List PlannedSegment) → AllByRecursion P (map stored_of segments) → AllByRecursion (λ (it : PlannedSegment). P (stored_of it)) segments
all_stored P [] all = tt
all_stored P (segment ∷ segments) all = (all.0, all_stored P segments all.1)

stored_all : (P : StoredSegment → Type 0) (segments : List PlannedSegment) → AllByRecursion (λ (it : PlannedSegment). P (stored_of it)) segments → AllByRecursion P (map stored_of segments)
stored_all P [] all = tt
stored_all P (segment ∷ segments) all = (all.0, stored_all P segments all.1)

-- what is so of each stored segment, and of the moved one where it is so of the one before, is so of each of the new ones
stored_set : (P : StoredSegment → Type 0) (old : PreparedState) (segment : PlannedSegment) (extent : Extent) (place : ℕ) → slice_get old.segments place ≡ Some segment
    → (P (stored_of segment) → P (stored_of (moved_into extent segment))) → AllByRecursion P (map stored_of old.segments)
    → AllByRecursion P (map stored_of (slice_set old.segments place (moved_into extent segment)))
stored_set P old segment extent place there moved all =
    let own : AllByRecursion (λ (it : PlannedSegment). P (stored_of it)) old.segments = all_stored P old.segments all in
    stored_all P (slice_set old.segments place (moved_into extent segment))
    (all_set (λ (it : PlannedSegment). P (stored_of it)) old.segments place (moved_into extent segment) own (moved (one_of (λ (it : PlannedSegment). P (stored_of it)) old.segments place segment own there)))

form_set : (store : StoreState) (old : PreparedState) (segment : PlannedSegment) (extent : Extent) (place : ℕ) (c : StoreCommit) → IsCommitOf store old c → slice_get old.segments place ≡ Some segment
    → IsOfForm c.says.old (says_moved c (slice_set old.segments place (moved_into extent segment)))
form_set store old segment extent place c is there =
    let before : AllByRecursion IsNewSegment (map stored_of old.segments)
    = subst (λ (it : List StoredSegment). AllByRecursion IsNewSegment it) is.segments (subst (λ (it : Bool). IsOfForm it c.says) is.old is.good.form) in
    subst (λ (it : Bool). IsOfForm it (says_moved c (slice_set old.segments place (moved_into extent segment)))) (sym is.old)
    (stored_set IsNewSegment old segment extent place there (λ own. record { are = own.are; text = own.text }) before)

entries_moved : (store : StoreState) (old : PreparedState) (segment : PlannedSegment) (extent : Extent) (place : ℕ) (c : StoreCommit) → IsCommitOf store old c → slice_get old.segments place ≡ Some segment
    → entries_of c ≡ entries_from 0 (map stored_of (slice_set old.segments place (moved_into extent segment)))
entries_moved store old segment extent place c is there =
    ap (entries_from 0) is.segments ∙ sym (entries_set old.segments place 0 segment extent there)

blocks_set : (store : StoreState) (old : PreparedState) (segment : PlannedSegment) (extent : Extent) (place : ℕ) (c : StoreCommit) → IsCommitOf store old c → slice_get old.segments place ≡ Some segment
    → AreBlocks (laid (entries_from 0 (map stored_of (slice_set old.segments place (moved_into extent segment)))) []
    (length (map stored_of (slice_set old.segments place (moved_into extent segment))))) c.says.next
blocks_set store old segment extent place c is there =
    let moved : List PlannedSegment = slice_set old.segments place (moved_into extent segment) in
    let many : length c.says.segments ≡ length (map stored_of moved)
    = ap length is.segments ∙ stored_many old.segments ∙ sym (set_many old.segments place (moved_into extent segment)) ∙ sym (stored_many moved) in
    subst (λ (n : ℕ). AreBlocks (laid (entries_from 0 (map stored_of moved)) [] n) c.says.next) many
    (subst (λ (it : List EntryState). AreBlocks (laid it [] (length c.says.segments)) c.says.next) (entries_moved store old segment extent place c is there) is.good.blocks)

extents_moved : RecordLength → (store : StoreState) (old : PreparedState) (segment : PlannedSegment) (extent : Extent) (place : ℕ) (taken : List Extent) (c : StoreCommit)
    → IsMoving store old segment extent place taken → IsCommitOf store old c → AllByRecursion IsLong (slice_set old.segments place (moved_into extent segment))
    → extents_of (commit_moved c old.record_extent (slice_set old.segments place (moved_into extent segment)))
    ≡ old.record_extent ∷ map planned_extent (slice_set old.segments place (moved_into extent segment))
extents_moved law store old segment extent place taken c it is long =
    let moved : List PlannedSegment = slice_set old.segments place (moved_into extent segment) in
    ap (λ (n : ℕ). record { at = old.record_extent.at; len = n } ∷ map extent_of (map (λ (own : StoredSegment). own.piece) (map stored_of moved))) (length_set law store old segment extent place c is it.there)
    ∙ ap (λ (extents : List Extent). old.record_extent ∷ extents) (planned_extents moved long)

good_moved : RecordLength → (store : StoreState) (old : PreparedState) (segment : PlannedSegment) (extent : Extent) (place : ℕ) (taken : List Extent) (c : StoreCommit)
    → IsMoving store old segment extent place taken → IsCommitOf store old c → AllByRecursion IsLong (slice_set old.segments place (moved_into extent segment))
    → IsGood store.limit (commit_moved c old.record_extent (slice_set old.segments place (moved_into extent segment)))
good_moved law store old segment extent place taken c it is long =
    let moved : List PlannedSegment = slice_set old.segments place (moved_into extent segment) in
    record {
      first = is.good.first;
      last = is.good.last;
      numbers = numbers_set store old segment extent place taken c it is;
      text = refl;
      pieces = refl;
      places = subst (AreExtents store.limit) (sym (extents_moved law store old segment extent place taken c it is long)) (new_places store old segment extent place taken it);
      mapping = is.good.mapping;
      read = is.good.read;
      form = form_set store old segment extent place c is it.there;
      segments =
          stored_set (IsSegmentOf (mapping_said c.says)) old segment extent place it.there (λ own. record { fits = own.fits; marks = own.marks; sources = own.sources })
          (subst (λ (own : List StoredSegment). AllByRecursion (IsSegmentOf (mapping_said c.says)) own) is.segments is.good.segments);
      blocks = blocks_set store old segment extent place c is it.there;
      next = is.good.next;
    }

long_moved : (store : StoreState) (old : PreparedState) (segment : PlannedSegment) (extent : Extent) (place : ℕ) (taken : List Extent) → IsMoving store old segment extent place taken
    → AllByRecursion IsLong (slice_set old.segments place (moved_into extent segment))
long_moved store old segment extent place taken it =
    all_set IsLong old.segments place (moved_into extent segment) it.by.long
    (new_long store old segment extent place taken it ∙ segment_long store old segment extent place taken it)

commit_of_moved : RecordLength → (store : StoreState) (old : PreparedState) (segment : PlannedSegment) (extent : Extent) (place : ℕ) (taken : List Extent) (c : StoreCommit)
    → IsMoving store old segment extent place taken → IsCommitOf store old c
    → IsCommitOf store (moved_state old segment extent place taken) (commit_moved c old.record_extent (slice_set old.segments place (moved_into extent segment)))
commit_of_moved law store old segment extent place taken c it is = record {
  side = is.side;
  generation = is.generation;
  old = is.old;
  bodies = is.bodies;
  dynamic = is.dynamic;
  next = is.next;
  segments = refl;
  record_extent = ap (λ (n : ℕ). record { at = old.record_extent.at; len = n }) (length_set law store old segment extent place c is it.there);
  good = good_moved law store old segment extent place taken c it is (long_moved store old segment extent place taken it);
}

-- The commit with the segment moved is again prepared by the store.
pub moved_by : RecordLength → (store : StoreState) (old : PreparedState) (segment : PlannedSegment) (extent : Extent) (place : ℕ) (taken : List Extent)
    → IsMoving store old segment extent place taken → IsPreparedBy store (moved_state old segment extent place taken)
moved_by law store old segment extent place taken it =
    let new : PlannedSegment = moved_into extent segment in
    record {
      closed = it.by.closed;
      below = it.by.below;
      ids = subst HaveOwnIds (sym (map_set (λ (own : PlannedSegment). own.entry) old.segments place segment new it.there refl)) it.by.ids;
      known =
          all_set (λ (own : PlannedSegment). IsAsKnown own (known_as store.known own.entry.id)) old.segments place new it.by.known
          (as_known (known_as store.known segment.entry.id)
          (one_of (λ (own : PlannedSegment). IsAsKnown own (known_as store.known own.entry.id)) old.segments place segment it.by.known it.there));
      long = long_moved store old segment extent place taken it;
      limit = it.by.limit;
      taken =
          taken_set extent old.record_extent (map planned_extent (filter moves old.segments)) (map planned_extent (filter moves (slice_set old.segments place new))) (taken_by store) old.taken taken
          (moves_set old.segments place segment new it.there (stayed_is store old segment extent place taken it) (moves_now store old segment extent place taken it))
          it.by.taken it.taken_are;
      disjoint = it.disjoint;
      commit = (
        commit_moved it.by.commit.0 old.record_extent (slice_set old.segments place new),
        commit_of_moved law store old segment extent place taken it.by.commit.0 it it.by.commit.1,
      );
    }
  where
    as_known : (own : Option KnownSegment) → IsAsKnown segment own → IsAsKnown (moved_into extent segment) own
    as_known None is = is
    as_known (Some own) is = is

-- ---- what it says

-- whatever each commit of the one says, each commit of the other says
pub moved_says : (store : StoreState) (old : PreparedState) (segment : PlannedSegment) (extent : Extent) (place : ℕ) (taken : List Extent)
    → IsMoving store old segment extent place taken → SaysAsMuch store old (moved_state old segment extent place taken)
moved_says store old segment extent place taken it m next view says c is =
    let before : StoreCommit = it.by.commit.0 in
    let own : IsCommitOf store old before = it.by.commit.1 in
    let said : SaysView m next view before = says before own in
    record {
      bodies = same_bodies c.says.bodies before.says.bodies is.good.read own.good.read (is.bodies ∙ sym own.bodies) ∙ said.bodies;
      dynamic = is.dynamic ∙ sym own.dynamic ∙ said.dynamic;
      next_is = is.next ∙ sym own.next ∙ said.next_is;
      blocks =
          ap (λ (segments : List StoredSegment). map blocks_in (entries_from 0 segments)) is.segments
          ∙ ap (map blocks_in) (sym (entries_moved store old segment extent place before own it.there))
          ∙ said.blocks;
    }

pub says_same : (store : StoreState) (one other : PreparedState) → other ≡ one → SaysAsMuch store one other
says_same store one other same m next view says c is = says c (subst (λ (it : PreparedState). IsCommitOf store it c) same is)

-- ---- as what a call leaves

-- a commit that is prepared, with its segments and its pool
abbrev pub state_with : PreparedState → List PlannedSegment → Pool → PreparedState
state_with it segments pool = record {
  limit = pool.limit;
  bodies = it.bodies;
  dynamic = it.dynamic;
  next = it.next;
  segments = segments;
  record_extent = it.record_extent;
  taken = pool.taken;
}

pub stays_moving : (store : StoreState) (it : PreparedState) (segments : List PlannedSegment) (own new : PlannedSegment) (place : ℕ) (before after : Pool) (extent : Extent) → IsStore store
    → IsPreparedBy store (state_with it segments before) → slice_get segments place ≡ Some own → own.before ≡ Some own.extent → IsTakenFor extent own new before after
    → IsMoving store (state_with it segments before) own extent place after.taken
stays_moving store it segments own new place before after extent is by there stayed taken = record {
  is = is;
  by = by;
  there = there;
  stayed = stayed;
  better_is = taken.better_is;
  taken_are = taken.taken;
  in_order = subst (λ (n : ℕ). AreInOrder n after.taken) taken.limit taken.in_order;
  disjoint = taken.disjoint;
}

-- what the moved state is, by its segments and its pool
state_moved : (it : PreparedState) (segments : List PlannedSegment) (own new : PlannedSegment) (place : ℕ) (before after : Pool) (extent : Extent) → IsTakenFor extent own new before after
    → moved_state (state_with it segments before) own extent place after.taken ≡ state_with it (slice_set segments place new) after
state_moved it segments own new place before after extent taken =
    ap (λ (one : PlannedSegment). record { limit = before.limit; bodies = it.bodies; dynamic = it.dynamic; next = it.next; segments = slice_set segments place one; record_extent = it.record_extent; taken = after.taken }) (sym taken.segment)
    ∙ ap (λ (n : ℕ). record { limit = n; bodies = it.bodies; dynamic = it.dynamic; next = it.next; segments = slice_set segments place new; record_extent = it.record_extent; taken = after.taken }) (sym taken.limit)

-- nothing was changed
state_kept : (it : PreparedState) (segments : List PlannedSegment) (own new : PlannedSegment) (place : ℕ) (before after : Pool) → slice_get segments place ≡ Some own → new ≡ own → after ≡ before
    → state_with it (slice_set segments place new) after ≡ state_with it segments before
state_kept it segments own new place before after there same pool =
    ap (λ (one : PlannedSegment). state_with it (slice_set segments place one) after) same
    ∙ ap (λ (all : List PlannedSegment). state_with it all after) (set_own segments place own there)
    ∙ ap (state_with it segments) pool
  where
    set_own : (all : List PlannedSegment) (at : ℕ) (one : PlannedSegment) → slice_get all at ≡ Some one → slice_set all at one ≡ all
    set_own [] at one found = refl
    set_own (first ∷ all) zero one found = ap (λ (it : PlannedSegment). it ∷ all) (sym (some_once first one found))
    set_own (first ∷ all) (suc at) one found = ap (λ (rest : List PlannedSegment). first ∷ rest) (set_own all at one found)

pub offered_by : RecordLength → (store : StoreState) (it : PreparedState) (segments : List PlannedSegment) (own new : PlannedSegment) (place : ℕ) (before after : Pool) (moved : Bool) → IsStore store
    → IsPreparedBy store (state_with it segments before) → slice_get segments place ≡ Some own → own.before ≡ Some own.extent → IsMoved moved own new before after
    → IsPreparedBy store (state_with it (slice_set segments place new) after)
offered_by law store it segments own new place before after true is by there stayed to =
    subst (IsPreparedBy store) (state_moved it segments own new place before after to.0 to.1)
    (moved_by law store (state_with it segments before) own to.0 place after.taken (stays_moving store it segments own new place before after to.0 is by there stayed to.1))
offered_by law store it segments own new place before after false is by there stayed to =
    subst (IsPreparedBy store) (sym (state_kept it segments own new place before after there to.1 to.2)) by

pub offered_says : (store : StoreState) (it : PreparedState) (segments : List PlannedSegment) (own new : PlannedSegment) (place : ℕ) (before after : Pool) (moved : Bool) → IsStore store
    → IsPreparedBy store (state_with it segments before) → slice_get segments place ≡ Some own → own.before ≡ Some own.extent → IsMoved moved own new before after
    → SaysAsMuch store (state_with it segments before) (state_with it (slice_set segments place new) after)
offered_says store it segments own new place before after true is by there stayed to =
    subst (SaysAsMuch store (state_with it segments before)) (state_moved it segments own new place before after to.0 to.1)
    (moved_says store (state_with it segments before) own to.0 place after.taken (stays_moving store it segments own new place before after to.0 is by there stayed to.1))
offered_says store it segments own new place before after false is by there stayed to =
    says_same store (state_with it segments before) (state_with it (slice_set segments place new) after) (state_kept it segments own new place before after there to.1 to.2)

pub offered_to : (it : PreparedState) (segments : List PlannedSegment) (own new : PlannedSegment) (place : ℕ) (before after : Pool) (moved : Bool) → slice_get segments place ≡ Some own
    → IsMoved moved own new before after → IsOfferedTo moved own place (state_with it segments before) (state_with it (slice_set segments place new) after)
offered_to it segments own new place before after true there to = (
  to.0,
  record {
    better_is = to.1.better_is;
    segments = ap (slice_set segments place) to.1.segment;
    taken = to.1.taken;
    limit = to.1.limit;
    bodies = refl;
    dynamic = refl;
    next = refl;
    record_extent = refl;
  },
)
offered_to it segments own new place before after false there to = (to.0, state_kept it segments own new place before after there to.1 to.2)

pub ok_with : {T E : Type 0} (result : Result T E) (P Q : T → Type 0) → ((it : T) → P it → Q it) → IfOk result P → IfOk result Q
ok_with (Ok it) P Q step is = step it is
ok_with (Err refusal) P Q step is = tt

abbrev StaysThere : PlannedSegment → Type 0
StaysThere segment = segment.before ≡ Some segment.extent

-- the segment that is borrowed at a place, where there is one that stays
there_at : (items : List Planned) (place : ℕ) (own : Planned) → own ≡ get_or items place own → IsSomeAnd (slice_get (all_planned items) place) StaysThere
    → (slice_get (all_planned items) place ≡ Some (planned_seen own)) × StaysThere (planned_seen own)
there_at [] place own value stays = absurd stays
there_at (first ∷ items) zero own value stays = (ap (λ (it : Planned). Some (planned_seen it)) (sym value), subst (λ (it : Planned). StaysThere (planned_seen it)) (sym value) stays)
there_at (first ∷ items) (suc place) own value stays = there_at items place own value stays

pub planned_there : {found : Option PlannedSegment} (items : List Planned) (place : ℕ) (own : Planned) → own ≡ get_or items place own → slice_get (all_planned items) place ≡ found
    → IsSomeAnd found StaysThere → (slice_get (all_planned items) place ≡ Some (planned_seen own)) × StaysThere (planned_seen own)
planned_there items place own value same stays = there_at items place own value (subst (λ (it : Option PlannedSegment). IsSomeAnd it StaysThere) (sym same) stays)

pub same_there : (segments : List PlannedSegment) (place : ℕ) (one other : PlannedSegment) → slice_get segments place ≡ Some one → slice_get segments place ≡ Some other → one ≡ other
same_there segments place one other first second = some_once one other (sym first ∙ second)
