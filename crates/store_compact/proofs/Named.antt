-- The segments of a view under their ids, each with the extent that it has or with the next of the new ones.
use Rattle.std.proofs.Common.{◌≡◌, ℕ, cond, Bool, true, false, List, [], ◌∷◌, ◌++◌, length, map, find, Option, None, Some, option_map, refl, sym, ◌∙◌, ap, subst, arith}
use Rattle.std.specs.List.{AllZip, cons_option}
use Rattle.std.proofs.lemmas.Option.{none-some}
use Rattle.extent_pool.specs.Placing.{NamedExtent, Room, fit, in_front_of, placed, room_for, room_behind, room_with, with_taken}
use Rattle.extent_pool.specs.declared.extent.Extent.{Extent}
use Rattle.machine.specs.Storing.{extent_in, has_extent_id, left_behind, named, named_first}
use Rattle.segment.specs.Live.{EntryState}
use Rattle.segment_parts.specs.Text.{segment_text}
use Rattle.commit_store.specs.declared.known.KnownSegment.{KnownSegment}
use Rattle.commit_store.specs.Known.{StoreState}
use Rattle.commit_store.specs.Moving.{named_planned}
use Rattle.commit_store.specs.Preparing.{PlannedSegment, entry_or, extents_left, has_id, known_as, known_of, new_sizes, planned, planned_as, size_unless}
use Rattle.store_compact.specs.Compacting.{IsKnownOf, ids_of, named_of}
use Rattle.store_compact.specs.Moves.{AllStayBelow, StaysBelow}
use Rattle.store_compact.proofs.Candidates.{some_once}
use Rattle.store_compact.proofs.Ids.{entries_in}

-- ---- the room

pub segments_placed : (limit : ℕ) (taken : List Extent) (sizes : List ℕ) (size : ℕ) (room : Room) → room_for limit taken sizes size ≡ Some room → placed limit taken sizes ≡ Some room.segments
segments_placed limit taken sizes size room same = by_places (placed limit taken sizes) refl same
  where
    by_fit : (segments : List Extent) → placed limit taken sizes ≡ Some segments → (extent : Option Extent) → room_with segments extent ≡ Some room → placed limit taken sizes ≡ Some room.segments
    by_fit segments places None is = absurd (none-some room is)
    by_fit segments places (Some extent) is =
        places ∙ ap (λ (it : Room). Some it.segments) (some_once (record { segments = segments; record_extent = extent }) room is)

    by_places : (places : Option (List Extent)) → placed limit taken sizes ≡ places → room_behind limit taken size places ≡ Some room → placed limit taken sizes ≡ Some room.segments
    by_places None is same = absurd (none-some room same)
    by_places (Some segments) is same = by_fit segments is (fit limit (segments ++ taken) size) same

record IsFront (first : Option Extent) (rest : Option (List Extent)) (extents : List Extent) : Type 0 where
  extent : Extent
  more : List Extent
  first_is : first ≡ Some extent
  rest_is : rest ≡ Some more
  are : extents ≡ extent ∷ more

front_is : (first : Option Extent) (rest : Option (List Extent)) (extents : List Extent) → in_front_of first rest ≡ Some extents → IsFront first rest extents
front_is None rest extents same = absurd (none-some extents same)
front_is (Some extent) None extents same = absurd (none-some extents same)
front_is (Some extent) (Some more) extents same = record { extent = extent; more = more; first_is = refl; rest_is = refl; are = sym (some_once (extent ∷ more) extents same) }

-- ---- the names

find_named : (known : List KnownSegment) (id : ℕ) → find (has_extent_id id) (map named_of known) ≡ option_map named_of (known_as known id)
find_named [] id = refl
find_named (own ∷ known) id = by_id (has_id id own) (find_named known id)
  where
    by_id : (b : Bool) → find (has_extent_id id) (map named_of known) ≡ option_map named_of (known_as known id)
        → cond b (Some (named_of own)) (find (has_extent_id id) (map named_of known)) ≡ option_map named_of (cond b (Some own) (known_as known id))
    by_id true more = refl
    by_id false more = more

pub planned_names : (known : List KnownSegment) (limit : ℕ) (view : List EntryState) (taken extents : List Extent) → placed limit taken (new_sizes known view) ≡ Some extents
    → map named_planned (planned known view extents) ≡ named (map named_of known) (ids_of view) extents
planned_names known limit [] taken extents same = refl
planned_names known limit (entry ∷ view) taken extents same =
    by_known (known_as known entry.id) refl (planned_names known limit view)
    ∙ ap (λ (it : Option NamedExtent). named_first entry.id it extents ++ named (map named_of known) (ids_of view) (left_behind it extents)) (sym (find_named known entry.id))
  where
    by_known : (own : Option KnownSegment) → known_as known entry.id ≡ own
        → ((taken extents : List Extent) → placed limit taken (new_sizes known view) ≡ Some extents → map named_planned (planned known view extents) ≡ named (map named_of known) (ids_of view) extents)
        → map named_planned (planned_as entry own extents ∷ planned known view (extents_left own extents))
        ≡ named_first entry.id (option_map named_of own) extents ++ named (map named_of known) (ids_of view) (left_behind (option_map named_of own) extents)
    by_known (Some own) is more =
        ap (λ (rest : List NamedExtent). named_of own ∷ rest)
        (more taken extents (ap (λ (it : Option KnownSegment). placed limit taken (cons_option (size_unless entry it) (new_sizes known view))) (sym is) ∙ same))
    by_known None is more =
        let size : ℕ = length (segment_text entry.columns) in
        let front = front_is (fit limit taken size) (placed limit (with_taken (fit limit taken size) taken) (new_sizes known view)) extents
        (ap (λ (it : Option KnownSegment). placed limit taken (cons_option (size_unless entry it) (new_sizes known view))) (sym is) ∙ same) in
        subst
        (λ (it : List Extent). map named_planned (planned_as entry None it ∷ planned known view (extents_left None it)) ≡ named_first entry.id None it ++ named (map named_of known) (ids_of view) (left_behind None it))
        (sym front.are)
        (ap (λ (rest : List NamedExtent). record { id = entry.id; extent = front.extent } ∷ rest) (more (with_taken (fit limit taken size) taken) front.more front.rest_is))

-- ---- entries

pub planned_entries : (known : List KnownSegment) (view : List EntryState) (extents : List Extent) → entries_in (planned known view extents) ≡ map (λ (entry : EntryState). entry_or entry (known_as known entry.id)) view
planned_entries known [] extents = refl
planned_entries known (entry ∷ view) extents =
    ap (λ (rest : List EntryState). entry_or entry (known_as known entry.id) ∷ rest) (planned_entries known view (extents_left (known_as known entry.id) extents))

head_is : (one other : EntryState) (ones others : List EntryState) → one ∷ ones ≡ other ∷ others → one ≡ other
head_is one other ones others same = cc

tail_is : (one other : EntryState) (ones others : List EntryState) → one ∷ ones ≡ other ∷ others → ones ≡ others
tail_is one other ones others same = cc

pub known_are : (store : StoreState) (view : List EntryState) (segments : List PlannedSegment) → entries_in segments ≡ map (λ (entry : EntryState). entry_or entry (known_as store.known entry.id)) view
    → AllZip (IsKnownOf store) view (map known_of segments)
known_are store [] [] same = tt
known_are store [] (segment ∷ segments) same = absurd (omega (arith, ap length same))
known_are store (entry ∷ view) [] same = absurd (omega (arith, ap length same))
known_are store (entry ∷ view) (segment ∷ segments) same =
    let own : EntryState = entry_or entry (known_as store.known entry.id) in
    let rest : List EntryState = map (λ (it : EntryState). entry_or it (known_as store.known it.id)) view in
    (head_is segment.entry own (entries_in segments) rest same, known_are store view segments (tail_is segment.entry own (entries_in segments) rest same))

-- ---- what is planned hasn't moved

pub all_stay : (place : ℕ) (known : List KnownSegment) (view : List EntryState) (extents : List Extent) → AllStayBelow place (planned known view extents)
all_stay place known [] extents = tt
all_stay place known (entry ∷ view) extents =
    (by_known (known_as known entry.id), all_stay place known view (extents_left (known_as known entry.id) extents))
  where
    by_known : (own : Option KnownSegment) → StaysBelow place (planned_as entry own extents)
    by_known None before had less = absurd (none-some before had)
    by_known (Some own) before had less = refl

-- ---- the store behind the commit

pub known_names : (segments : List PlannedSegment) → map named_of (map known_of segments) ≡ map named_planned segments
known_names [] = refl
known_names (segment ∷ segments) = ap (λ (rest : List NamedExtent). named_planned segment ∷ rest) (known_names segments)

pub named_extents : (segments : List PlannedSegment) → map (λ (segment : PlannedSegment). segment.extent) segments ≡ map extent_in (map named_planned segments)
named_extents [] = refl
named_extents (segment ∷ segments) = ap (λ (rest : List Extent). segment.extent ∷ rest) (named_extents segments)
