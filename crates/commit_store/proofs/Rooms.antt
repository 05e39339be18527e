-- A commit's room: what was taken segment by segment is the room by first fit.
use Rattle.std.proofs.Common.{◌≡◌, ℕ, zero, suc, ◌+◌, ◌*◌, ◌/◌, ◌<◌, ◌≤◌, Bool, true, false, not, ◌&&◌, ◌||◌, cond, nat_lt, nat_le, List, [], ◌∷◌, ◌++◌, length, map, count_by, sum_by, Option, None, Some, refl, sym, ◌∙◌, ap, subst, arith}
use Rattle.std.specs.List.Sorted.{IsPermutation}
use Rattle.std.proofs.lemmas.List.Sums.{sum_by-cons}
use Rattle.std.proofs.lemmas.List.Sorted.{IsPermutation-trans, IsPermutation-append_right, IsPermutation-cons, IsPermutation-sym}
use Rattle.extent_pool.specs.Extents.{Pool}
use Rattle.extent_pool.specs.Placing.{Room, fit, placed, room_for, room_behind, room_with}
use Rattle.extent_pool.specs.declared.extent.Extent.{Extent}
use Rattle.mapping.specs.Mapping.{Mapping}
use Rattle.segment.specs.Live.{EntryState}
use Rattle.tree_json.specs.Text.{compact}
use Rattle.tree_json.specs.Value.{JsonValue}
use Rattle.commit_store.specs.declared.known.KnownSegment.{KnownSegment}
use Rattle.commit_store.specs.Known.{StoreState}
use Rattle.commit_store.specs.Placed.{placed_in, ArePlanned}
use Rattle.commit_store.specs.Preparing.{PlannedSegment, PreparedState, IsPlan, IsPreparedFor, known_as, new_sizes, planned, planned_as, extents_left, room_of, row_size, size_of_record, taken_by, taken_with}

-- taken extents in another order give the same
pub record Orders : Type 0 where
  pub fits : (limit len : ℕ) (ones others : List Extent) → IsPermutation ones others → fit limit ones len ≡ fit limit others len
  pub places : (limit : ℕ) (lens : List ℕ) (ones others : List Extent) → IsPermutation ones others → placed limit ones lens ≡ placed limit others lens

-- ---- the length of the record

abbrev pub body_size : List ℕ → ℕ
body_size body = 4 + length body

abbrev pub planned_size : PlannedSegment → ℕ
planned_size segment = 20 + 4 * count_by not segment.live

bodies_size : (bodies : List JsonValue) → sum_by body_size (map compact bodies) ≡ sum_by (λ (body : JsonValue). 4 + length (compact body)) bodies
bodies_size [] = refl
bodies_size (body ∷ bodies) =
    sum_by-cons body_size (compact body) (map compact bodies)
    ∙ ap (λ (n : ℕ). (4 + length (compact body)) + n) (bodies_size bodies)
    ∙ sym (sum_by-cons (λ (it : JsonValue). 4 + length (compact it)) body bodies)

rows_size : (known : List KnownSegment) (view : List EntryState) (extents : List Extent) → sum_by planned_size (planned known view extents) ≡ sum_by row_size view
rows_size known [] extents = refl
rows_size known (entry ∷ view) extents =
    sum_by-cons planned_size (planned_as entry (known_as known entry.id) extents) (planned known view (extents_left (known_as known entry.id) extents))
    ∙ ap (λ (n : ℕ). row_size entry + n) (rows_size known view (extents_left (known_as known entry.id) extents))
    ∙ sym (sum_by-cons row_size entry view)

pub record_size_is : (m : Mapping) (known : List KnownSegment) (view : List EntryState) (extents : List Extent) (bodies : List (List ℕ)) (segments : List PlannedSegment)
    → bodies ≡ map compact m.bodies → segments ≡ planned known view extents
    → 21 + (sum_by body_size bodies + sum_by planned_size segments) ≡ size_of_record m view
record_size_is m known view extents bodies segments texts are =
    let first = ap (sum_by body_size) texts ∙ bodies_size m.bodies in
    let then = ap (sum_by planned_size) are ∙ rows_size known view extents in
    omega (arith, first, then)

-- ---- the room

room_is : (limit : ℕ) (taken : List Extent) (sizes : List ℕ) (size : ℕ) (extents : List Extent) (extent : Extent) → placed limit taken sizes ≡ Some extents
    → fit limit (extents ++ taken) size ≡ Some extent → room_for limit taken sizes size ≡ Some (record { segments = extents; record_extent = extent })
room_is limit taken sizes size extents extent places fits =
    ap (room_behind limit taken size) places ∙ ap (room_with extents) fits

no_room : (limit : ℕ) (taken : List Extent) (sizes : List ℕ) (size : ℕ) (extents : List Extent) → placed limit taken sizes ≡ Some extents
    → fit limit (extents ++ taken) size ≡ None → room_for limit taken sizes size ≡ None
no_room limit taken sizes size extents places fits =
    ap (room_behind limit taken size) places ∙ ap (room_with extents) fits

-- the pool of a store before a commit
pub record IsPoolOf (store : StoreState) (pool : Pool) : Type 0 where
  pub taken : IsPermutation (taken_by store) pool.taken
  pub limit : pool.limit ≡ store.limit

placed_first : Orders → (store : StoreState) (view : List EntryState) (start : Pool) (found : Option (List Extent)) → IsPoolOf store start
    → placed_in store.known view start ≡ found → placed store.limit (taken_by store) (new_sizes store.known view) ≡ found
placed_first orders store view start found pool places =
    ap (λ (limit : ℕ). placed limit (taken_by store) (new_sizes store.known view)) (sym pool.limit)
    ∙ orders.places start.limit (new_sizes store.known view) (taken_by store) start.taken pool.taken
    ∙ places

taken_behind : (store : StoreState) (start behind : Pool) (extents : List Extent) → IsPoolOf store start → IsPermutation (extents ++ start.taken) behind.taken
    → IsPermutation (extents ++ taken_by store) behind.taken
taken_behind store start behind extents pool taken =
    IsPermutation-trans (extents ++ taken_by store) (extents ++ start.taken) behind.taken
    (IsPermutation-append_right extents (taken_by store) start.taken pool.taken) taken

fit_behind : Orders → (store : StoreState) (start behind : Pool) (extents : List Extent) (size : ℕ) (found : Option Extent) → IsPoolOf store start
    → IsPermutation (extents ++ start.taken) behind.taken → behind.limit ≡ start.limit → fit behind.limit behind.taken size ≡ found
    → fit store.limit (extents ++ taken_by store) size ≡ found
fit_behind orders store start behind extents size found pool taken limit fits =
    ap (λ (it : ℕ). fit it (extents ++ taken_by store) size) (sym (limit ∙ pool.limit))
    ∙ orders.fits behind.limit size (extents ++ taken_by store) behind.taken (taken_behind store start behind extents pool taken)
    ∙ fits

pub planned_room : Orders → (store : StoreState) (m : Mapping) (next : ℕ) (view : List EntryState) (start behind : Pool) (prepared : PreparedState) (size : ℕ)
    → IsPoolOf store start → ArePlanned store.known view start behind prepared.segments → behind.limit ≡ start.limit
    → prepared.bodies ≡ map compact m.bodies → prepared.dynamic ≡ m.dynamic → prepared.next ≡ next
    → size ≡ 21 + (sum_by body_size prepared.bodies + sum_by planned_size prepared.segments)
    → fit behind.limit behind.taken size ≡ Some prepared.record_extent → IsPermutation (prepared.record_extent ∷ behind.taken) prepared.taken
    → prepared.limit ≡ behind.limit → IsPreparedFor store m next view prepared
planned_room orders store m next view start behind prepared size pool planned_are limit bodies dynamic next_is long fits taken limit_is =
    let extents : List Extent = planned_are.extents in
    let size_is : size ≡ size_of_record m view
    = long ∙ record_size_is m store.known view extents prepared.bodies prepared.segments bodies planned_are.segments_are in
    record {
      room = record { segments = extents; record_extent = prepared.record_extent };
      first_fit =
          room_is store.limit (taken_by store) (new_sizes store.known view) (size_of_record m view) extents prepared.record_extent
          (placed_first orders store view start (Some extents) pool planned_are.placed_are)
          (subst (λ (n : ℕ). fit store.limit (extents ++ taken_by store) n ≡ Some prepared.record_extent) size_is
          (fit_behind orders store start behind extents size (Some prepared.record_extent) pool planned_are.taken limit fits));
      plan = record {
        limit = limit_is ∙ limit ∙ pool.limit;
        bodies = bodies;
        dynamic = dynamic;
        next_is = next_is;
        segments = planned_are.segments_are;
        record_extent = refl;
        taken =
            IsPermutation-trans (prepared.record_extent ∷ (extents ++ taken_by store)) (prepared.record_extent ∷ behind.taken) prepared.taken
            (IsPermutation-cons prepared.record_extent (extents ++ taken_by store) behind.taken (taken_behind store start behind extents pool planned_are.taken))
            taken;
      };
    }

-- ---- no room

pub no_room_for_segments : Orders → (store : StoreState) (m : Mapping) (view : List EntryState) (start : Pool) → IsPoolOf store start
    → placed_in store.known view start ≡ None → room_of store m view ≡ None
no_room_for_segments orders store m view start pool none =
    ap (room_behind store.limit (taken_by store) (size_of_record m view)) (placed_first orders store view start None pool none)

pub no_room_for_record : Orders → (store : StoreState) (m : Mapping) (view : List EntryState) (start behind : Pool) (bodies : List (List ℕ)) (segments : List PlannedSegment) (size : ℕ)
    → IsPoolOf store start → ArePlanned store.known view start behind segments → behind.limit ≡ start.limit → bodies ≡ map compact m.bodies
    → size ≡ 21 + (sum_by body_size bodies + sum_by planned_size segments) → fit behind.limit behind.taken size ≡ None → room_of store m view ≡ None
no_room_for_record orders store m view start behind bodies segments size pool planned_are limit texts long none =
    let extents : List Extent = planned_are.extents in
    let size_is : size ≡ size_of_record m view = long ∙ record_size_is m store.known view extents bodies segments texts planned_are.segments_are in
    no_room store.limit (taken_by store) (new_sizes store.known view) (size_of_record m view) extents
    (placed_first orders store view start (Some extents) pool planned_are.placed_are)
    (subst (λ (n : ℕ). fit store.limit (extents ++ taken_by store) n ≡ None) size_is
    (fit_behind orders store start behind extents size None pool planned_are.taken limit none))
