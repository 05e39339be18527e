-- An acknowledged commit names each segment of the layout.
use Rattle.std.proofs.Common.{◌≡◌, ◌⊎◌, inl, inr, ◌==◌, ℕ, suc, Bool, true, false, not, cond, ◌||◌, List, [], ◌∷◌, ◌++◌, map, filter, find, length, Option, Some, None, unwrap_or, refl, sym, ap, subst, ◌∙◌}
use Rattle.std.specs.List.{AllZip, list_any}
use Rattle.std.proofs.lemmas.Bool.{eqb-true, true≢false}
use Rattle.extent_pool.specs.Placing.{NamedExtent, Room, fit, in_front_of, placed, room_behind, room_with, with_taken}
use Rattle.extent_pool.specs.declared.extent.Extent.{Extent}
use Rattle.layout.specs.Layout.{SegmentOf}
use Rattle.mapping.specs.Mapping.{Mapping}
use Rattle.reply_text.specs.declared.reply.Reply.{Reply}
use Rattle.reply_text.specs.declared.reply.Reply.TheVariants.{Committed, Compacted, OutOfMemory}
use Rattle.request_form.specs.Asked.{Asked, asks}
use Rattle.request_form.specs.Command.{commit, compact}
use Rattle.tree_objects.specs.Tree.{Tree}
use Rattle.machine.specs.Answer.{Outcome, outcome_of, with_mapping}
use Rattle.machine.specs.May.{AreSizesFor, MayAnswer, MayEnd}
use Rattle.machine.specs.State.{State, sealed_state}
use Rattle.machine.specs.Step.{step}
use Rattle.machine.specs.Storing.{AreSizes, IsKept, IsSizeOf, commit_step, compact_step, has_extent_id, header, is_named, left_behind, moves_in, named, named_by, named_first, new_segments, record_size, room_in, segment_ids, with_move}
use Rattle.machine.specs.declared.limits.Limits.{Limits}
use Rattle.machine.proofs.Storing.{commit_by, compact_by}

-- ---- as many extents as lengths

abbrev AreMany : {X : Type 0} → ℕ → Option (List X) → Type 0
AreMany {X} count None = Unit {0}
AreMany {X} count (Some xs) = length xs ≡ count

front_many : (count : ℕ) (extent : Option Extent) (extents : Option (List Extent)) → AreMany count extents → AreMany (suc count) (in_front_of extent extents)
front_many count None extents many = tt
front_many count (Some extent) None many = tt
front_many count (Some extent) (Some extents) many = ap suc many

placed_many : (limit : ℕ) (taken : List Extent) (lens : List ℕ) → AreMany (length lens) (placed limit taken lens)
placed_many limit taken [] = refl
placed_many limit taken (len ∷ lens) =
    front_many (length lens) (fit limit taken len) (placed limit (with_taken (fit limit taken len) taken) lens) (placed_many limit (with_taken (fit limit taken len) taken) lens)

abbrev HasMany : ℕ → Option Room → Type 0
HasMany count None = Unit {0}
HasMany count (Some room) = length room.segments ≡ count

with_many : (count : ℕ) (segments : List Extent) (extent : Option Extent) → length segments ≡ count → HasMany count (room_with segments extent)
with_many count segments None many = tt
with_many count segments (Some extent) many = many

behind_many : (limit : ℕ) (taken : List Extent) (size count : ℕ) (segments : Option (List Extent)) → AreMany count segments → HasMany count (room_behind limit taken size segments)
behind_many limit taken size count None many = tt
behind_many limit taken size count (Some segments) many = with_many count segments (fit limit (segments ++ taken) size) many

room_many : (limits : Limits) (sizes : List ℕ) (m : Mapping) (state : State) (room : Room) → room_in limits sizes m state ≡ Some room → length room.segments ≡ length sizes
room_many limits sizes m state room found =
    subst (HasMany (length sizes)) found
    (behind_many limits.store_bytes (header ∷ state.kept.taken) (record_size m state) (length sizes) (placed limits.store_bytes (header ∷ state.kept.taken) sizes)
    (placed_many limits.store_bytes (header ∷ state.kept.taken) sizes))

zip_many : {X Y : Type 0} (R : X → Y → Type 0) (xs : List X) (ys : List Y) → AllZip R xs ys → length ys ≡ length xs
zip_many R [] [] all = refl
zip_many R [] (y ∷ ys) all = absurd all
zip_many R (x ∷ xs) [] all = absurd all
zip_many R (x ∷ xs) (y ∷ ys) all = ap suc (zip_many R xs ys all.1)

-- ---- ids

abbrev id_in : NamedExtent → ℕ
id_in it = it.id

-- what a look-up by an id finds has it, and where it finds none, none has it
abbrev IsLookedUp : ℕ → Option NamedExtent → Bool → Type 0
IsLookedUp id None known = known ≡ false
IsLookedUp id (Some own) known = (own.id ≡ id) × (known ≡ true)

looked_up : (id : ℕ) (known : List NamedExtent) → IsLookedUp id (find (has_extent_id id) known) (list_any (λ (it : NamedExtent). it.id == id) known)
looked_up id [] = refl
looked_up id (it ∷ known) = by (it.id == id) refl (looked_up id known)
  where
    by : (b : Bool) → (it.id == id) ≡ b → IsLookedUp id (find (has_extent_id id) known) (list_any (λ (own : NamedExtent). own.id == id) known)
        → IsLookedUp id (cond b (Some it) (find (has_extent_id id) known)) (b || list_any (λ (own : NamedExtent). own.id == id) known)
    by true same rest = (eqb-true it.id id same, refl)
    by false other rest = rest

-- where there are as many new extents as segments that aren't named, each segment gets one
named_all : (known : List NamedExtent) (segments : List (SegmentOf Tree)) (extents : List Extent)
    → length extents ≡ length (filter (λ (segment : SegmentOf Tree). not (is_named known segment)) segments)
    → map id_in (named known (map (λ (segment : SegmentOf Tree). segment.id) segments) extents) ≡ map (λ (segment : SegmentOf Tree). segment.id) segments
named_all known [] extents many = refl
named_all known (segment ∷ segments) extents many =
    by (find (has_extent_id segment.id) known) (is_named known segment) extents (looked_up segment.id known) many (λ rest. named_all known segments rest)
  where
    by : (own : Option NamedExtent) (known_so : Bool) (rest : List Extent) → IsLookedUp segment.id own known_so
        → length rest ≡ length (cond (not known_so) (segment ∷ filter (λ (later : SegmentOf Tree). not (is_named known later)) segments) (filter (λ (later : SegmentOf Tree). not (is_named known later)) segments))
        → ((extents : List Extent) → length extents ≡ length (filter (λ (later : SegmentOf Tree). not (is_named known later)) segments)
        → map id_in (named known (map (λ (later : SegmentOf Tree). later.id) segments) extents) ≡ map (λ (later : SegmentOf Tree). later.id) segments)
        → map id_in (named_first segment.id own rest ++ named known (map (λ (later : SegmentOf Tree). later.id) segments) (left_behind own rest))
        ≡ segment.id ∷ map (λ (later : SegmentOf Tree). later.id) segments
    by (Some own) true rest is many later = λ i. is.0 i ∷ later rest many i
    by (Some own) false rest is many later = absurd (true≢false (sym is.1))
    by None true rest is many later = absurd (true≢false is)
    by None false [] is many later = absurd (no_length _ many)
      where
        no_length : (n : ℕ) → 0 ≡ suc n → ⊥
        no_length n e = cc
    by None false (extent ∷ rest) is many later = ap (λ ids. segment.id ∷ ids) (later rest (cc))

moved_id : (moves : List NamedExtent) (it : NamedExtent) → (with_move moves it).id ≡ it.id
moved_id moves it = by (find (has_extent_id it.id) moves) (list_any (λ (own : NamedExtent). own.id == it.id) moves) (looked_up it.id moves)
  where
    by : (own : Option NamedExtent) (known : Bool) → IsLookedUp it.id own known → (unwrap_or own it).id ≡ it.id
    by None known is = refl
    by (Some own) known is = is.0

moved_ids : (moves named : List NamedExtent) → map id_in (map (with_move moves) named) ≡ map id_in named
moved_ids moves [] = refl
moved_ids moves (it ∷ named) = λ i. moved_id moves it i ∷ moved_ids moves named i

names_all : (limits : Limits) (sizes : List ℕ) (m : Mapping) (state : State) (room : Room) (moves : List NamedExtent) → AreSizes (Some m) state sizes → room_in limits sizes m state ≡ Some room
    → map id_in (named_by room moves state) ≡ segment_ids state
names_all limits sizes m state room moves are found =
    moved_ids moves (named state.kept.segments (segment_ids state) room.segments)
    ∙ named_all state.kept.segments state.layout.segments room.segments (room_many limits sizes m state room found ∙ zip_many (IsSizeOf m) (new_segments state) sizes are)

-- ---- acknowledged commits

abbrev is_acknowledged : Reply → Bool
is_acknowledged (Committed next) = true
is_acknowledged (Compacted count next) = true
is_acknowledged reply = false

-- where it is acknowledged, the state afterwards has what it names
abbrev Keeps : State → Outcome → Type 0
Keeps before outcome = is_acknowledged outcome.reply ≡ true → IsKept before outcome.state

commit_keeps : (limits : Limits) (sizes : List ℕ) (before : State) → AreSizes before.content.mapping (sealed_state before) sizes → Keeps before (step limits sizes before (asks commit))
unfolding step
commit_keeps limits sizes before are =
    by before.content.mapping are
  where
    by : (m : Option Mapping) → AreSizes m (sealed_state before) sizes → Keeps before (outcome_of before (with_mapping m (λ own. commit_step limits sizes own (sealed_state before))))
    by None are = λ is. absurd (true≢false (sym is))
    by (Some m) are =
        commit_by (Keeps before) before limits sizes m (sealed_state before) (λ is. absurd (true≢false (sym is))) (λ is. absurd (true≢false (sym is)))
        (λ room found is. record { layout = refl; generation = refl; names = names_all limits sizes m (sealed_state before) room [] are found })

compact_keeps : (limits : Limits) (sizes : List ℕ) (most : ℕ) (before : State) → AreSizes before.content.mapping (sealed_state before) sizes → Keeps before (step limits sizes before (asks (compact most)))
unfolding step
compact_keeps limits sizes most before are =
    by before.content.mapping are
  where
    by : (m : Option Mapping) → AreSizes m (sealed_state before) sizes → Keeps before (outcome_of before (with_mapping m (λ own. compact_step limits sizes most own (sealed_state before))))
    by None are = λ is. absurd (true≢false (sym is))
    by (Some m) are =
        compact_by (Keeps before) before limits sizes most m (sealed_state before) (λ is. absurd (true≢false (sym is))) (λ is. absurd (true≢false (sym is)))
        (λ room found is. record { layout = refl; generation = refl; names = names_all limits sizes m (sealed_state before) room (moves_in limits most room (sealed_state before)) are found })

-- an acknowledgement is no want of memory and no failure
acknowledged_end : (before : State) (outcome : Outcome) (reply : Reply) (after : State) → is_acknowledged reply ≡ true → MayEnd before outcome reply after
    → (is_acknowledged outcome.reply ≡ true → IsKept before outcome.state) → IsKept before after
acknowledged_end before outcome reply after is (inl stepped) keeps = subst (IsKept before) (sym stepped.state_is) (keeps (sym (ap is_acknowledged stepped.reply_is) ∙ is))
acknowledged_end before outcome reply after is (inr (inl wants)) keeps = absurd (true≢false (sym is ∙ ap is_acknowledged wants.reply_is))
acknowledged_end before outcome reply after is (inr (inr failed)) keeps = absurd (true≢false (sym is ∙ ap is_acknowledged failed.reply_is))

sizes_of : (asked : Asked) (before : State) (reply : Reply) (sizes : List ℕ) → is_acknowledged reply ≡ true → (reply ≡ OutOfMemory) ⊎ AreSizesFor asked before sizes → AreSizesFor asked before sizes
sizes_of asked before reply sizes is (inl none) = absurd (true≢false (sym is ∙ ap is_acknowledged none))
sizes_of asked before reply sizes is (inr are) = are

pub committed_kept : (limits : Limits) (before : State) (next : ℕ) (after : State) → MayAnswer limits before (asks commit) (Committed next) after → IsKept before after
committed_kept limits before next after may =
    acknowledged_end before (step limits may.sizes before (asks commit)) (Committed next) after refl may.may
    (commit_keeps limits may.sizes before (sizes_of (asks commit) before (Committed next) may.sizes refl may.are))

pub compacted_kept : (limits : Limits) (before : State) (most count next : ℕ) (after : State) → MayAnswer limits before (asks (compact most)) (Compacted count next) after → IsKept before after
compacted_kept limits before most count next after may =
    acknowledged_end before (step limits may.sizes before (asks (compact most))) (Compacted count next) after refl may.may
    (compact_keeps limits may.sizes most before (sizes_of (asks (compact most)) before (Compacted count next) may.sizes refl may.are))
