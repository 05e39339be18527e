-- How entries are planned, one by one.
use Rattle.std.proofs.Common.{◌≡◌, ℕ, ◌+◌, ◌<◌, get_or, drop, Bool, List, [], ◌∷◌, ◌++◌, length, find, Option, None, Some, option_map, unwrap_or, refl, sym, ◌∙◌, ap, subst, append_assoc}
use Rattle.std.specs.List.{AllByRecursion, cons_option}
use Rattle.std.specs.List.Sorted.{IsPermutation}
use Rattle.std.proofs.lemmas.List.{append-nil, drop_more}
use Rattle.std.proofs.lemmas.Option.{none-some}
use Rattle.std.proofs.lemmas.List.Sorted.{IsPermutation-refl, IsPermutation-trans, IsPermutation-cons, IsPermutation-append_left, IsPermutation-middle, IsPermutation-sym}
use Rattle.extent_pool.specs.Extents.{Pool}
use Rattle.extent_pool.specs.Holes.{first_fit, has_room, holes_of}
use Rattle.extent_pool.specs.Placing.{fit, placed, in_front_of, with_taken}
use Rattle.extent_pool.specs.declared.extent.Extent.{Extent}
use Rattle.segment.specs.Live.{EntryState}
use Rattle.segment_parts.specs.Agree.{AreColumns}
use Rattle.segment_parts.specs.Text.{segment_text}
use Rattle.commit_store.specs.declared.known.KnownSegment.{KnownSegment}
use Rattle.commit_store.proofs.Planned.{known_one}
use Rattle.commit_store.specs.Known.{IsKnownSegment}
use Rattle.commit_store.specs.Placed.{placed_in, ArePlanned, IsPlannedIn, IsNextBy, IsFullBy, IsPlanning, IsSound}
use Rattle.commit_store.specs.declared.prepared.Planned.{Planned}
use Rattle.commit_store.specs.Planned.{all_planned, planned_seen}
use Rattle.commit_store.specs.Preparing.{PlannedSegment, known_as, new_sizes, planned, planned_as, size_unless, extents_left, extent_or}

-- taken extents in another order give the same
abbrev pub OrderIsNothing : Type 0
OrderIsNothing = (limit : ℕ) (lens : List ℕ) (ones others : List Extent) → IsPermutation ones others → placed limit ones lens ≡ placed limit others lens

nothing_more : (extents : Option (List Extent)) → extents ≡ option_map (λ (more : List Extent). [] ++ more) extents
nothing_more None = refl
nothing_more (Some extents) = refl

pub planning_start : (known : List KnownSegment) (all : List EntryState) (pool : Pool) → IsPlanning known all all pool pool []
planning_start known all pool = record {
  extents = [];
  placed_are = nothing_more (placed_in known all pool);
  segments_are = λ more. refl;
  taken = IsPermutation-refl pool.taken;
  limit = refl;
  sound = tt;
}

all_push : {A : Type 0} (P : A → Type 0) (xs : List A) (x : A) → AllByRecursion P xs → P x → AllByRecursion P (xs ++ x ∷ [])
all_push P [] x all p = (p, tt)
all_push P (first ∷ xs) x all p = (all.0, all_push P xs x all.1 p)

fit_length : (len : ℕ) (holes : List Extent) (extent : Extent) → first_fit len holes ≡ Some extent → extent.len ≡ len
fit_length len holes extent same = by_hole (find (has_room len) holes) same
  where
    by_hole : (hole : Option Extent) → option_map (λ (it : Extent). record { at = it.at; len = len }) hole ≡ Some extent → extent.len ≡ len
    by_hole None is = absurd (none-some extent is)
    by_hole (Some hole) is = ap (λ (it : Option Extent). (unwrap_or it (record { at = 0; len = len })).len) (sym is)

more_in_front : (extents : List Extent) (extent : Extent) (rest : Option (List Extent))
    → option_map (λ (more : List Extent). extents ++ more) (in_front_of (Some extent) rest) ≡ option_map (λ (more : List Extent). (extents ++ extent ∷ []) ++ more) rest
more_in_front extents extent None = refl
more_in_front extents extent (Some more) = ap (λ (it : List Extent). Some it) (sym (append_assoc extents (extent ∷ []) more))

-- an entry that is known
planning_known : (known : List KnownSegment) (entry : EntryState) (left all : List EntryState) (old now : Pool) (segments : List PlannedSegment) (own : KnownSegment)
    → IsKnownSegment own → known_as known entry.id ≡ Some own → IsPlanning known (entry ∷ left) all old now segments
    → IsPlanning known left all old now (segments ++ planned_as entry (Some own) [] ∷ [])
planning_known known entry left all old now segments own is same was = record {
  extents = was.extents;
  placed_are =
      was.placed_are
      ∙ ap (λ (it : Option KnownSegment). option_map (λ (more : List Extent). was.extents ++ more) (placed now.limit now.taken (cons_option (size_unless entry it) (new_sizes known left)))) same;
  segments_are = λ more.
      was.segments_are more
      ∙ ap (λ (it : Option KnownSegment). segments ++ (planned_as entry it more ∷ planned known left (extents_left it more))) same
      ∙ sym (append_assoc segments (planned_as entry (Some own) [] ∷ []) (planned known left more));
  taken = was.taken;
  limit = was.limit;
  sound = all_push IsSound segments (planned_as entry (Some own) []) was.sound (record { agree = is.agree; long = is.long });
}

-- an entry that is new
planning_new : OrderIsNothing → (known : List KnownSegment) (entry : EntryState) (left all : List EntryState) (old now after : Pool) (segments : List PlannedSegment) (it : PlannedSegment)
    → known_as known entry.id ≡ None → IsPlannedIn now entry it → IsPermutation (it.extent ∷ now.taken) after.taken → after.limit ≡ now.limit
    → IsPlanning known (entry ∷ left) all old now segments → IsPlanning known left all old after (segments ++ it ∷ [])
planning_new order known entry left all old now after segments it new is taken limit was =
    let size : ℕ = length (segment_text entry.columns) in
    let sizes : List ℕ = new_sizes known left in
    let behind : placed now.limit (it.extent ∷ now.taken) sizes ≡ placed after.limit after.taken sizes
    = order now.limit sizes (it.extent ∷ now.taken) after.taken taken ∙ ap (λ (n : ℕ). placed n after.taken sizes) (sym limit) in
    record {
      extents = was.extents ++ it.extent ∷ [];
      placed_are =
          was.placed_are
          ∙ ap (λ (own : Option KnownSegment). option_map (λ (more : List Extent). was.extents ++ more) (placed now.limit now.taken (cons_option (size_unless entry own) sizes))) new
          ∙ ap (λ (own : Option Extent). option_map (λ (more : List Extent). was.extents ++ more) (in_front_of own (placed now.limit (with_taken own now.taken) sizes))) is.fits
          ∙ more_in_front was.extents it.extent (placed now.limit (it.extent ∷ now.taken) sizes)
          ∙ ap (option_map (λ (more : List Extent). (was.extents ++ it.extent ∷ []) ++ more)) behind;
      segments_are = λ more.
          ap (planned known all) (append_assoc was.extents (it.extent ∷ []) more)
          ∙ was.segments_are (it.extent ∷ more)
          ∙ ap (λ (own : Option KnownSegment). segments ++ (planned_as entry own (it.extent ∷ more) ∷ planned known left (extents_left own (it.extent ∷ more)))) new
          ∙ ap (λ (own : PlannedSegment). segments ++ (own ∷ planned known left more)) (sym (planned_is entry it more now is))
          ∙ sym (append_assoc segments (it ∷ []) (planned known left more));
      taken =
          IsPermutation-trans ((was.extents ++ it.extent ∷ []) ++ old.taken) (it.extent ∷ now.taken) after.taken
          (subst (λ (front : List Extent). IsPermutation front (it.extent ∷ now.taken)) (sym (append_assoc was.extents (it.extent ∷ []) old.taken))
          (IsPermutation-trans (was.extents ++ it.extent ∷ old.taken) (it.extent ∷ (was.extents ++ old.taken)) (it.extent ∷ now.taken)
          (IsPermutation-middle was.extents it.extent old.taken)
          (IsPermutation-cons it.extent (was.extents ++ old.taken) now.taken was.taken)))
          taken;
      limit = limit ∙ was.limit;
      sound = all_push IsSound segments it was.sound (sound_new entry now it is);
    }
  where
    sound_new : (entry : EntryState) (now : Pool) (it : PlannedSegment) → IsPlannedIn now entry it → IsSound it
    sound_new entry now it is = record {
      agree = subst (λ (own : EntryState). AreColumns own.columns) (sym is.entry) is.agree;
      long = fit_length (length (segment_text entry.columns)) (holes_of now.limit now.taken) it.extent is.fits ∙ ap (λ (own : EntryState). length (segment_text own.columns)) (sym is.entry);
    }

    planned_is : (entry : EntryState) (it : PlannedSegment) (more : List Extent) (now : Pool) → IsPlannedIn now entry it → it ≡ planned_as entry None (it.extent ∷ more)
    planned_is entry it more now is =
        ap (λ (own : EntryState). record { entry = own; live = it.live; before = it.before; extent = it.extent }) is.entry
        ∙ ap (λ (own : List Bool). record { entry = entry; live = own; before = it.before; extent = it.extent }) is.live
        ∙ ap (λ (own : Option Extent). record { entry = entry; live = entry.live.roots; before = own; extent = it.extent }) is.before

pub planning_next : OrderIsNothing → (known : List KnownSegment) → AllByRecursion IsKnownSegment known → (entry : EntryState) (left all : List EntryState) (old now after : Pool) (segments : List PlannedSegment) (it : PlannedSegment)
    → IsNextBy (known_as known entry.id) entry now after it → after.limit ≡ now.limit
    → IsPlanning known (entry ∷ left) all old now segments → IsPlanning known left all old after (segments ++ it ∷ [])
planning_next order known knowns entry left all old now after segments it next limit was =
    by_known (known_as known entry.id) refl next
  where
    by_known : (own : Option KnownSegment) → known_as known entry.id ≡ own → IsNextBy own entry now after it → IsPlanning known left all old after (segments ++ it ∷ [])
    by_known None new next = planning_new order known entry left all old now after segments it new next.0 next.1 limit was
    by_known (Some own) same next =
        subst (λ (pool : Pool). IsPlanning known left all old pool (segments ++ it ∷ [])) (sym next.1)
        (subst (λ (segment : PlannedSegment). IsPlanning known left all old now (segments ++ segment ∷ [])) (sym next.0)
        (planning_known known entry left all old now segments own (known_one IsKnownSegment known entry.id own knowns same) same was))

all_pushed : (segments : List Planned) (it : Planned) → all_planned (segments ++ it ∷ []) ≡ all_planned segments ++ planned_seen it ∷ []
all_pushed [] it = refl
all_pushed (first ∷ segments) it = ap (λ (rest : List PlannedSegment). planned_seen first ∷ rest) (all_pushed segments it)

-- one turn
pub planning_turn : OrderIsNothing → (known : List KnownSegment) → AllByRecursion IsKnownSegment known → (all : List EntryState) (index : ℕ) (entry : EntryState) → index < length all → entry ≡ get_or all index entry
    → (old now after : Pool) (segments more : List Planned) (it : Planned) → IsNextBy (known_as known entry.id) entry now after (planned_seen it) → after.limit ≡ now.limit
    → more ≡ segments ++ it ∷ [] → IsPlanning known (drop index all) all old now (all_planned segments) → IsPlanning known (drop (index + 1) all) all old after (all_planned more)
planning_turn order known knowns all index entry low is old now after segments more it next limit pushed was =
    subst (λ (own : List PlannedSegment). IsPlanning known (drop (index + 1) all) all old after own) (sym (ap all_planned pushed ∙ all_pushed segments it))
    (planning_next order known knowns entry (drop (index + 1) all) all old now after (all_planned segments) (planned_seen it) next limit
    (subst (λ (left : List EntryState). IsPlanning known left all old now (all_planned segments))
    (drop_more all index entry low ∙ ap (λ (x : EntryState). x ∷ drop (index + 1) all) (sym is)) was))

pub planning_full : (known : List KnownSegment) (entry : EntryState) (left all : List EntryState) (old now : Pool) (segments : List PlannedSegment)
    → IsFullBy (known_as known entry.id) entry now → IsPlanning known (entry ∷ left) all old now segments → placed_in known all old ≡ None
planning_full known entry left all old now segments full was = by_known (known_as known entry.id) refl full
  where
    by_known : (own : Option KnownSegment) → known_as known entry.id ≡ own → IsFullBy own entry now → placed_in known all old ≡ None
    by_known None new full =
        was.placed_are
        ∙ ap (λ (own : Option KnownSegment). option_map (λ (more : List Extent). was.extents ++ more) (placed now.limit now.taken (cons_option (size_unless entry own) (new_sizes known left)))) new
        ∙ ap (λ (own : Option Extent). option_map (λ (more : List Extent). was.extents ++ more) (in_front_of own (placed now.limit (with_taken own now.taken) (new_sizes known left)))) full
    by_known (Some own) same full = absurd full

pub planning_end : (known : List KnownSegment) (all : List EntryState) (old now : Pool) (segments : List PlannedSegment) → IsPlanning known [] all old now segments
    → ArePlanned known all old now segments
planning_end known all old now segments was = record {
  extents = was.extents;
  placed_are = was.placed_are ∙ ap (λ (it : List Extent). Some it) (append-nil was.extents);
  segments_are = sym (append-nil segments) ∙ sym (was.segments_are []) ∙ ap (planned known all) (append-nil was.extents);
  taken = was.taken;
  sound = was.sound;
}

pub ruleset planning = (planning_start, planning_next, planning_full, planning_end)
