-- Segments are offered places nearer to the front, one after another.
use Rattle.std.proofs.Common.{◌≡◌, ◌≢◌, ℕ, suc, ◌+◌, ◌<◌, true, false, List, [], ◌∷◌, length, map, slice_get, slice_set, IsSomeAnd, IsPermutation, Option, None, Some, refl, sym, ◌∙◌, ap, subst, arith}
use Rattle.std.specs.List.{AllByRecursion}
use Rattle.extent_pool.specs.Placing.{NamedExtent, better, last_before, last_ones, moved, moved_to, with_taken}
use Rattle.extent_pool.specs.declared.extent.Extent.{Extent}
use Rattle.machine.specs.Storing.{with_move}
use Rattle.commit_store.specs.Known.{StoreState}
use Rattle.commit_store.specs.Moving.{IsMovedTo, IsOffered, SaysAsMuch, moved_into, named_planned}
use Rattle.commit_store.specs.Preparing.{PlannedSegment, PreparedState, IsPreparedBy}
use Rattle.store_compact.specs.declared.moves.Candidate.{Candidate}
use Rattle.store_compact.specs.Moves.{AllStayBelow, AreMoved, AreMoving, IsCandidate, IsLastFrom, IsOffering, StaysBelow, all_named, befores, moves_left}
use Rattle.store_compact.proofs.Candidates.{some_once}
use Rattle.store_compact.proofs.Ids.{all_set, befores_set, entries_in, entries_set, have_ids, moved_first, no_moves, one_extent, segment_at}
use Rattle.store_compact.proofs.Ones.{last_lower, moved_all, none_left, one_left, ones_lower}

-- in whatever order what is taken is listed, the same moves
abbrev pub MovesLaw : Type 0
MovesLaw = (limit : ℕ) (named : List NamedExtent) (ones others : List Extent) → IsPermutation ones others → moved limit ones named ≡ moved limit others named

-- ---- the begin and the end

pub begun : (store : StoreState) (most : ℕ) (prepared : PreparedState) → IsPreparedBy store prepared → AllStayBelow prepared.limit prepared.segments
    → IsOffering store most most 0 store.limit prepared prepared
begun store most prepared by stay =
    subst (λ (at : ℕ). IsOffering store most most 0 at prepared prepared) by.limit (record {
      fewer = omega arith;
      moving = record { count_is = omega arith; segments = refl; entries = refl; record_extent = refl };
      stay = stay;
      by = by;
      says = λ m next view says. says;
    })

ended_with : (most left count at : ℕ) (old now : PreparedState) → AreMoving most left count at old now → moves_left left at now ≡ [] → AreMoved most count old now
ended_with most left count at old now it none = record {
  count_is = let rest = ap length none in omega (arith, it.count_is, rest);
  segments = sym (no_moves (all_named now)) ∙ ap (λ (moves : List NamedExtent). map (with_move moves) (all_named now)) (sym none) ∙ it.segments;
  entries = it.entries;
  record_extent = it.record_extent;
}

-- no segment is left
pub stopped : (store : StoreState) (most left count at : ℕ) (old now : PreparedState) → IsOffering store most left count at old now → last_before at (befores now.segments) ≡ None
    → AreMoved most count old now
stopped store most left count at old now it none =
    ended_with most left count at old now it.moving (ap (moved now.limit now.taken) (none_left left at (befores now.segments) none))

-- all that were to be offered were
pub ended : (store : StoreState) (most left count at : ℕ) (old now : PreparedState) → IsOffering store most left count at old now → left ≡ 0 → AreMoved most count old now
ended store most left count at old now it done =
    ended_with most left count at old now it.moving (ap (λ (n : ℕ). moves_left n at now) done)

-- ---- a segment that is offered

last_is : (now : PreparedState) (at : ℕ) (it : Candidate) → (own : IsCandidate 0 now.segments at it) → last_before at (befores now.segments) ≡ Some (record { id = own.segment.entry.id; extent = it.extent })
last_is now at it own = own.last

all_named_ids : (named : List NamedExtent) → AllByRecursion (λ (it : NamedExtent). it ≡ it) named
all_named_ids [] = tt
all_named_ids (it ∷ named) = (refl, all_named_ids named)

before_at : (now : PreparedState) (at : ℕ) (it : Candidate) → IsCandidate 0 now.segments at it → it.extent.at < at
before_at now at it own =
    (last_lower (λ (named : NamedExtent). named ≡ named) at (befores now.segments) (record { id = own.segment.entry.id; extent = it.extent }) (all_named_ids (befores now.segments)) own.last).1

-- it hasn't moved
stands : (now : PreparedState) (at : ℕ) (it : Candidate) → AllStayBelow at now.segments → (own : IsCandidate 0 now.segments at it) → own.segment.before ≡ Some own.segment.extent
stands now at it stay own = segment_at (StaysBelow at) now.segments it.place own.segment stay own.there it.extent own.before (before_at now at it own)

pub may_offer : (store : StoreState) (most left count at : ℕ) (old now : PreparedState) (it : Candidate) → IsOffering store most left count at old now → IsLastFrom 0 now.segments at (Some it)
    → IsSomeAnd (slice_get now.segments it.place) (λ (segment : PlannedSegment). segment.before ≡ Some segment.extent)
may_offer store most left count at old now it is own =
    subst (λ (found : Option PlannedSegment). IsSomeAnd found (λ (segment : PlannedSegment). segment.before ≡ Some segment.extent)) (sym own.there) (stands now at it is.stay own)

named_is : (now : PreparedState) (at : ℕ) (it : Candidate) → AllStayBelow at now.segments → (own : IsCandidate 0 now.segments at it)
    → record { id = own.segment.entry.id; extent = it.extent } ≡ named_planned own.segment
named_is now at it stay own =
    ap (λ (extent : Extent). record { id = own.segment.entry.id; extent = extent }) (some_once it.extent own.segment.extent (sym own.before ∙ stands now at it stay own))

-- the moves that are left before it is offered
moves_are : (left at : ℕ) (now : PreparedState) (it : Candidate) → AllStayBelow at now.segments → (own : IsCandidate 0 now.segments at it)
    → moves_left (left + 1) at now
    ≡ moved_to (named_planned own.segment) (better now.limit now.taken (named_planned own.segment))
    (moved now.limit (with_taken (better now.limit now.taken (named_planned own.segment)) now.taken) (last_ones left it.extent.at (befores now.segments)))
moves_are left at now it stay own =
    ap (λ (n : ℕ). moved now.limit now.taken (last_ones n at (befores now.segments))) (let e : left + 1 ≡ suc left = omega arith in e)
    ∙ ap (moved now.limit now.taken) (one_left left at (befores now.segments) (record { id = own.segment.entry.id; extent = it.extent }) own.last)
    ∙ ap (λ (named : NamedExtent). moved now.limit now.taken (named ∷ last_ones left it.extent.at (befores now.segments))) (named_is now at it stay own)

stays_on : (place now : ℕ) (segments : List PlannedSegment) → place < now → AllStayBelow now segments → AllStayBelow place segments
stays_on place now [] before all = tt
stays_on place now (segment ∷ segments) before all =
    (λ extent had less. all.0 extent had (omega (arith, less, before)), stays_on place now segments before all.1)

-- it stays
kept_going : (most left count at : ℕ) (old now : PreparedState) (it : Candidate) → AllStayBelow at now.segments → AreMoving most (left + 1) count at old now → (own : IsCandidate 0 now.segments at it)
    → better now.limit now.taken (named_planned own.segment) ≡ None → AreMoving most left count it.extent.at old now
kept_going most left count at old now it stay is own none =
    let same : moves_left (left + 1) at now ≡ moves_left left it.extent.at now
    = moves_are left at now it stay own
    ∙ ap (λ (found : Option Extent). moved_to (named_planned own.segment) found (moved now.limit (with_taken found now.taken) (last_ones left it.extent.at (befores now.segments)))) none in
    record {
      count_is = let long = ap length same in omega (arith, is.count_is, long);
      segments = ap (λ (moves : List NamedExtent). map (with_move moves) (all_named now)) (sym same) ∙ is.segments;
      entries = is.entries;
      record_extent = is.record_extent;
    }

-- none of those left has its id
others_left : (store : StoreState) (left at : ℕ) (now : PreparedState) (it : Candidate) (limit : ℕ) (taken : List Extent) → IsPreparedBy store now → (own : IsCandidate 0 now.segments at it)
    → AllByRecursion (λ (named : NamedExtent). named.id ≢ own.segment.entry.id) (moved limit taken (last_ones left it.extent.at (befores now.segments)))
others_left store left at now it limit taken by own =
    moved_all (λ (id : ℕ). id ≢ own.segment.entry.id) limit taken (last_ones left it.extent.at (befores now.segments))
    (no_others (last_ones left it.extent.at (befores now.segments))
    (ones_lower (λ (named : NamedExtent). named.id ≡ own.segment.entry.id → named.extent.at ≡ it.extent.at) left it.extent.at (befores now.segments)
    (one_extent now.segments it.place own.segment it.extent (have_ids (entries_in now.segments) by.ids) own.there own.before)))
  where
    no_others : (named : List NamedExtent) → AllByRecursion (λ (one : NamedExtent). (one.id ≡ own.segment.entry.id → one.extent.at ≡ it.extent.at) × (one.extent.at < it.extent.at)) named
        → AllByRecursion (λ (one : NamedExtent). one.id ≢ own.segment.entry.id) named
    no_others [] all = tt
    no_others (one ∷ named) all = (λ same. omega (arith, all.0.0 same, all.0.1), no_others named all.1)

-- it moves
moved_on : MovesLaw → (store : StoreState) (most left count at : ℕ) (old now next : PreparedState) (it : Candidate) (extent : Extent) → IsPreparedBy store now → AllStayBelow at now.segments
    → AreMoving most (left + 1) count at old now → (own : IsCandidate 0 now.segments at it) → IsMovedTo own.segment extent it.place now next → AreMoving most left (count + 1) it.extent.at old next
moved_on law store most left count at old now next it extent by stay is own to =
    let set : List PlannedSegment = slice_set now.segments it.place (moved_into extent own.segment) in
    let named : NamedExtent = record { id = own.segment.entry.id; extent = extent } in
    let befores_are : befores next.segments ≡ befores now.segments = ap befores to.segments ∙ befores_set now.segments it.place own.segment extent own.there in
    let rest : moved now.limit (extent ∷ now.taken) (last_ones left it.extent.at (befores now.segments)) ≡ moves_left left it.extent.at next
    = law now.limit (last_ones left it.extent.at (befores now.segments)) (extent ∷ now.taken) next.taken to.taken
    ∙ ap (λ (n : ℕ). moved n next.taken (last_ones left it.extent.at (befores now.segments))) (sym to.limit)
    ∙ ap (λ (own_befores : List NamedExtent). moved next.limit next.taken (last_ones left it.extent.at own_befores)) (sym befores_are) in
    let same : moves_left (left + 1) at now ≡ named ∷ moves_left left it.extent.at next
    = moves_are left at now it stay own
    ∙ ap (λ (found : Option Extent). moved_to (named_planned own.segment) found (moved now.limit (with_taken found now.taken) (last_ones left it.extent.at (befores now.segments)))) to.better_is
    ∙ ap (λ (moves : List NamedExtent). named ∷ moves) rest in
    let others : AllByRecursion (λ (one : NamedExtent). one.id ≢ own.segment.entry.id) (moves_left left it.extent.at next)
    = subst (AllByRecursion (λ (one : NamedExtent). one.id ≢ own.segment.entry.id)) rest (others_left store left at now it now.limit (extent ∷ now.taken) by own) in
    record {
      count_is = let long = ap length same in omega (arith, is.count_is, long);
      segments =
          ap (λ (segments : List PlannedSegment). map (with_move (moves_left left it.extent.at next)) (map named_planned segments)) to.segments
          ∙ sym (moved_first extent (moves_left left it.extent.at next) now.segments it.place own.segment (have_ids (entries_in now.segments) by.ids) own.there others)
          ∙ ap (λ (moves : List NamedExtent). map (with_move moves) (all_named now)) (sym same)
          ∙ is.segments;
      entries = ap entries_in to.segments ∙ entries_set now.segments it.place own.segment extent own.there ∙ is.entries;
      record_extent = to.record_extent ∙ is.record_extent;
    }

stay_moved : (at : ℕ) (now next : PreparedState) (it : Candidate) (extent : Extent) → AllStayBelow at now.segments → (own : IsCandidate 0 now.segments at it)
    → IsMovedTo own.segment extent it.place now next → AllStayBelow it.extent.at next.segments
stay_moved at now next it extent stay own to =
    subst (AllStayBelow it.extent.at) (sym to.segments)
    (all_set (StaysBelow it.extent.at) now.segments it.place (moved_into extent own.segment) (stays_on it.extent.at at now.segments (before_at now at it own) stay)
    (λ before had less. absurd (omega (arith, less, ap (λ (one : Extent). one.at) (some_once before it.extent (sym had ∙ own.before))))))

says_on : (store : StoreState) (old now next : PreparedState) → SaysAsMuch store old now → SaysAsMuch store now next → SaysAsMuch store old next
says_on store old now next one other m after view says = other m after view (one m after view says)

pub offered_moved : MovesLaw → (store : StoreState) (most left behind count more at : ℕ) (old now next : PreparedState) (it : Candidate) → left ≡ behind + 1 → more ≡ count + 1
    → IsOffering store most left count at old now → IsLastFrom 0 now.segments at (Some it) → IsOffered true it.place now next → IsPreparedBy store next → SaysAsMuch store now next
    → IsOffering store most behind more it.extent.at old next
offered_moved law store most left behind count more at old now next it same_left same_count is own offered by says =
    let to = offered own.segment own.there in
    let moving : AreMoving most (behind + 1) count at old now = subst (λ (n : ℕ). AreMoving most n count at old now) same_left is.moving in
    record {
      fewer = omega (arith, is.fewer, same_left, same_count);
      moving = subst (λ (n : ℕ). AreMoving most behind n it.extent.at old next) (sym same_count) (moved_on law store most behind count at old now next it to.0 is.by is.stay moving own to.1);
      stay = stay_moved at now next it to.0 is.stay own to.1;
      by = by;
      says = says_on store old now next is.says says;
    }

pub offered_kept : (store : StoreState) (most left behind count at : ℕ) (old now next : PreparedState) (it : Candidate) → left ≡ behind + 1
    → IsOffering store most left count at old now → IsLastFrom 0 now.segments at (Some it) → IsOffered false it.place now next
    → IsOffering store most behind count it.extent.at old next
offered_kept store most left behind count at old now next it same_left is own offered =
    let kept = offered own.segment own.there in
    let moving : AreMoving most (behind + 1) count at old now = subst (λ (n : ℕ). AreMoving most n count at old now) same_left is.moving in
    subst (λ (one : PreparedState). IsOffering store most behind count it.extent.at old one) (sym kept.1) (record {
      fewer = omega (arith, is.fewer, same_left);
      moving = kept_going most behind count at old now it is.stay moving own kept.0;
      stay = stays_on it.extent.at at now.segments (before_at now at it own) is.stay;
      by = is.by;
      says = is.says;
    })

pub ruleset offering = (begun, stopped, ended, may_offer, offered_moved, offered_kept)
