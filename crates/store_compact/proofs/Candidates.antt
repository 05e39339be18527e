-- The segment that stood last before a place, looked for from the end of the view on.
use Rattle.std.proofs.Common.{◌≡◌, ℕ, zero, suc, ◌+◌, ◌<◌, cond, nat_lt, Bool, true, false, List, [], ◌∷◌, length, drop, slice_get, Option, None, Some, unwrap_or, refl, sym, ◌∙◌, ap, arith}
use Rattle.std.proofs.lemmas.Option.{none-some}
use Rattle.extent_pool.specs.Placing.{NamedExtent, last_before, later_of}
use Rattle.extent_pool.specs.declared.extent.Extent.{Extent}
use Rattle.commit_store.specs.Preparing.{PlannedSegment, before_in}
use Rattle.store_compact.specs.declared.moves.Candidate.{Candidate}
use Rattle.store_compact.specs.Moves.{IsCandidate, IsLastFrom, befores, later_candidate, with_before}

pub some_once : {A : Type 0} (one other : A) → Some one ≡ Some other → one ≡ other
some_once one other same = ap (λ it. unwrap_or it one) same

drop_at : (segments : List PlannedSegment) (place : ℕ) (segment : PlannedSegment) → slice_get segments place ≡ Some segment → drop place segments ≡ segment ∷ drop (suc place) segments
drop_at [] place segment there = absurd (none-some segment there)
drop_at (first ∷ segments) zero segment there = ap (λ (it : PlannedSegment). it ∷ segments) (some_once first segment there)
drop_at (first ∷ segments) (suc place) segment there = drop_at segments place segment there

drop_end : (segments : List PlannedSegment) → drop (length segments) segments ≡ []
drop_end [] = refl
drop_end (segment ∷ segments) = drop_end segments

inside : (segments : List PlannedSegment) (place : ℕ) → place < length segments → (segment : PlannedSegment) × (slice_get segments place ≡ Some segment)
inside [] place less = absurd (omega (arith, less))
inside (segment ∷ segments) zero less = (segment, refl)
inside (segment ∷ segments) (suc place) less = inside segments place (omega (arith, less))

-- what is so from one segment on is so from another on that leaves the same extents
shifted : (from to : ℕ) (segments : List PlannedSegment) (at : ℕ) (last : Option Candidate) → befores (drop to segments) ≡ befores (drop from segments) → IsLastFrom from segments at last
    → IsLastFrom to segments at last
shifted from to segments at None same is = ap (last_before at) same ∙ is
shifted from to segments at (Some it) same is = record { segment = is.segment; there = is.there; before = is.before; last = ap (last_before at) same ∙ is.last }

pub none_yet : (segments : List PlannedSegment) (at place : ℕ) → place ≡ length segments → IsLastFrom place segments at None
none_yet segments at place same = ap (λ (n : ℕ). last_before at (befores (drop n segments))) same ∙ ap (λ (it : List PlannedSegment). last_before at (befores it)) (drop_end segments)

pub passed_over : (segments : List PlannedSegment) (at place behind : ℕ) (last : Option Candidate) → behind ≡ place + 1 → place < length segments
    → before_in (slice_get segments place) ≡ None → IsLastFrom behind segments at last → IsLastFrom place segments at last
passed_over segments at place behind last next less none is =
    let there = inside segments place less in
    let before : there.0.before ≡ None = ap before_in (sym there.1) ∙ none in
    shifted behind place segments at last
    (ap befores (drop_at segments place there.0 there.1)
    ∙ ap (λ (it : Option Extent). with_before there.0.entry.id it (befores (drop (suc place) segments))) before
    ∙ ap (λ (n : ℕ). befores (drop n segments)) (let e : suc place ≡ behind = omega (arith, next) in e))
    is

pub looked_at : (segments : List PlannedSegment) (at place behind : ℕ) (extent : Extent) (last : Option Candidate) → behind ≡ place + 1 → place < length segments
    → before_in (slice_get segments place) ≡ Some extent → IsLastFrom behind segments at last
    → IsLastFrom place segments at (later_candidate at (record { place = place; extent = extent }) last)
looked_at segments at place behind extent last next less some is = by_last last is
  where
    there : (segment : PlannedSegment) × (slice_get segments place ≡ Some segment)
    there = inside segments place less

    before : there.0.before ≡ Some extent
    before = ap before_in (sym there.1) ∙ some

    own : NamedExtent
    own = record { id = there.0.entry.id; extent = extent }

    it : Candidate
    it = record { place = place; extent = extent }

    whole : last_before at (befores (drop place segments)) ≡ later_of at own (last_before at (befores (drop behind segments)))
    whole =
        ap (λ (rest : List PlannedSegment). last_before at (befores rest)) (drop_at segments place there.0 there.1)
        ∙ ap (λ (o : Option Extent). last_before at (with_before there.0.entry.id o (befores (drop (suc place) segments)))) before
        ∙ ap (λ (n : ℕ). later_of at own (last_before at (befores (drop n segments)))) (let e : suc place ≡ behind = omega (arith, next) in e)

    this : last_before at (befores (drop place segments)) ≡ Some own → IsCandidate place segments at it
    this found = record { segment = there.0; there = there.1; before = before; last = found }

    alone : (b : Bool) → last_before at (befores (drop place segments)) ≡ cond b (Some own) None → IsLastFrom place segments at (cond b (Some it) None)
    alone true found = this found
    alone false found = found

    beside : (best : Candidate) (segment : PlannedSegment) (b c : Bool) → slice_get segments best.place ≡ Some segment → segment.before ≡ Some best.extent
        → last_before at (befores (drop place segments)) ≡ cond b (cond c (Some own) (Some (record { id = segment.entry.id; extent = best.extent }))) (Some (record { id = segment.entry.id; extent = best.extent }))
        → IsLastFrom place segments at (cond b (cond c (Some it) (Some best)) (Some best))
    beside best segment true true is_there had found = this found
    beside best segment true false is_there had found = record { segment = segment; there = is_there; before = had; last = found }
    beside best segment false c is_there had found = record { segment = segment; there = is_there; before = had; last = found }

    by_last : (one : Option Candidate) → IsLastFrom behind segments at one → IsLastFrom place segments at (later_candidate at it one)
    by_last None none = alone (nat_lt extent.at at) (whole ∙ ap (later_of at own) none)
    by_last (Some best) found =
        beside best found.segment (nat_lt extent.at at) (nat_lt best.extent.at extent.at) found.there found.before (whole ∙ ap (later_of at own) found.last)

pub ruleset candidates = (none_yet, passed_over, looked_at)
