-- Ids as the keys of a map.
use Rattle.std.proofs.Common.{◌≡◌, ◌+◌, ◌≤◌, ℕ, nat_eq, Bool, true, false, not, cond, ◌||◌, List, [], ◌∷◌, ◌++◌, length, map, filter, find, Some, None, is_some, refl, sym, ap, ◌∙◌, arith}
use Rattle.std.specs.List.{AllByRecursion, IsDistinct}
use Rattle.std.specs.Map.{keys_of, lookup, remove_entry}
use Rattle.std.specs.Option.{option_map}
use Rattle.std.proofs.lemmas.Bool.Decides.{nat_tests}
use Rattle.std.proofs.lemmas.Bool.{eqb-true, eq-eqb, true≢false}
use Rattle.std.proofs.lemmas.List.{length_push, map-append}
use Rattle.std.proofs.lemmas.Map.Keys.{IsDistinct-head, IsDistinct-tail}
use Rattle.segment.specs.Live.{EntryState}
use Rattle.point_in_time.specs.Points.{KeptPoint, KeptPoints, ArePoints, entries_at, entries_under, has_point_id, is_full, is_open, is_other, most_open, point_of}

-- the map's entries: an id each, with the entries of a view
abbrev pub Views : Type 0
Views = List (ℕ × List EntryState)

flip : (a b : ℕ) → nat_eq a b ≡ nat_eq b a
flip a b = by (nat_eq a b) (nat_eq b a) refl refl
  where
    by : (p q : Bool) → nat_eq a b ≡ p → nat_eq b a ≡ q → p ≡ q
    by true true one other = refl
    by true false one other = absurd (true≢false (sym (eq-eqb b a (sym (eqb-true a b one))) ∙ other))
    by false true one other = absurd (true≢false (sym (eq-eqb a b (sym (eqb-true b a other))) ∙ one))
    by false false one other = refl

pub found_under : (id : ℕ) (views : Views) → lookup (nat_eq id) views ≡ entries_under id (map point_of views)
found_under id [] = refl
found_under id (view ∷ views) =
    ap (λ b. cond b (Some view.1) (lookup (nat_eq id) views)) (flip id view.0) ∙ step (has_point_id id (point_of view)) (found_under id views)
  where
    step : (b : Bool) → lookup (nat_eq id) views ≡ entries_under id (map point_of views)
        → cond b (Some view.1) (lookup (nat_eq id) views) ≡ option_map entries_at (cond b (Some (point_of view)) (find (has_point_id id) (map point_of views)))
    step true more = refl
    step false more = more

pub is_under : (id : ℕ) (views : Views) → is_some (lookup (nat_eq id) views) ≡ is_open id (map point_of views)
is_under id [] = refl
is_under id (view ∷ views) =
    ap (λ b. is_some (cond b (Some view.1) (lookup (nat_eq id) views))) (flip id view.0) ∙ step (has_point_id id (point_of view)) (is_under id views)
  where
    step : (b : Bool) → is_some (lookup (nat_eq id) views) ≡ is_open id (map point_of views) → is_some (cond b (Some view.1) (lookup (nat_eq id) views)) ≡ (b || is_open id (map point_of views))
    step true more = refl
    step false more = more

-- ---- closing

others_stay : (id : ℕ) (views : Views) → AllByRecursion (λ (other : ℕ). nat_eq id other ≡ false) (keys_of views) → filter (is_other id) (map point_of views) ≡ map point_of views
others_stay id [] apart = refl
others_stay id (view ∷ views) apart =
    ap (λ b. cond (not b) (point_of view ∷ filter (is_other id) (map point_of views)) (filter (is_other id) (map point_of views))) (flip view.0 id ∙ apart.0)
    ∙ ap (λ points. point_of view ∷ points) (others_stay id views apart.1)

pub taken_out : (id : ℕ) (views : Views) → IsDistinct nat_eq (keys_of views) → map point_of (remove_entry (nat_eq id) views) ≡ filter (is_other id) (map point_of views)
taken_out id [] apart = refl
taken_out id (view ∷ views) apart =
    ap (λ b. map point_of (cond b views (view ∷ remove_entry (nat_eq id) views))) (flip id view.0) ∙ step (has_point_id id (point_of view)) refl (taken_out id views (IsDistinct-tail nat_eq view.0 (keys_of views) apart))
  where
    step : (b : Bool) → has_point_id id (point_of view) ≡ b → map point_of (remove_entry (nat_eq id) views) ≡ filter (is_other id) (map point_of views)
        → map point_of (cond b views (view ∷ remove_entry (nat_eq id) views)) ≡ cond (not b) (point_of view ∷ filter (is_other id) (map point_of views)) (filter (is_other id) (map point_of views))
    step true is more =
        let same : view.0 ≡ id = eqb-true view.0 id is in
        sym (others_stay id views (rw (← same) (IsDistinct-head nat_eq view.0 (keys_of views) apart)))
    step false is more = ap (λ points. point_of view ∷ points) more

filtered_ids : (opened id : ℕ) (points : List KeptPoint) → AllByRecursion (λ (point : KeptPoint). point.id ≤ opened) points
    → AllByRecursion (λ (point : KeptPoint). point.id ≤ opened) (filter (is_other id) points)
filtered_ids opened id [] ids = tt
filtered_ids opened id (point ∷ points) ids = step (has_point_id id point) (filtered_ids opened id points ids.1)
  where
    step : (b : Bool) → AllByRecursion (λ (point : KeptPoint). point.id ≤ opened) (filter (is_other id) points)
        → AllByRecursion (λ (point : KeptPoint). point.id ≤ opened) (cond (not b) (point ∷ filter (is_other id) points) (filter (is_other id) points))
    step true more = more
    step false more = (ids.0, more)

fewer : (id : ℕ) (points : List KeptPoint) → length (filter (is_other id) points) ≤ length points
fewer id [] = omega arith
fewer id (point ∷ points) = step (has_point_id id point) (fewer id points)
  where
    step : (b : Bool) → length (filter (is_other id) points) ≤ length points
        → length (cond (not b) (point ∷ filter (is_other id) points) (filter (is_other id) points)) ≤ length (point ∷ points)
    step true more = omega (arith, more)
    step false more = omega (arith, more)

pub points_closed : (id opened : ℕ) (points : List KeptPoint) → ArePoints (record { points = points; opened = opened }) → ArePoints (record { points = filter (is_other id) points; opened = opened })
points_closed id opened points are = record {
  ids = filtered_ids opened id points are.ids;
  few = omega (arith, are.few, fewer id points);
}

-- ---- opening

pub not_yet : (opened : ℕ) (views : Views) → AllByRecursion (λ (point : KeptPoint). point.id ≤ opened) (map point_of views) → lookup (nat_eq (opened + 1)) views ≡ None
not_yet opened [] ids = refl
not_yet opened (view ∷ views) ids = step (nat_eq (opened + 1) view.0) refl (not_yet opened views ids.1)
  where
    step : (b : Bool) → nat_eq (opened + 1) view.0 ≡ b → lookup (nat_eq (opened + 1)) views ≡ None → cond b (Some view.1) (lookup (nat_eq (opened + 1)) views) ≡ None
    step true is more = let same : opened + 1 ≡ view.0 = eqb-true (opened + 1) view.0 is in absurd (omega (arith, ids.0))
    step false is more = more

more_ids : (opened : ℕ) (entries : List EntryState) (points : List KeptPoint) → AllByRecursion (λ (point : KeptPoint). point.id ≤ opened) points
    → AllByRecursion (λ (point : KeptPoint). point.id ≤ opened + 1) (points ++ record { id = opened + 1; entries = entries } ∷ [])
more_ids opened entries [] ids = (omega arith, tt)
more_ids opened entries (point ∷ points) ids = (omega (arith, ids.0), more_ids opened entries points ids.1)

pub points_opened : (opened : ℕ) (entries : List EntryState) (points : List KeptPoint) → ArePoints (record { points = points; opened = opened }) → length points + 1 ≤ most_open
    → ArePoints (record { points = points ++ record { id = opened + 1; entries = entries } ∷ []; opened = opened + 1 })
points_opened opened entries points are room = record {
  ids = more_ids opened entries points are.ids;
  few = omega (arith, room, length_push points (record { id = opened + 1; entries = entries }));
}

-- the map's entries after one is put under the next id
pub put_next : (opened : ℕ) (entries : List EntryState) (views views' : Views) → views' ≡ views ++ (opened + 1, entries) ∷ []
    → map point_of views' ≡ map point_of views ++ record { id = opened + 1; entries = entries } ∷ []
put_next opened entries views views' e = ap (map point_of) e ∙ map-append point_of views ((opened + 1, entries) ∷ [])

-- where not as many are open as may be, there is room for one
pub room_for_one : (kept : KeptPoints) → is_full kept ≡ false → length kept.points + 1 ≤ most_open
room_for_one kept free = grind (arith, nat_tests)
