-- Points in time: those that are kept stand for those of the machine, one for another.
use Rattle.std.proofs.Common.{◌≡◌, ◌+◌, ◌==◌, ℕ, suc, Bool, true, false, not, cond, ◌||◌, nat_le, List, [], ◌∷◌, ◌++◌, length, filter, Option, Some, None, refl, sym, ap, subst}
use Rattle.std.proofs.lemmas.List.Elements.{All-append, All-cons, All-filter, All-nil}
use Rattle.std.specs.List.{AllZip, find, list_any}
use Rattle.std.specs.Option.{option_map}
use Rattle.flattener.specs.Fits.{ViewFits}
use Rattle.machine.specs.Points as machine
use Rattle.machine.specs.Searching.{has_point_id}
use Rattle.machine.specs.State.{PointInTime, PointsInTime}
use Rattle.mapping.specs.Mapping.{Mapping}
use Rattle.point_in_time.specs.Points as kept
use Rattle.point_in_time.specs.Points.{KeptPoint, KeptPoints, entries_at, entries_under, is_full, is_open, is_other, with_point, without_point}
use Rattle.segment.specs.Live.{EntryState}
use Rattle.tree_objects.specs.Tree.{Tree}
use Rattle.index_trees.specs.Faithful.{EntriesStandFor, PointStandsFor, PointsStand}
use Rattle.engine.specs.Kept.{PointsFit}
use Rattle.engine.proofs.Updating.{found_holds}

-- ---- one for another

pub zip_length : {X Y : Type 0} (R : X → Y → Type 0) (xs : List X) (ys : List Y) → AllZip R xs ys → length xs ≡ length ys
zip_length R [] [] each = refl
zip_length R [] (y ∷ ys) each = absurd each
zip_length R (x ∷ xs) [] each = absurd each
zip_length R (x ∷ xs) (y ∷ ys) each = ap suc (zip_length R xs ys each.1)

pub zip_more : {X Y : Type 0} (R : X → Y → Type 0) (xs : List X) (ys : List Y) (x : X) (y : Y) → AllZip R xs ys → R x y → AllZip R (xs ++ x ∷ []) (ys ++ y ∷ [])
zip_more R [] [] x y each last = (last, tt)
zip_more R [] (b ∷ ys) x y each last = absurd each
zip_more R (a ∷ xs) [] x y each last = absurd each
zip_more R (a ∷ xs) (b ∷ ys) x y each last = (each.0, zip_more R xs ys x y each.1 last)

pub zip_weaker : {X Y : Type 0} (R S : X → Y → Type 0) → ((x : X) (y : Y) → R x y → S x y) → (xs : List X) (ys : List Y) → AllZip R xs ys → AllZip S xs ys
zip_weaker R S so [] [] each = tt
zip_weaker R S so [] (y ∷ ys) each = absurd each
zip_weaker R S so (x ∷ xs) [] each = absurd each
zip_weaker R S so (x ∷ xs) (y ∷ ys) each = (so x y each.0, zip_weaker R S so xs ys each.1)

-- ---- looked up

same_id : (m : Mapping) (id : ℕ) (point : KeptPoint) (other : PointInTime) → PointStandsFor m point other → has_point_id id other ≡ kept.has_point_id id point
same_id m id point other s = ap (λ n. n == id) s.id

abbrev FoundStand : Mapping → Option KeptPoint → Option PointInTime → Type 0
FoundStand m None None = Unit {0}
FoundStand m None (Some other) = ⊥
FoundStand m (Some point) None = ⊥
FoundStand m (Some point) (Some other) = PointStandsFor m point other

found_stand : (m : Mapping) (id : ℕ) (points : List KeptPoint) (others : List PointInTime) → AllZip (PointStandsFor m) points others → FoundStand m (find (kept.has_point_id id) points) (find (has_point_id id) others)
found_stand m id [] [] each = tt
found_stand m id [] (other ∷ others) each = absurd each
found_stand m id (point ∷ points) [] each = absurd each
found_stand m id (point ∷ points) (other ∷ others) each =
    by (kept.has_point_id id point) (has_point_id id other) (same_id m id point other each.0) (found_stand m id points others each.1)
  where
    by : (b c : Bool) → c ≡ b → FoundStand m (find (kept.has_point_id id) points) (find (has_point_id id) others)
        → FoundStand m (cond b (Some point) (find (kept.has_point_id id) points)) (cond c (Some other) (find (has_point_id id) others))
    by true true e more = each.0
    by true false e more = absurd (cc)
    by false true e more = absurd (cc)
    by false false e more = more

abbrev trees_at : PointInTime → List Tree
trees_at point = point.live

-- what a search with a point in time is asked of
pub record IsSearched (m : Mapping) (entries : List EntryState) (searched : Option (List Tree)) : Type 0 where
  pub live : List Tree
  pub is : searched ≡ Some live
  pub stand : EntriesStandFor m entries live

pub point_searched : (m : Mapping) (id : ℕ) (entries : List EntryState) (points : KeptPoints) (others : PointsInTime) → PointsStand m points others → Some entries ≡ entries_under id points.points
    → IsSearched m entries (option_map trees_at (find (has_point_id id) others.points))
point_searched m id entries points others s e =
    by (find (kept.has_point_id id) points.points) (find (has_point_id id) others.points) (found_stand m id points.points others.points s.each) e
  where
    by : (point : Option KeptPoint) (other : Option PointInTime) → FoundStand m point other → Some entries ≡ option_map entries_at point → IsSearched m entries (option_map trees_at other)
    by None None stand is = absurd (cc)
    by None (Some other) stand is = absurd stand
    by (Some point) None stand is = absurd stand
    by (Some point) (Some other) stand is =
        let same : point.entries ≡ entries = cc in
        record { live = other.live; is = refl; stand = subst (λ (own : List EntryState). EntriesStandFor m own other.live) same stand.entries }

pub none_searched : (m : Mapping) (id : ℕ) (points : KeptPoints) (others : PointsInTime) → PointsStand m points others → None ≡ entries_under id points.points
    → option_map trees_at (find (has_point_id id) others.points) ≡ None
none_searched m id points others s e =
    by (find (kept.has_point_id id) points.points) (find (has_point_id id) others.points) (found_stand m id points.points others.points s.each) e
  where
    by : (point : Option KeptPoint) (other : Option PointInTime) → FoundStand m point other → None ≡ option_map entries_at point → option_map trees_at other ≡ None
    by None None stand is = refl
    by None (Some other) stand is = absurd stand
    by (Some point) other stand is = absurd (cc)

pub point_fits : (m : Mapping) (id : ℕ) (entries : List EntryState) (points : KeptPoints) → PointsFit m points → Some entries ≡ entries_under id points.points → ViewFits m entries
point_fits m id entries points fit e =
    by (find (kept.has_point_id id) points.points) (λ point found. found_holds (λ (it : KeptPoint). ViewFits m it.entries) (kept.has_point_id id) points.points point fit found) e
  where
    by : (point : Option KeptPoint) → ((it : KeptPoint) → point ≡ Some it → ViewFits m it.entries) → Some entries ≡ option_map entries_at point → ViewFits m entries
    by None fits is = absurd (cc)
    by (Some point) fits is = let same : point.entries ≡ entries = cc in subst (ViewFits m) same (fits point refl)

-- ---- opened

pub full_same : (m : Mapping) (points : KeptPoints) (others : PointsInTime) → PointsStand m points others → nat_le machine.most_points (length others.points) ≡ is_full points
full_same m points others s = ap (nat_le machine.most_points) (sym (zip_length (PointStandsFor m) points.points others.points s.each))

pub point_opened : (m : Mapping) (entries : List EntryState) (live : List Tree) (points : KeptPoints) (others : PointsInTime) → EntriesStandFor m entries live → PointsStand m points others
    → PointsStand m (with_point entries points) (machine.with_point live others)
point_opened m entries live points others stand s =
    let next = ap (λ n. n + 1) s.opened in
    record { opened = next; each = zip_more (PointStandsFor m) points.points others.points _ _ s.each (record { id = next; entries = stand }) }

pub fit_opened : (m : Mapping) (entries : List EntryState) (points : KeptPoints) → PointsFit m points → ViewFits m entries → PointsFit m (with_point entries points)
fit_opened m entries points fit fits =
    All-append (λ (point : KeptPoint). ViewFits m point.entries) points.points _ fit
    (All-cons (λ (point : KeptPoint). ViewFits m point.entries) (record { id = points.opened + 1; entries = entries }) [] fits (All-nil (λ (point : KeptPoint). ViewFits m point.entries)))

-- ---- closed

pub open_same : (m : Mapping) (id : ℕ) (points : List KeptPoint) (others : List PointInTime) → AllZip (PointStandsFor m) points others → list_any (has_point_id id) others ≡ is_open id points
open_same m id [] [] each = refl
open_same m id [] (other ∷ others) each = absurd each
open_same m id (point ∷ points) [] each = absurd each
open_same m id (point ∷ points) (other ∷ others) each =
    let here = same_id m id point other each.0 in
    let more = open_same m id points others each.1 in
    λ i. here i || more i

others_left : (m : Mapping) (id : ℕ) (points : List KeptPoint) (others : List PointInTime) → AllZip (PointStandsFor m) points others
    → AllZip (PointStandsFor m) (filter (is_other id) points) (filter (machine.is_other_point id) others)
others_left m id [] [] each = tt
others_left m id [] (other ∷ others) each = absurd each
others_left m id (point ∷ points) [] each = absurd each
others_left m id (point ∷ points) (other ∷ others) each =
    by (kept.has_point_id id point) (has_point_id id other) (same_id m id point other each.0) (others_left m id points others each.1)
  where
    by : (b c : Bool) → c ≡ b → AllZip (PointStandsFor m) (filter (is_other id) points) (filter (machine.is_other_point id) others)
        → AllZip (PointStandsFor m) (cond (not b) (point ∷ filter (is_other id) points) (filter (is_other id) points))
        (cond (not c) (other ∷ filter (machine.is_other_point id) others) (filter (machine.is_other_point id) others))
    by true true e more = more
    by true false e more = absurd (cc)
    by false true e more = absurd (cc)
    by false false e more = (each.0, more)

pub point_closed : (m : Mapping) (id : ℕ) (points : KeptPoints) (others : PointsInTime) → PointsStand m points others → PointsStand m (without_point id points) (machine.without_point id others)
point_closed m id points others s = record { opened = s.opened; each = others_left m id points.points others.points s.each }

pub fit_closed : (m : Mapping) (id : ℕ) (points : KeptPoints) → PointsFit m points → PointsFit m (without_point id points)
fit_closed m id points fit = All-filter (is_other id) (λ (point : KeptPoint). ViewFits m point.entries) points.points fit
