-- Points in time: their ids are given once, and each keeps the trees that it was opened on until it is closed.
use Rattle.std.proofs.Common.{◌≡◌, ◌≢◌, ◌+◌, ◌≤◌, ℕ, Bool, true, false, not, cond, List, [], ◌∷◌, ◌++◌, filter, find, Option, Some, None, refl, sym, ap, ◌∙◌, arith}
use Rattle.std.specs.List.{AllByRecursion}
use Rattle.std.specs.Option.{option_map}
use Rattle.std.proofs.lemmas.Bool.{eqb-true, eq-eqb, true≢false}
use Rattle.reply_text.specs.declared.reply.Reply.{Reply}
use Rattle.request_form.specs.Asked.{Asked, asks}
use Rattle.request_form.specs.Command.{open_pit, close_pit}
use Rattle.tree_objects.specs.Tree.{Tree}
use Rattle.machine.specs.Beside.{AreGiven, asks_so, is_of_points}
use Rattle.machine.specs.May.{MayAnswer}
use Rattle.machine.specs.Points.{is_other_point, with_point, with_points}
use Rattle.machine.specs.Searching.{has_point_id, searched}
use Rattle.machine.specs.State.{PointInTime, PointsInTime, State}
use Rattle.machine.specs.declared.limits.Limits.{Limits}
use Rattle.machine.proofs.Steps.{Stays, may_so}

-- ---- ids

more_given : (opened : ℕ) (live : List Tree) (points : List PointInTime) → AllByRecursion (λ (point : PointInTime). point.id ≤ opened) points
    → AllByRecursion (λ (point : PointInTime). point.id ≤ opened + 1) (points ++ record { id = opened + 1; live = live } ∷ [])
more_given opened live [] given = (omega arith, tt)
more_given opened live (point ∷ points) given = (omega (arith, given.0), more_given opened live points given.1)

fewer_given : (opened id : ℕ) (points : List PointInTime) → AllByRecursion (λ (point : PointInTime). point.id ≤ opened) points
    → AllByRecursion (λ (point : PointInTime). point.id ≤ opened) (filter (is_other_point id) points)
fewer_given opened id [] given = tt
fewer_given opened id (point ∷ points) given = step (has_point_id id point) (fewer_given opened id points given.1)
  where
    step : (b : Bool) → AllByRecursion (λ (point : PointInTime). point.id ≤ opened) (filter (is_other_point id) points)
        → AllByRecursion (λ (point : PointInTime). point.id ≤ opened) (cond (not b) (point ∷ filter (is_other_point id) points) (filter (is_other_point id) points))
    step true more = more
    step false more = (given.0, more)

abbrev GivenIn : State → Type 0
GivenIn state = AreGiven state.points

given_stays : (asked : Asked) → Stays GivenIn asked
given_stays asked = record {
  laid = record { sealed = λ state given. given; relaid = λ layout state same given. given; stored = λ kept state given. given };
  mapped = λ m state given. given;
  put = λ m tree state next given. given;
  taken = λ m id state given. given;
  opened = λ asks state given. more_given state.points.opened state.content.live state.points.points given;
  closed = λ id asks state given. fewer_given state.points.opened id state.points.points given;
}

pub may_given : (limits : Limits) (before : State) (asked : Asked) (reply : Reply) (after : State) → AreGiven before.points → MayAnswer limits before asked reply after → AreGiven after.points
may_given limits before asked reply after given may = may_so GivenIn limits before asked reply after (given_stays asked) given may

-- ---- what a point in time has

abbrev live_at : ℕ → List PointInTime → Option (List Tree)
live_at id points = option_map (λ (point : PointInTime). point.live) (find (has_point_id id) points)

found_more : (id : ℕ) (points more : List PointInTime) (live : List Tree) → live_at id points ≡ Some live → live_at id (points ++ more) ≡ Some live
found_more id [] more live is = absurd (no is)
  where
    no : option_map (λ (point : PointInTime). point.live) None ≡ Some live → ⊥
    no e = cc
found_more id (point ∷ points) more live is = step (has_point_id id point) (found_more id points more live) is
  where
    step : (b : Bool) → (live_at id points ≡ Some live → live_at id (points ++ more) ≡ Some live)
        → option_map (λ (point : PointInTime). point.live) (cond b (Some point) (find (has_point_id id) points)) ≡ Some live
        → option_map (λ (point : PointInTime). point.live) (cond b (Some point) (find (has_point_id id) (points ++ more))) ≡ Some live
    step true rest is = is
    step false rest is = rest is

-- a point in time that is closed is another one
found_still : (id other : ℕ) → other ≢ id → (points : List PointInTime) (live : List Tree) → live_at id points ≡ Some live
    → live_at id (filter (is_other_point other) points) ≡ Some live
found_still id other apart [] live is = is
found_still id other apart (point ∷ points) live is =
    step (has_point_id other point) (has_point_id id point) refl refl (found_still id other apart points live) is
  where
    step : (goes here : Bool) → has_point_id other point ≡ goes → has_point_id id point ≡ here
        → (live_at id points ≡ Some live → live_at id (filter (is_other_point other) points) ≡ Some live)
        → option_map (λ (point : PointInTime). point.live) (cond here (Some point) (find (has_point_id id) points)) ≡ Some live
        → live_at id (cond (not goes) (point ∷ filter (is_other_point other) points) (filter (is_other_point other) points)) ≡ Some live
    step true true goes here more is = absurd (apart (sym (eqb-true point.id other goes) ∙ eqb-true point.id id here))
    step true false goes here more is = more is
    step false true goes here more is =
        ap (λ b. option_map (λ (point : PointInTime). point.live) (cond b (Some point) (find (has_point_id id) (filter (is_other_point other) points)))) here ∙ is
    step false false goes here more is =
        ap (λ b. option_map (λ (point : PointInTime). point.live) (cond b (Some point) (find (has_point_id id) (filter (is_other_point other) points)))) here
        ∙ more is

abbrev Keeps : ℕ → List Tree → State → Type 0
Keeps id live state = searched (Some id) state ≡ Some live

same_close : (id other : ℕ) → other ≡ id → asks (close_pit other) ≡ asks (close_pit id)
same_close id other same = ap (λ n. asks (close_pit n)) same

keeps_stays : (id : ℕ) (live : List Tree) (asked : Asked) → asked ≢ asks (close_pit id) → Stays (Keeps id live) asked
keeps_stays id live asked other = record {
  laid = record { sealed = λ state keeps. keeps; relaid = λ layout state same keeps. keeps; stored = λ kept state keeps. keeps };
  mapped = λ m state keeps. keeps;
  put = λ m tree state next keeps. keeps;
  taken = λ m id state keeps. keeps;
  opened = λ asks state keeps. found_more id state.points.points (record { id = state.points.opened + 1; live = state.content.live } ∷ []) live keeps;
  closed = λ closing asks state keeps. found_still id closing (λ same. other (asks ∙ same_close id closing same)) state.points.points live keeps;
}

-- a point in time has the same trees until it is closed
pub may_keeps : (limits : Limits) (before : State) (asked : Asked) (reply : Reply) (after : State) (id : ℕ) (live : List Tree) → asked ≢ asks (close_pit id)
    → searched (Some id) before ≡ Some live → MayAnswer limits before asked reply after → searched (Some id) after ≡ Some live
may_keeps limits before asked reply after id live other keeps may = may_so (Keeps id live) limits before asked reply after (keeps_stays id live asked other) keeps may

-- ---- one that is opened

not_given : (opened : ℕ) (live : List Tree) (points : List PointInTime) → AllByRecursion (λ (point : PointInTime). point.id ≤ opened) points
    → live_at (opened + 1) (points ++ record { id = opened + 1; live = live } ∷ []) ≡ Some live
not_given opened live [] given =
    ap (λ b. option_map (λ (point : PointInTime). point.live) (cond b (Some (record { id = opened + 1; live = live })) None)) (eq-eqb (opened + 1) (opened + 1) refl)
not_given opened live (point ∷ points) given = step (has_point_id (opened + 1) point) refl (not_given opened live points given.1)
  where
    step : (here : Bool) → has_point_id (opened + 1) point ≡ here
        → live_at (opened + 1) (points ++ record { id = opened + 1; live = live } ∷ []) ≡ Some live
        → option_map (λ (point : PointInTime). point.live)
        (cond here (Some point) (find (has_point_id (opened + 1)) (points ++ record { id = opened + 1; live = live } ∷ []))) ≡ Some live
    step true here more = let same : point.id ≡ opened + 1 = eqb-true point.id (opened + 1) here in absurd (omega (arith, given.0))
    step false here more = more

-- it has the trees that are live then
pub open_has : (state : State) → AreGiven state.points
    → searched (Some (state.points.opened + 1)) (with_points (with_point state.content.live state.points) state) ≡ Some state.content.live
open_has state given = not_given state.points.opened state.content.live state.points.points given

-- ---- other requests

abbrev Same : PointsInTime → State → Type 0
Same points state = state.points ≡ points

not_of : (asked other : Asked) → asks_so is_of_points asked ≡ false → asks_so is_of_points other ≡ true → asked ≡ other → ⊥
not_of asked other hides is same = true≢false (sym is ∙ ap (asks_so is_of_points) (sym same) ∙ hides)

same_stays : (points : PointsInTime) (asked : Asked) → asks_so is_of_points asked ≡ false → Stays (Same points) asked
same_stays points asked other = record {
  laid = record { sealed = λ state same. same; relaid = λ layout state live same. same; stored = λ kept state same. same };
  mapped = λ m state same. same;
  put = λ m tree state next same. same;
  taken = λ m id state same. same;
  opened = λ opens state same. absurd (not_of asked (asks open_pit) other refl opens);
  closed = λ id closes state same. absurd (not_of asked (asks (close_pit id)) other refl closes);
}

-- a request that neither opens nor closes one leaves all of them as they were
pub points_stay : (limits : Limits) (before : State) (asked : Asked) (reply : Reply) (after : State) → asks_so is_of_points asked ≡ false → MayAnswer limits before asked reply after → after.points ≡ before.points
points_stay limits before asked reply after other may = may_so (Same before.points) limits before asked reply after (same_stays before.points asked other) refl may
