-- Points in time: what is live at a moment, kept under an id until it is closed (Elasticsearch reference, point in time API).
use Rattle.std.specs.Prelude.{ℕ, ◌+◌, nat_le, not, Bool, List, [], ◌∷◌, ◌++◌, length, filter}
use Rattle.std.specs.List.{list_any}
use Rattle.mapping.specs.Mapping.{Mapping}
use Rattle.reply_text.specs.declared.refusal.Refusal.TheVariants as why
use Rattle.reply_text.specs.declared.reply.Reply.TheVariants as reply
use Rattle.tree_objects.specs.Tree.{Tree}
use Rattle.machine.specs.Answer.{Answer, answers, when, unless}
use Rattle.machine.specs.Searching.{has_point_id}
use Rattle.machine.specs.State.{PointInTime, PointsInTime, State}

-- the most points in time that may be open
abbrev pub most_points : ℕ
most_points = 500

abbrev pub with_points : PointsInTime → State → State
with_points points state = record state { points = points }

-- one more point in time on these trees, under the next id
abbrev pub with_point : List Tree → PointsInTime → PointsInTime
with_point live points = record { points = points.points ++ record { id = points.opened + 1; live = live } ∷ []; opened = points.opened + 1 }

abbrev pub is_other_point : ℕ → PointInTime → Bool
is_other_point id point = not (has_point_id id point)

-- the point in time with an id is open no more
abbrev pub without_point : ℕ → PointsInTime → PointsInTime
without_point id points = record points { points = filter (is_other_point id) points.points }

abbrev pub is_open : ℕ → PointsInTime → Bool
is_open id points = list_any (has_point_id id) points.points

abbrev pub open_done : State → Answer
open_done state = answers (reply.PitOpened (state.points.opened + 1)) (with_points (with_point state.content.live state.points) state)

unfoldable pub open_step : Mapping → State → Answer
open_step m state = unless (when (nat_le most_points (length state.points.points)) why.TooManyPits ∷ []) (open_done state)

abbrev pub close_done : ℕ → State → Answer
close_done id state = answers (reply.PitClosed id) (with_points (without_point id state.points) state)

unfoldable pub close_step : ℕ → Mapping → State → Answer
close_step id m state = unless (when (not (is_open id state.points)) why.UnknownPit ∷ []) (close_done id state)
