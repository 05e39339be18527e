-- What doesn't depend on how trees are laid out and where they are stored: what is asked of the layout and of the store, states
-- that agree but for these, and the replies of a run.
use Rattle.std.specs.Prelude.{◌≡◌, ◌≤◌, ℕ, Bool, true, false, not, if◌then◌else◌, List, [], ◌∷◌, filter, ⊤}
use Rattle.std.specs.List.{AllByRecursion}
use Rattle.reply_text.specs.declared.reply.Reply.{Reply}
use Rattle.request_form.specs.Asked.{Asked, refused, asks}
use Rattle.request_form.specs.Command.{Action, map_body, write, search, refresh, segments, open_pit, close_pit, force_merge, start_merge, advance_merge, finish_merge, abort_merge, commit, compact, trim, automerge}
use Rattle.machine.specs.May.{MayAnswer}
use Rattle.machine.specs.State.{PointInTime, PointsInTime, State}
use Rattle.machine.specs.Step.{step}
use Rattle.machine.specs.declared.limits.Limits.{Limits}

-- ---- requests

-- the reply tells of segments, of open merges or of the store; that of a commit, whether it has room
abbrev pub shows_layout : Action → Bool
shows_layout (map_body body) = false
shows_layout (write it) = false
shows_layout (search body) = false
shows_layout refresh = false
shows_layout segments = true
shows_layout open_pit = false
shows_layout (close_pit id) = false
shows_layout (force_merge most) = true
shows_layout (start_merge from count) = true
shows_layout (advance_merge id roots) = true
shows_layout (finish_merge id) = true
shows_layout (abort_merge id) = true
shows_layout commit = true
shows_layout (compact most) = true
shows_layout trim = true
shows_layout (automerge factor) = false

-- it is asked of the layout alone, by its rows, by merges or by merges that come by themselves, or of the store
abbrev pub is_of_layout : Action → Bool
is_of_layout (map_body body) = false
is_of_layout (write it) = false
is_of_layout (search body) = false
is_of_layout refresh = false
is_of_layout segments = true
is_of_layout open_pit = false
is_of_layout (close_pit id) = false
is_of_layout (force_merge most) = true
is_of_layout (start_merge from count) = true
is_of_layout (advance_merge id roots) = true
is_of_layout (finish_merge id) = true
is_of_layout (abort_merge id) = true
is_of_layout commit = true
is_of_layout (compact most) = true
is_of_layout trim = true
is_of_layout (automerge factor) = true

-- it opens or closes a point in time
abbrev pub is_of_points : Action → Bool
is_of_points (map_body body) = false
is_of_points (write it) = false
is_of_points (search body) = false
is_of_points refresh = false
is_of_points segments = false
is_of_points open_pit = true
is_of_points (close_pit id) = true
is_of_points (force_merge most) = false
is_of_points (start_merge from count) = false
is_of_points (advance_merge id roots) = false
is_of_points (finish_merge id) = false
is_of_points (abort_merge id) = false
is_of_points commit = false
is_of_points (compact most) = false
is_of_points trim = false
is_of_points (automerge factor) = false

abbrev pub asks_so : (Action → Bool) → Asked → Bool
asks_so test (refused why) = false
asks_so test (asks action) = test action

-- ---- states

-- the states agree but for the layout and for what is stored
pub record AgreeBeside (one other : State) : Type 0 where
  pub content : other.content ≡ one.content
  pub points : other.points ≡ one.points

-- no point in time has an id that is still to be given
abbrev pub AreGiven : PointsInTime → Type 0
AreGiven points = AllByRecursion (λ (point : PointInTime). point.id ≤ points.opened) points.points

-- ---- runs

-- it isn't asked of the layout, nor of the store
abbrev pub is_beside : Asked → Bool
is_beside asked = not (asks_so is_of_layout asked)

-- what is asked for, and how many bytes each segment takes that has to be written
pub record Asking : Type 0 where
  pub asked : Asked
  pub sizes : List ℕ

-- the replies of a run to what passes
abbrev pub replies_to : (Asked → Bool) → Limits → State → List Asking → List Reply
replies_to told limits state [] = []
replies_to told limits state (it ∷ later) =
    if told it.asked then (step limits it.sizes state it.asked).reply ∷ replies_to told limits (step limits it.sizes state it.asked).state later
    else replies_to told limits (step limits it.sizes state it.asked).state later

-- what of a run isn't asked of the layout, nor of the store
abbrev pub those_beside : List Asking → List Asking
those_beside askings = filter (λ (it : Asking). is_beside it.asked) askings

-- what is asked for, and its reply
pub record Exchange : Type 0 where
  pub asked : Asked
  pub reply : Reply

-- a run from a state may go so
abbrev pub MayExchange : Limits → State → List Exchange → Type 0
MayExchange limits before [] = ⊤
MayExchange limits before (it ∷ later) = (after : State) × MayAnswer limits before it.asked it.reply after × MayExchange limits after later

abbrev pub exchanges_beside : List Exchange → List Exchange
exchanges_beside exchanges = filter (λ (it : Exchange). is_beside it.asked) exchanges
