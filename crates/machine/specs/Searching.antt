-- What a search answers: its first refusal under the mapping, or what it finds among the live trees or those of a point in
-- time.
use Rattle.std.specs.Prelude.{ℕ, ◌==◌, nat_lt, Bool, if◌then◌else◌, List, length, find, Option, Some, None, option_map}
use Rattle.mapping.specs.Mapping.{Mapping}
use Rattle.query_ast.specs.Search.{hit_page, found_buckets}
use Rattle.query_ast.specs.declared.search.SearchBody.{SearchBody}
use Rattle.query_parser.specs.Search.{search_of}
use Rattle.reply_text.specs.Text.{line_of}
use Rattle.reply_text.specs.declared.refusal.Refusal.{Refusal}
use Rattle.reply_text.specs.declared.refusal.Refusal.TheVariants as why
use Rattle.reply_text.specs.declared.reply.Reply.{Reply}
use Rattle.reply_text.specs.declared.reply.Reply.TheVariants.{Found, Refused}
use Rattle.search_walk.specs.Refusal.{first_refusal}
use Rattle.search_walk.specs.declared.refusal.SearchRefusal.{SearchRefusal}
use Rattle.search_walk.specs.declared.refusal.SearchRefusal.TheVariants as body
use Rattle.tree_json.specs.Value.{JsonValue}
use Rattle.tree_objects.specs.Tree.{Tree}
use Rattle.machine.specs.Answer.{Answer, refuses, answers, refused_if}
use Rattle.machine.specs.declared.limits.Limits.{Limits}
use Rattle.machine.specs.State.{PointInTime, State}

abbrev pub refusal_of : SearchRefusal → Option Refusal
refusal_of body.UnknownPath = Some why.UnknownPath
refusal_of body.PathOutOfScope = Some why.PathOutOfScope
refusal_of body.UnknownRelation = Some why.UnknownRelation
refusal_of body.BadValue = Some why.BadValue
refusal_of body.SortFieldUnmapped = Some why.SortFieldUnmapped
refusal_of body.BadSort = Some why.BadSort
refusal_of body.DuplicateInnerName = Some why.DuplicateInnerName
refusal_of body.WindowTooLarge = Some why.WindowTooLarge
refusal_of body.InnerWindowTooLarge = Some why.InnerWindowTooLarge
refusal_of body.TooManyClauses = Some why.TooManyClauses
refusal_of body.QueryTooDeep = Some why.QueryTooDeep
refusal_of body.TooManyTerms = Some why.TooManyTerms
refusal_of body.NoMemory = None

abbrev pub body_refusal : Option SearchRefusal → Option Refusal
body_refusal None = None
body_refusal (Some refusal) = refusal_of refusal

-- ---- what is found

abbrev pub has_point_id : ℕ → PointInTime → Bool
has_point_id id point = point.id == id

-- the trees that a search is asked of: the live ones, or those of its point in time, if it is open
abbrev pub searched : Option ℕ → State → Option (List Tree)
searched None state = Some state.content.live
searched (Some id) state = option_map (λ (point : PointInTime). point.live) (find (has_point_id id) state.points.points)

abbrev pub found_by : Mapping → List Tree → SearchBody → Reply
found_by m live search = Found (hit_page m live search) (found_buckets m live search)

-- the reply, where its line has no more bytes than the limit
abbrev pub within : Limits → Reply → Reply
within limits reply = if nat_lt limits.reply_bytes (length (line_of reply)) then Refused why.ReplyTooLarge else reply

abbrev pub search_over : Limits → Mapping → SearchBody → Option (List Tree) → State → Answer
search_over limits m search None state = refuses why.UnknownPit
search_over limits m search (Some live) state = answers (within limits (found_by m live search)) state

abbrev pub search_by : Limits → Mapping → SearchBody → State → Answer
search_by limits m search state = search_over limits m search (searched search.pit state) state

unfoldable pub search_step : Limits → JsonValue → Mapping → State → Answer
search_step limits body m state = refused_if (body_refusal (first_refusal m body)) (search_by limits m (search_of m body) state)
