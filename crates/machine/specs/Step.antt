-- The plain machine over trees: the step that it takes for a request, one line for each command.
use Rattle.std.specs.Prelude.{ℕ, Bool, true, false, List}
use Rattle.line_reader.specs.Request.{Request}
use Rattle.reply_text.specs.declared.refusal.Refusal.{Refusal}
use Rattle.reply_text.specs.declared.refusal.Refusal.TheVariants as why
use Rattle.reply_text.specs.declared.reply.Reply.TheVariants.{Refreshed}
use Rattle.mapping.specs.Mapping.{Mapping}
use Rattle.request_form.specs.Asked.{Asked, refused, asks, asked_of}
use Rattle.request_form.specs.Command.{Action, map_body, write, search, refresh, segments, open_pit, close_pit, force_merge, start_merge, advance_merge, finish_merge, abort_merge, commit, compact, trim, automerge}
use Rattle.request_form.specs.declared.refusal.FormRefusal.{FormRefusal}
use Rattle.request_form.specs.declared.refusal.FormRefusal.TheVariants as form
use Rattle.machine.specs.Answer.{Answer, refuses, answers, Outcome, outcome_of, sealing, mapped}
use Rattle.machine.specs.declared.limits.Limits.{Limits}
use Rattle.machine.specs.MappingLine.{mapping_step}
use Rattle.machine.specs.Merging.{merge_step, automerge_step, segments_step}
use Rattle.machine.specs.declared.merge_command.MergeCommand.TheVariants.{Start, Advance, Finish, Abort, Force}
use Rattle.machine.specs.Points.{open_step, close_step}
use Rattle.machine.specs.Searching.{search_step}
use Rattle.machine.specs.State.{State}
use Rattle.machine.specs.Storing.{commit_step, compact_step, trim_step}
use Rattle.machine.specs.Write.{write_step}

abbrev pub refusal_formed : FormRefusal → Refusal
refusal_formed form.BadJson = why.BadJson
refusal_formed form.FractionNumber = why.FractionNumber
refusal_formed form.LineTooLong = why.LineTooLong
refusal_formed form.BadRequest = why.BadRequest
refusal_formed form.MissingSource = why.MissingSource

abbrev pub refresh_step : Mapping → State → Answer
refresh_step m state = answers Refreshed state

-- what an action answers in a state, where the segments that a commit has to write take so many bytes each
abbrev pub action_step : Limits → List ℕ → Action → State → Answer
action_step limits sizes (map_body body) state = sealing (mapping_step body) state
action_step limits sizes (write it) state = mapped (λ m. write_step limits m it) state
action_step limits sizes (search body) state = sealing (mapped (search_step limits body)) state
action_step limits sizes refresh state = sealing (mapped refresh_step) state
action_step limits sizes segments state = sealing (mapped (segments_step limits)) state
action_step limits sizes open_pit state = sealing (mapped open_step) state
action_step limits sizes (close_pit id) state = sealing (mapped (close_step id)) state
action_step limits sizes (force_merge most) state = sealing (mapped (merge_step (Force most))) state
action_step limits sizes (start_merge from count) state = sealing (mapped (merge_step (Start from count))) state
action_step limits sizes (advance_merge id roots) state = sealing (mapped (merge_step (Advance id roots))) state
action_step limits sizes (finish_merge id) state = sealing (mapped (merge_step (Finish id))) state
action_step limits sizes (abort_merge id) state = sealing (mapped (merge_step (Abort id))) state
action_step limits sizes commit state = sealing (mapped (commit_step limits sizes)) state
action_step limits sizes (compact most) state = sealing (mapped (compact_step limits sizes most)) state
action_step limits sizes trim state = sealing (mapped trim_step) state
action_step limits sizes (automerge factor) state = mapped (automerge_step factor) state

abbrev pub asked_step : Limits → List ℕ → Asked → State → Answer
asked_step limits sizes (refused why) state = refuses (refusal_formed why)
asked_step limits sizes (asks action) state = action_step limits sizes action state

-- one step
unfoldable pub step : Limits → List ℕ → State → Asked → Outcome
step limits sizes state asked = outcome_of state (asked_step limits sizes asked state)

-- ---- what is asked of the store

-- it is asked of the store
abbrev pub is_of_store : Action → Bool
is_of_store (map_body body) = false
is_of_store (write it) = false
is_of_store (search body) = false
is_of_store refresh = false
is_of_store segments = false
is_of_store open_pit = false
is_of_store (close_pit id) = false
is_of_store (force_merge most) = false
is_of_store (start_merge from count) = false
is_of_store (advance_merge id roots) = false
is_of_store (finish_merge id) = false
is_of_store (abort_merge id) = false
is_of_store commit = true
is_of_store (compact most) = true
is_of_store trim = true
is_of_store (automerge factor) = false

-- what a request asks for
abbrev pub asked_for : Request → Asked
asked_for request = asked_of request.first request.source
