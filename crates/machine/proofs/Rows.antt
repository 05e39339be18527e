-- Worked runs over merges, points in time and commits, computed: a session of trees without members, one request after the
-- other.
use Rattle.std.proofs.Common.{◌≡◌, ℕ, ◌+◌, ◌^◌, false, List, [], ◌∷◌, ◌++◌, replicate, map, Option, Some, None, refl}
use Rattle.std.specs.Prelude.{codes}
use Rattle.extent_pool.specs.Holes.{holes_of}
use Rattle.extent_pool.specs.declared.extent.Extent.{Extent}
use Rattle.json.specs.Print.{escape_byte}
use Rattle.layout.specs.Layout.{alive, empty_layout, sealed, with_change}
use Rattle.mapping.specs.Mapping.{Mapping, root_scope}
use Rattle.reply_text.specs.declared.layout.MergeRow.{MergeRow}
use Rattle.reply_text.specs.declared.layout.SegmentRow.{SegmentRow}
use Rattle.reply_text.specs.declared.refusal.Refusal.TheVariants as why
use Rattle.reply_text.specs.declared.reply.Reply.{Reply}
use Rattle.reply_text.specs.declared.reply.Reply.TheVariants as reply
use Rattle.request_form.specs.Command.{Action, refresh, open_pit, close_pit, force_merge, start_merge, advance_merge, finish_merge, abort_merge, commit, compact, trim, automerge}
use Rattle.tree_json.specs.Text.{quoted}
use Rattle.tree_json.specs.Value.{JsonValue, text, object, no_members, member}
use Rattle.tree_objects.specs.Object.{block_objects}
use Rattle.tree_objects.specs.Tree.{Tree, without}
use Rattle.machine.specs.Answer.{Need, Outcome, closing, writing, outcome_of}
use Rattle.machine.specs.Answer as needed
use Rattle.machine.specs.Limit.{standard_limits}
use Rattle.machine.specs.Merging.{merged_by, automerge_step, layout_reply}
use Rattle.machine.specs.Points.{open_step, close_step}
use Rattle.machine.specs.Searching.{searched}
use Rattle.machine.specs.State.{Kept, State, empty_state, sealed_state}
use Rattle.machine.specs.Step.{action_step}
use Rattle.machine.specs.Storing.{commit_step, compact_step, trim_step}
use Rattle.machine.specs.Write.{with_put, changed_state}
use Rattle.machine.specs.declared.limits.Limits.{Limits}

-- a mapping without fields
abbrev plain : Mapping
plain = record { bodies = []; dynamic = false; index = codes "main"; fields = []; scopes = root_scope ∷ []; order = []; relations = [] }

abbrev mapped_state : State
mapped_state = record empty_state { content = record { mapping = Some plain; live = []; next = 0 } }

-- one thing of a session: a tree is put or taken out, an action, the rows of the layout, or the trees of a search
data Line : Type 0 where
  put : List ℕ → Line
  take_out : List ℕ → Line
  asks_for : Action → Line
  shows : Line
  finds : Option ℕ → Line

abbrev tree_at : List ℕ → ℕ → Tree
tree_at id number = record { id = id; number = number; source = object no_members; generation = 1 }

abbrev state_put : List ℕ → State → State
state_put id state = changed_state plain id (with_put (tree_at id state.content.next) state.content.live) (tree_at id state.content.next ∷ []) state

-- what is seen of a line: a reply, or the numbers of the trees that a search is asked of
data Seen : Type 0 where
  nothing : Seen
  told : Reply → Seen
  trees : List ℕ → Seen
  no_trees : Seen

abbrev numbers_of : Option (List Tree) → Seen
numbers_of None = no_trees
numbers_of (Some live) = trees (map (λ (tree : Tree). tree.number) live)

abbrev after_line : Line → State → State
after_line (put id) state = state_put id state
after_line (take_out id) state = changed_state plain id (without id state.content.live) [] state
after_line (asks_for action) state = (outcome_of state (action_step standard_limits [] action state)).state
after_line shows state = sealed_state state
after_line (finds point) state = sealed_state state

abbrev seen_of : Line → State → Seen
seen_of (put id) state = nothing
seen_of (take_out id) state = nothing
seen_of (asks_for action) state = told (outcome_of state (action_step standard_limits [] action state)).reply
seen_of shows state = told (layout_reply plain (sealed_state state).layout)
seen_of (finds point) state = numbers_of (searched point state)

abbrev seen_in : State → List Line → List Seen
seen_in state [] = []
seen_in state (line ∷ lines) = seen_of line state ∷ seen_in (after_line line state) lines

-- without what puts and deletes show
abbrev replies_of : List Seen → List Seen
replies_of [] = []
replies_of (nothing ∷ seen) = replies_of seen
replies_of (told reply ∷ seen) = told reply ∷ replies_of seen
replies_of (trees numbers ∷ seen) = trees numbers ∷ replies_of seen
replies_of (no_trees ∷ seen) = no_trees ∷ replies_of seen

abbrev session : List Line → List Seen
session lines = replies_of (seen_in mapped_state lines)

abbrev a : List ℕ
a = codes "a"

abbrev b : List ℕ
b = codes "b"

abbrev c : List ℕ
c = codes "c"

abbrev segment : ℕ → ℕ → ℕ → ℕ → SegmentRow
segment dead first last live = record { dead = dead; first = first; last = last; live = live; objects = dead + live }

abbrev merge_at : ℕ → ℕ → ℕ → ℕ → MergeRow
merge_at id from count left = record { count = count; from = from; left = left; merge = id }

-- the trees a, b and c, each in a segment of its own
abbrev three : List Line
three = put a ∷ asks_for refresh ∷ put b ∷ asks_for refresh ∷ put c ∷ asks_for refresh ∷ []

abbrev three_refreshed : List Seen
three_refreshed = told reply.Refreshed ∷ told reply.Refreshed ∷ told reply.Refreshed ∷ []

-- a point in time keeps a tree that is deleted and merged away, until it is closed
point_row : session (put a ∷ asks_for open_pit ∷ take_out a ∷ asks_for (force_merge 1) ∷ finds (Some 1) ∷ finds None ∷ asks_for (close_pit 1) ∷ finds (Some 1) ∷ asks_for (close_pit 1) ∷ [])
    ≡ (told (reply.PitOpened 1) ∷ told (reply.ForceMerged 0) ∷ trees (0 ∷ []) ∷ trees [] ∷ told (reply.PitClosed 1) ∷ no_trees ∷ told (reply.Refused why.UnknownPit) ∷ [])
unfolding block_objects sealed with_change open_step close_step merged_by
point_row = refl

-- a merge in pieces beside a change, with its refusals
merge_row : session (three ++ (shows ∷ asks_for (start_merge 0 3) ∷ asks_for (start_merge 2 1) ∷ asks_for (start_merge 3 1) ∷ asks_for (advance_merge 1 1) ∷ put a
    ∷ asks_for (finish_merge 1) ∷ asks_for (advance_merge 1 2) ∷ asks_for (finish_merge 1) ∷ shows ∷ finds None ∷ asks_for (finish_merge 1)
    ∷ asks_for (start_merge 0 1) ∷ asks_for (abort_merge 2) ∷ asks_for (abort_merge 2) ∷ []))
    ≡ three_refreshed ++ (told (reply.Layout [] (segment 0 0 0 1 ∷ segment 0 1 1 1 ∷ segment 0 2 2 1 ∷ [])) ∷ told (reply.MergeStarted 1 3)
    ∷ told (reply.Refused (why.MergeOverlaps 1)) ∷ told (reply.Refused why.BadMergeRange) ∷ told (reply.MergeAdvanced 2 1)
    ∷ told (reply.Refused (why.MergeNotDone 2 1)) ∷ told (reply.MergeAdvanced 0 1) ∷ told (reply.MergeFinished 2 1)
    ∷ told (reply.Layout [] (segment 0 1 2 2 ∷ segment 0 3 3 1 ∷ [])) ∷ trees (1 ∷ 2 ∷ 3 ∷ []) ∷ told (reply.Refused why.UnknownMerge)
    ∷ told (reply.MergeStarted 2 2) ∷ told (reply.MergeAborted 2) ∷ told (reply.Refused why.UnknownMerge) ∷ [])
unfolding block_objects sealed with_change merged_by
merge_row = refl

-- a merge at once leaves as many segments as are asked for
force_row : session (put a ∷ asks_for refresh ∷ put b ∷ asks_for refresh ∷ put c ∷ asks_for (force_merge 2) ∷ shows ∷ asks_for (force_merge 3) ∷ [])
    ≡ (told reply.Refreshed ∷ told reply.Refreshed ∷ told (reply.ForceMerged 2) ∷ told (reply.Layout [] (segment 0 0 0 1 ∷ segment 0 1 2 2 ∷ [])) ∷ told (reply.ForceMerged 2) ∷ [])
unfolding block_objects sealed with_change merged_by
force_row = refl

-- a root that dies while a merge is open is walked, and isn't in the segment
death_row : session (three ++ (asks_for (start_merge 0 3) ∷ asks_for (advance_merge 1 2) ∷ take_out b ∷ shows ∷ asks_for (advance_merge 1 5) ∷ asks_for (finish_merge 1) ∷ finds None ∷ []))
    ≡ three_refreshed ++ (told (reply.MergeStarted 1 3) ∷ told (reply.MergeAdvanced 1 1)
    ∷ told (reply.Layout (merge_at 1 0 3 1 ∷ []) (segment 0 0 0 1 ∷ segment 1 1 1 0 ∷ segment 0 2 2 1 ∷ []))
    ∷ told (reply.MergeAdvanced 0 1) ∷ told (reply.MergeFinished 2 1) ∷ trees (0 ∷ 2 ∷ []) ∷ [])
unfolding block_objects sealed with_change merged_by
death_row = refl

-- where all die, no segment takes their place, and a point in time that was opened before has them
deaths_row : session (three ++ (asks_for (start_merge 0 3) ∷ asks_for open_pit ∷ asks_for (advance_merge 1 2) ∷ take_out a ∷ take_out b ∷ take_out c ∷ asks_for (advance_merge 1 5)
    ∷ asks_for (finish_merge 1) ∷ shows ∷ finds (Some 1) ∷ finds None ∷ []))
    ≡ three_refreshed ++ (told (reply.MergeStarted 1 3) ∷ told (reply.PitOpened 1) ∷ told (reply.MergeAdvanced 1 1) ∷ told (reply.MergeAdvanced 0 1)
    ∷ told (reply.MergeFinished 0 1) ∷ told (reply.Layout [] []) ∷ trees (0 ∷ 1 ∷ 2 ∷ []) ∷ trees [] ∷ [])
unfolding block_objects sealed with_change open_step merged_by
deaths_row = refl

-- neighbours are merged by themselves, by a factor of 2
automerge_row : session (asks_for (automerge (Some 2)) ∷ three ++ (shows ∷ put (codes "d") ∷ shows ∷ asks_for (automerge None) ∷ []))
    ≡ (told (reply.AutoMerge 2) ∷ three_refreshed ++ (told (reply.Layout [] (segment 0 0 1 2 ∷ segment 0 2 2 1 ∷ []))
    ∷ told (reply.Layout [] (segment 0 0 3 4 ∷ [])) ∷ told (reply.AutoMerge 0) ∷ []))
unfolding block_objects sealed with_change automerge_step
automerge_row = refl

-- sixteen merges may be open, of seventeen segments of one tree
abbrev one_more : ℕ → List Line
one_more id = put (id ∷ []) ∷ asks_for refresh ∷ []

abbrev seventeen : List Line
seventeen =
    one_more 1 ++ (one_more 2 ++ (one_more 3 ++ (one_more 4 ++ (one_more 5 ++ (one_more 6 ++ (one_more 7 ++ (one_more 8 ++ (one_more 9 ++ (one_more 10 ++ (one_more 11
    ++ (one_more 12 ++ (one_more 13 ++ (one_more 14 ++ (one_more 15 ++ (one_more 16 ++ one_more 17)))))))))))))))

abbrev starts_from : ℕ → List ℕ → List Line
starts_from count [] = []
starts_from count (from ∷ places) = asks_for (start_merge from count) ∷ starts_from count places

abbrev sixteen_started : List Seen
sixteen_started = map (λ n. told (reply.MergeStarted n 1)) (1 ∷ 2 ∷ 3 ∷ 4 ∷ 5 ∷ 6 ∷ 7 ∷ 8 ∷ 9 ∷ 10 ∷ 11 ∷ 12 ∷ 13 ∷ 14 ∷ 15 ∷ 16 ∷ [])

merges_row : session (seventeen ++ starts_from 1 (0 ∷ 1 ∷ 2 ∷ 3 ∷ 4 ∷ 5 ∷ 6 ∷ 7 ∷ 8 ∷ 9 ∷ 10 ∷ 11 ∷ 12 ∷ 13 ∷ 14 ∷ 15 ∷ 16 ∷ []))
    ≡ replicate 17 (told reply.Refreshed) ++ (sixteen_started ++ told (reply.Refused why.TooManyMerges) ∷ [])
unfolding block_objects sealed with_change merged_by
merges_row = refl

-- ---- a store

-- its places are gone through unit by unit, so it is a small one
abbrev small_store : Limits
small_store = record standard_limits { store_bytes = 8192 }

-- one field `k` of keywords: a body of 39 bytes, and so a record of 84 for one segment
abbrev keyword_body : JsonValue
keyword_body = object (member (codes "properties") (object (member (codes "k") (object (member (codes "type") (text (codes "keyword")) no_members)) no_members)) no_members)

abbrev keyword_mapping : Mapping
keyword_mapping = record plain { bodies = keyword_body ∷ [] }

abbrev at_place : ℕ → ℕ → Extent
at_place place len = record { at = place; len = len }

-- what is seen of a commit: its reply, what it needs of the disk, and what is kept then
record Stored : Type 0 where
  reply : Reply
  need : Need
  kept : Kept

abbrev stored_by : Outcome → Stored
stored_by outcome = record { reply = outcome.reply; need = outcome.need; kept = outcome.state.kept }

-- the outcome of each in order, with the bytes that each segment takes which has to be written
abbrev outcomes_of : State → List (List ℕ × Action) → List Stored
outcomes_of state [] = []
outcomes_of state (it ∷ later) =
    stored_by (outcome_of state (action_step small_store it.0 it.1 state)) ∷ outcomes_of (outcome_of state (action_step small_store it.0 it.1 state)).state later

-- a tree that was found in the first format: its record and its segment are taken, and no segment has an extent
abbrev found_old : State
found_old = record empty_state {
  content = record { mapping = Some keyword_mapping; live = tree_at (codes "1") 0 ∷ []; next = 1 };
  layout = record empty_layout { segments = record { id = 0; items = alive (tree_at (codes "1") 0) ∷ [] } ∷ []; made = 1 };
  kept = record { segments = []; taken = at_place 2176 79 ∷ at_place 2048 112 ∷ []; generation = 1 };
}

abbrev one_kept : ℕ → Extent → Extent → Kept
one_kept generation own segment_extent = record { segments = record { id = 0; extent = segment_extent } ∷ []; taken = own ∷ segment_extent ∷ []; generation = generation }

-- it is committed anew behind what it had, moved to the front, cut, and then nothing is left to move
store_row : outcomes_of found_old ((116 ∷ [], commit) ∷ ([], compact 1) ∷ ([], trim) ∷ ([], compact 1) ∷ [])
    ≡ (record { reply = reply.Committed 1; need = writing; kept = one_kept 2 (at_place 2432 84) (at_place 2304 116) }
    ∷ record { reply = reply.Compacted 1 1; need = writing; kept = one_kept 3 (at_place 2048 84) (at_place 2176 116) }
    ∷ record { reply = reply.Trimmed 2292; need = closing; kept = one_kept 3 (at_place 2048 84) (at_place 2176 116) }
    ∷ record { reply = reply.Compacted 0 1; need = writing; kept = one_kept 4 (at_place 2304 84) (at_place 2176 116) } ∷ [])
unfolding commit_step compact_step trim_step holes_of sealed quoted escape_byte
store_row = refl

abbrev two_named : ℕ → Extent → Extent → Extent → Kept
two_named generation own first last = record {
  segments = record { id = 4; extent = first } ∷ record { id = 7; extent = last } ∷ [];
  taken = own ∷ first ∷ last ∷ [];
  generation = generation;
}

-- two segments, of which the second has a dead tree, which its row in the record names
abbrev two_kept : State
two_kept = record empty_state {
  content = record { mapping = Some keyword_mapping; live = tree_at (codes "1") 0 ∷ tree_at (codes "2") 2 ∷ []; next = 3 };
  layout = record empty_layout {
    segments = record { id = 4; items = alive (tree_at (codes "1") 0) ∷ [] }
        ∷ record { id = 7; items = record { item = tree_at (codes "2") 1; live = false } ∷ alive (tree_at (codes "2") 2) ∷ [] } ∷ [];
    made = 8;
  };
  kept = two_named 5 (at_place 2432 108) (at_place 2304 116) (at_place 2560 116);
}

-- by one move it is the segment that stands last which moves, into the room that the record leaves; what was named stays taken
move_row : outcomes_of two_kept (([], compact 1) ∷ ([], compact 2) ∷ [])
    ≡ (record { reply = reply.Compacted 1 3; need = writing; kept = two_named 6 (at_place 2048 108) (at_place 2304 116) (at_place 2176 116) }
    ∷ record { reply = reply.Compacted 0 3; need = writing; kept = two_named 7 (at_place 2432 108) (at_place 2304 116) (at_place 2176 116) } ∷ [])
unfolding compact_step holes_of sealed quoted escape_byte
move_row = refl

-- a store without room, and one whose generations are used up
full_row : outcomes_of (record found_old { kept = record { segments = []; taken = at_place 2048 6144 ∷ []; generation = 1 } }) ((116 ∷ [], commit) ∷ [])
    ≡ record { reply = reply.Refused why.StoreFull; need = closing; kept = record { segments = []; taken = at_place 2048 6144 ∷ []; generation = 1 } } ∷ []
unfolding commit_step holes_of sealed quoted escape_byte
full_row = refl

last_row : outcomes_of (record found_old { kept = record { segments = []; taken = []; generation = 2 ^ 62 } }) ((116 ∷ [], commit) ∷ [])
    ≡ record { reply = reply.Refused why.StoreFull; need = needed.nothing; kept = record { segments = []; taken = []; generation = 2 ^ 62 } } ∷ []
unfolding commit_step holes_of sealed quoted escape_byte
last_row = refl
