-- What a request does to the file of the store.
use Rattle.std.specs.Prelude.{◌≡◌, ◌≢◌, ◌⊎◌, ℕ, Bool, true, false, List, Option}
use Rattle.commit_store.specs.Known.{StoreState, KeepsStore}
use Rattle.commit_store.specs.Saying.{StoreCommit, FoundAs}
use Rattle.disk.specs.Stops.{Passes}
use Rattle.index_trees.specs.Content.{OpensTo}
use Rattle.io_edges.specs.Faults.{Rose}
use Rattle.machine.specs.Beside.{asks_so}
use Rattle.machine.specs.State.{Content}
use Rattle.reply_text.specs.declared.refusal.Refusal.TheVariants.{DiskFailure}
use Rattle.reply_text.specs.declared.reply.Reply.{Reply}
use Rattle.reply_text.specs.declared.reply.Reply.TheVariants as reply
use Rattle.request_form.specs.Asked.{Asked}
use Rattle.request_form.specs.Command.{Action, map_body, write, search, refresh, segments, open_pit, close_pit, force_merge, start_merge, advance_merge, finish_merge, abort_merge, commit, compact, trim, automerge}

-- a commit is asked for, alone or with moves
abbrev pub commits : Action → Bool
commits (map_body body) = false
commits (write it) = false
commits (search body) = false
commits refresh = false
commits segments = false
commits open_pit = false
commits (close_pit id) = false
commits (force_merge most) = false
commits (start_merge from count) = false
commits (advance_merge id roots) = false
commits (finish_merge id) = false
commits (abort_merge id) = false
commits commit = true
commits (compact most) = true
commits trim = false
commits (automerge factor) = false

abbrev pub is_tried : Asked → Bool
is_tried asked = asks_so commits asked

-- the reply acknowledges a commit
abbrev pub is_acknowledged : Reply → Bool
is_acknowledged reply.Mapped = false
is_acknowledged reply.Refreshed = false
is_acknowledged (reply.Written id number result) = false
is_acknowledged (reply.NotFound id) = false
is_acknowledged (reply.Found page answers) = false
is_acknowledged (reply.PitOpened pit) = false
is_acknowledged (reply.PitClosed pit) = false
is_acknowledged (reply.MergeStarted merge roots) = false
is_acknowledged (reply.MergeAdvanced left merge) = false
is_acknowledged (reply.MergeFinished live merge) = false
is_acknowledged (reply.MergeAborted merge) = false
is_acknowledged (reply.ForceMerged count) = false
is_acknowledged (reply.AutoMerge factor) = false
is_acknowledged (reply.Layout merges rows) = false
is_acknowledged (reply.Committed next) = true
is_acknowledged (reply.Compacted moved next) = true
is_acknowledged (reply.Trimmed bytes) = false
is_acknowledged (reply.Checked next count) = false
is_acknowledged (reply.RanMade bytes errors lines) = false
is_acknowledged (reply.Refused why) = false
is_acknowledged reply.OutOfMemory = false

-- A request was answered from a store on whose disk a stop could leave any of some images: behind it the store knows a last
-- commit, or none, which all images then keep. An image that a stop may leave on the way opens as one of those before, or, where
-- a commit was tried, to the content behind the request; and once one was acknowledged, each image opens to that.
pub record StoreTurn (tried : Bool) (reply : Reply) (content : Content) (stored : StoreState) (image image' : List ℕ → Type 0) (from to : ℕ) (past since : ℕ → List ℕ → Type 0) : Type 0 where
  pub last : Option StoreCommit
  pub keeps : KeepsStore stored last image'
  pub passes : Passes from to past since (λ (file : List ℕ). FoundAs stored.limit image file ⊎ ((tried ≡ true) × OpensTo stored.limit content file))
  pub acknowledged : is_acknowledged reply ≡ true → (file : List ℕ) → image' file → OpensTo stored.limit content file

-- where the disk failed the count of its faults rose, and else that is as it was
pub record HasDiskCause (given : Reply) (faults faults' : ℕ) : Type 0 where
  pub failed : given ≡ reply.Refused DiskFailure → Rose faults faults'
  pub others : given ≢ reply.Refused DiskFailure → faults' ≡ faults
