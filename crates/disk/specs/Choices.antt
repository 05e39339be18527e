-- What is pending in a call on a disk in memory, and the image that a list of choices names.
use Rattle.std.specs.Prelude.{ℕ, zero, suc, ◌+◌, ◌==◌, cond, Bool, true, false, ◌&&◌, List, [], ◌∷◌, ◌++◌, length, take, drop, Option, None, Some}
use Rattle.std.specs.Option.{option_to_list}
use Rattle.disk.specs.Memory.{written}
use Rattle.disk.specs.Record.{FileRecord, content_after}
use Rattle.disk.specs.declared.disk_call.DiskCall.{DiskCall}
use Rattle.disk.specs.declared.disk_call.DiskCall.TheVariants.{Look, Write, Cut, Sync}
use Rattle.disk.specs.declared.pending.Pending.{Pending}
use Rattle.disk.specs.declared.pending.Pending.TheVariants.{Written, Cut as PendingCut}
use Rattle.disk.specs.declared.choice.Choice.{Choice}
use Rattle.disk.specs.declared.choice.Choice.TheVariants.{Old, New, Given}

-- ---- what is pending

abbrev pub is_sync : DiskCall → Bool
is_sync Look = false
is_sync (Write at bytes done) = false
is_sync (Cut len done) = false
is_sync Sync = true

abbrev pub settled_step : Bool → ℕ → ℕ
settled_step sync zero = cond sync 1 0
settled_step sync (suc count) = suc (suc count)

-- how many calls there are up to the last sync that succeeded, that one among them
abbrev pub settled : List DiskCall → ℕ
settled [] = 0
settled (call ∷ calls) = settled_step (is_sync call) (settled calls)

-- the calls behind the last sync before this call, and this call
abbrev pub unsettled : List DiskCall → ℕ → List DiskCall
unsettled calls call = drop (settled (take call calls)) (take (call + 1) calls)

abbrev pub pending_at : DiskCall → Option Pending
pending_at Look = None
pending_at (Write at bytes done) = Some (Written at (length bytes))
pending_at (Cut len done) = Some (PendingCut len)
pending_at Sync = None

abbrev pub pending_of : List DiskCall → List Pending
pending_of [] = []
pending_of (call ∷ calls) = option_to_list (pending_at call) ++ pending_of calls

-- the writes and cuts that are pending in a call, in order
abbrev pub pending_in : List DiskCall → ℕ → List Pending
pending_in calls call = pending_of (unsettled calls call)

-- ---- choices

-- given bytes are for a written range, and as many as it is long
abbrev pub fits_one : Choice → Pending → Bool
fits_one Old pending = true
fits_one New pending = true
fits_one (Given bytes) (Written at len) = length bytes == len
fits_one (Given bytes) (PendingCut len) = false

-- one choice for each, in order
abbrev pub fits : List Choice → List Pending → Bool
fits [] [] = true
fits [] (it ∷ pending) = false
fits (choice ∷ choices) [] = false
fits (choice ∷ choices) (it ∷ pending) = fits_one choice it && fits choices pending

-- the file after what was chosen of a write, of a cut
abbrev pub write_chosen : Choice → ℕ → List ℕ → List ℕ → List ℕ
write_chosen Old at bytes file = file
write_chosen New at bytes file = written at bytes file
write_chosen (Given given) at bytes file = written at given file

abbrev pub cut_chosen : Choice → ℕ → List ℕ → List ℕ
cut_chosen Old len file = file
cut_chosen New len file = take len file
cut_chosen (Given given) len file = file

-- the file after what was chosen of a call; a call that leaves nothing pending has no choice
abbrev pub chosen_step : List Choice → DiskCall → List ℕ → List ℕ
chosen_step choices Look file = file
chosen_step [] (Write at bytes done) file = file
chosen_step (choice ∷ choices) (Write at bytes done) file = write_chosen choice at bytes file
chosen_step [] (Cut len done) file = file
chosen_step (choice ∷ choices) (Cut len done) file = cut_chosen choice len file
chosen_step choices Sync file = file

-- the choices for the calls behind it
abbrev pub choices_behind : List Choice → DiskCall → List Choice
choices_behind choices Look = choices
choices_behind choices (Write at bytes done) = drop 1 choices
choices_behind choices (Cut len done) = drop 1 choices
choices_behind choices Sync = choices

abbrev pub chosen : List Choice → List DiskCall → List ℕ → List ℕ
chosen choices [] file = file
chosen choices (call ∷ calls) file = chosen (choices_behind choices call) calls (chosen_step choices call file)

-- The image of a stop in a call: the file as the last sync before it kept it, with what was chosen of each write and cut since.
abbrev pub chosen_image : List Choice → FileRecord → ℕ → List ℕ
chosen_image choices file call =
    chosen choices (unsettled file.calls call) (content_after (take (settled (take call file.calls)) file.calls) file.first)
