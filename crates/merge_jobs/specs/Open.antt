-- The merges that are open, each with the entries that its job was started on, and a row for each.
use Rattle.std.specs.Prelude.{ℕ, Bool, List, [], ◌∷◌, map}
use Rattle.layout.specs.Layout.{OpenMerge}
use Rattle.layout.specs.Merges.{has_merge_id, is_other}
use Rattle.segment.specs.Live.{EntryState}
use Rattle.merge_jobs.specs.declared.rows.MergeRow.{MergeRow}

-- a merge that is open, and the entries as they were when it was started
pub record OpenState : Type 0 where
  pub merge : OpenMerge
  pub parts : List EntryState

abbrev pub merge_in : OpenState → OpenMerge
merge_in job = job.merge

abbrev pub parts_in : OpenState → List EntryState
parts_in job = job.parts

abbrev pub merges_in : List OpenState → List OpenMerge
merges_in jobs = map merge_in jobs

-- what is done to a merge is done to it beside its job
abbrev pub with_merge : (OpenMerge → OpenMerge) → OpenState → OpenState
with_merge change job = record job { merge = change job.merge }

abbrev pub is_named : ℕ → OpenState → Bool
is_named id job = has_merge_id id job.merge

abbrev pub is_other_than : ℕ → OpenState → Bool
is_other_than id job = is_other id job.merge

-- ---- rows

abbrev pub merge_shown : MergeRow → OpenMerge
merge_shown row = record { id = row.merge; from = row.from; count = row.count; left = row.left }

abbrev pub merges_shown : List MergeRow → List OpenMerge
merges_shown rows = map merge_shown rows

-- all of a merge but its place
abbrev pub placeless : OpenMerge → OpenMerge
placeless merge = record merge { from = 0 }

-- ---- serves proofs alone

-- merges at the places of these rows, as far as there are rows
abbrev pub at_rows : List OpenState → List MergeRow → List OpenState
at_rows [] rows = []
at_rows (job ∷ jobs) [] = job ∷ jobs
at_rows (job ∷ jobs) (row ∷ rows) = record job { merge = record job.merge { from = row.from } } ∷ at_rows jobs rows
