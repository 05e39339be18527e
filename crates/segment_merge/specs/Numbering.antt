-- The parts that a merge puts together: entries, each with the number of live documents in entries before it.
use Rattle.std.specs.Prelude.{ℕ, ◌+◌, Bool, false, cond, List, [], ◌∷◌, slice_index_or, sum_by, Option, Some, None}
use Rattle.segment.specs.Live.{EntryState}
use Rattle.segment_merge.specs.Merged.{live_count, renumbered}

pub record PartState : Type 0 where
  pub base : ℕ
  pub entry : EntryState

-- entries as parts, where the first has so many live documents before it
abbrev pub parts_from : ℕ → List EntryState → List PartState
parts_from base [] = []
parts_from base (entry ∷ entries) = record { base = base; entry = entry } ∷ parts_from (base + live_count entry) entries

-- the new number of a document, where it is live
abbrev pub new_number : PartState → ℕ → Option ℕ
new_number part doc = cond (slice_index_or part.entry.live.docs doc false) (Some (renumbered part.base part.entry.live.docs doc)) None

-- for each document the number that the next live one gets
abbrev pub numbers_from : ℕ → List Bool → List ℕ
numbers_from next [] = []
numbers_from next (flag ∷ flags) = next ∷ numbers_from (cond flag (next + 1) next) flags

-- how many documents of parts are live
abbrev pub live_in : List PartState → ℕ
live_in parts = sum_by (λ (part : PartState). live_count part.entry) parts
