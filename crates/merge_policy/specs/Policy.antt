-- Serves proofs alone: settling from the counts of segments. From the last to the first each stands before what is settled
-- behind it, and is merged with its neighbour where they are uneven: what stands behind the two stays even then.
use Rattle.std.specs.Prelude.{ℕ, ◌+◌, ◌*◌, ◌==◌, nat_lt, Bool, false, not, ◌&&◌, ◌||◌, if◌then◌else◌, List, [], ◌∷◌, map, filter, reverse, sum_by, Some, None}
use Rattle.merge_policy.specs.declared.counts.SegmentCount.{SegmentCount}
use Rattle.merge_policy.specs.declared.neighbours.Behind.{Behind}
use Rattle.merge_policy.specs.declared.neighbours.Neighbour.{Neighbour}
use Rattle.merge_policy.specs.declared.runs.Run.{Run}

-- neighbours in order, and how many segments were made
pub record Settling : Type 0 where
  pub neighbours : List Neighbour
  pub made : ℕ

abbrev pub run_in : Neighbour → Run
run_in neighbour = neighbour.run

abbrev pub live_of : Neighbour → ℕ
live_of neighbour = neighbour.count.live

abbrev pub live_in_all : List Neighbour → ℕ
live_in_all neighbours = sum_by live_of neighbours

-- those that are settled, in order
abbrev pub settling_in : Behind → Settling
settling_in behind = record { neighbours = reverse behind.neighbours.items; made = behind.made }

-- a segment as it stands
abbrev pub standing : ℕ → SegmentCount → Neighbour
standing index count = record { run = record { first = index; last = index; made = None }; count = count }

abbrev pub standing_from : ℕ → List SegmentCount → List Neighbour
standing_from index [] = []
standing_from index (count ∷ counts) = standing index count ∷ standing_from (index + 1) counts

-- ---- what has no live item goes

abbrev pub stays : Neighbour → Bool
stays a = a.count.held || not (a.count.live == 0)

-- ---- uneven neighbours are merged

abbrev pub is_uneven : ℕ → Neighbour → Neighbour → Bool
is_uneven factor a b = not a.count.held && (not b.count.held && nat_lt a.count.live (factor * b.count.live))

abbrev pub joined : ℕ → Neighbour → Neighbour → Neighbour
joined made a b = record {
  run = record { first = a.run.first; last = b.run.last; made = Some made };
  count = record { live = a.count.live + b.count.live; dead = 0; held = false };
}

-- one stands before those that are settled
abbrev pub put_before : ℕ → Neighbour → List Neighbour → ℕ → Settling
put_before factor a [] made = record { neighbours = a ∷ []; made = made }
put_before factor a (b ∷ later) made =
    if is_uneven factor a b then record { neighbours = joined made a b ∷ later; made = made + 1 } else record { neighbours = a ∷ (b ∷ later); made = made }

abbrev pub all_even : ℕ → List Neighbour → Settling
all_even factor [] = record { neighbours = []; made = 0 }
all_even factor (a ∷ later) = put_before factor a (all_even factor later).neighbours (all_even factor later).made

-- ---- what is dead by more than a half is made anew

abbrev pub is_too_dead : Neighbour → Bool
is_too_dead a = not a.count.held && nat_lt a.count.live a.count.dead

abbrev pub made_anew : ℕ → Neighbour → Neighbour
made_anew made a = record a { run = record a.run { made = Some made }; count = record a.count { dead = 0 } }

abbrev pub put_anew : Neighbour → List Neighbour → ℕ → Settling
put_anew a later made =
    if is_too_dead a then record { neighbours = made_anew made a ∷ later; made = made + 1 } else record { neighbours = a ∷ later; made = made }

abbrev pub all_anew : ℕ → List Neighbour → Settling
all_anew made [] = record { neighbours = []; made = made }
all_anew made (a ∷ later) = put_anew a (all_anew made later).neighbours (all_anew made later).made

-- ---- settling

abbrev pub evened_from : ℕ → ℕ → List SegmentCount → Settling
evened_from factor index counts = all_even factor (filter stays (standing_from index counts))

abbrev pub settling_of : ℕ → List SegmentCount → Settling
settling_of factor counts = all_anew (evened_from factor 0 counts).made (evened_from factor 0 counts).neighbours

abbrev pub settled_runs : ℕ → List SegmentCount → List Run
settled_runs factor counts = map run_in (settling_of factor counts).neighbours

abbrev pub settled_made : ℕ → List SegmentCount → ℕ
settled_made factor counts = (settling_of factor counts).made
