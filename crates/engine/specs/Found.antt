-- The engine that opens with what a store holds.
use Rattle.std.specs.Prelude.{◌≡◌, ℕ, List, [], Option, Some, None}
use Rattle.commit_store.specs.Known.{StoreState}
use Rattle.commit_store.specs.Preparing.{IsCommittable}
use Rattle.index_core.specs.Kept.{made_by}
use Rattle.machine.specs.declared.limits.Limits.{Limits}
use Rattle.mapping.specs.Mapping.{Mapping}
use Rattle.point_in_time.specs.Points.{no_points}
use Rattle.segment.specs.Live.{EntryState}
use Rattle.engine.specs.Kept.{EngineState}

-- without a mapping there is nothing else; with one the view may be committed again
abbrev pub IsFittingUnder : Option Mapping → StoreState → ℕ → List EntryState → Type 0
IsFittingUnder None store next view = (store.known ≡ []) × ((next ≡ 0) × (view ≡ []))
IsFittingUnder (Some m) store next view = IsCommittable store m next view

-- no point in time is open, and nothing was asked for yet
abbrev pub opened_engine : Limits → StoreState → Option Mapping → ℕ → List EntryState → EngineState
opened_engine limits store mapping next view = record {
  limits = limits;
  mapping = mapping;
  index = record { entries = view; buffer = []; made = made_by view; next = next; objects = limits.objects; merges = []; started = 0; factor = None };
  points = no_points;
  stored = store;
  calls = 0;
}
