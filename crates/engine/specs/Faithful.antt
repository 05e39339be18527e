-- The states of the machine that an engine may stand for.
use Rattle.std.specs.Prelude.{◌≡◌}
use Rattle.index_trees.specs.Faithful.{AreFaithful, PointsStandFor}
use Rattle.machine.specs.State.{State}
use Rattle.store_compact.specs.Compacting.{kept_of}
use Rattle.engine.specs.Kept.{EngineState}

-- what an engine keeps is faithful to a state: its mapping and its index, its points in time, and its store
abbrev pub IsFaithful : EngineState → State → Type 0
IsFaithful kept state =
    AreFaithful kept.mapping kept.index state × PointsStandFor kept.mapping kept.points state.points × (state.kept ≡ kept_of kept.stored)
