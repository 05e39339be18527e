-- What an engine keeps.
use Rattle.std.specs.Prelude.{◌≡◌, ◌≤◌, ◌⊎◌, ℕ, Option, Some, None, IfSome}
use Rattle.std.specs.List.{All}
use Rattle.commit_store.specs.Known.{StoreState}
use Rattle.commit_store.specs.Saying.{HasSource}
use Rattle.flattener.specs.Fits.{ViewFits}
use Rattle.index_core.specs.Kept.{IndexState, IndexFits, layout_kept}
use Rattle.join_ordinals.specs.Ordinals.{AreOrdinals, Ordinals}
use Rattle.layout.specs.Layout.{empty_layout, sealed}
use Rattle.layout_ids.specs.Items.{AllItems}
use Rattle.machine.specs.Limit.{AreLimits}
use Rattle.machine.specs.declared.limits.Limits.{Limits}
use Rattle.mapping.specs.Mapping.{Mapping}
use Rattle.point_in_time.specs.Points.{KeptPoint, KeptPoints, entries_under, no_points}
use Rattle.store_commands.specs.Commands.{AreKnown}
use Rattle.engine.specs.declared.ordinals.KeptOrdinals.{KeptOrdinals}

-- the limits, the mapping, where there is one, the index, the points in time, the store, and how many requests it was handed
pub record EngineState : Type 0 where
  pub limits : Limits
  pub mapping : Option Mapping
  pub index : IndexState
  pub points : KeptPoints
  pub stored : StoreState
  pub calls : ℕ

-- the index is one that the mapping can have made, and each source in it, of a dead root too, is read back
pub record IsIndexOf (m : Mapping) (index : IndexState) : Type 0 where
  pub fits : IndexFits m index
  pub values : AllItems HasSource (layout_kept index)

-- without a mapping nothing is kept
abbrev pub IsUnder : Option Mapping → IndexState → Type 0
IsUnder None index = layout_kept index ≡ empty_layout
IsUnder (Some m) index = IsIndexOf m index

-- the view of each point in time is one that the mapping can have made
abbrev pub PointsFit : Mapping → KeptPoints → Type 0
PointsFit m points = All (λ (point : KeptPoint). ViewFits m point.entries) points.points

-- and without one none is open
abbrev pub ArePointsUnder : Option Mapping → KeptPoints → Type 0
ArePointsUnder None points = points ≡ no_points
ArePointsUnder (Some m) points = PointsFit m points

-- the ordinals of a point in time, beside its id, are those of its view
abbrev pub IfPoint : KeptPoints → Option (ℕ × Ordinals) → Type 0
IfPoint points ordinals = IfSome ordinals (λ own. IfSome (entries_under own.0 points.points) (λ entries. AreOrdinals entries own.1))

-- ordinals that serve one search and those behind it are those of the view and of a point in time: what may change these lets
-- them go
pub record AreKeptFor (index : IndexState) (points : KeptPoints) (ordinals : KeptOrdinals) : Type 0 where
  pub live : IfSome ordinals.live (AreOrdinals index.entries)
  pub point : IfPoint points ordinals.point

-- what holds of every engine, and of the ordinals that it keeps
pub record IsEngine (kept : EngineState) (own : KeptOrdinals) : Type 0 where
  pub limits : AreLimits kept.limits
  pub objects : kept.index.objects ≡ kept.limits.objects
  pub under : IsUnder kept.mapping kept.index
  pub points : ArePointsUnder kept.mapping kept.points
  pub opened : kept.points.opened ≤ kept.calls
  pub limit : kept.stored.limit ≡ kept.limits.store_bytes
  pub known : AreKnown (layout_kept kept.index) kept.stored.known
  pub ordinals : AreKeptFor kept.index kept.points own

-- what is kept is as it was, or the buffer is sealed
pub record StaysOrSeals (kept kept' : EngineState) : Type 0 where
  pub same : kept'.mapping ≡ kept.mapping
  pub points : kept'.points ≡ kept.points
  pub next : kept'.index.next ≡ kept.index.next
  pub layout : (layout_kept kept'.index ≡ layout_kept kept.index) ⊎ (layout_kept kept'.index ≡ sealed (layout_kept kept.index))
