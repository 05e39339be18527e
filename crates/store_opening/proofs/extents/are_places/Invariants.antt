use Rattle.std.proofs.Common.{take}
use Rattle.std.specs.List.{All}
use Rattle.store_opening.specs.Read.{IsPlace}
use Rattle.store_opening.proofs.extents.are_places.Given as goal

abbrev pub invariant-extents : goal.invariant-extents
invariant-extents l = All (IsPlace l.limit) (take l.extent-index l.extents)
