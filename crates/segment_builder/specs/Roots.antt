-- Roots that can be stored.
use Rattle.std.specs.Prelude.{◌<◌, ◌^◌, List, length}
use Rattle.std.specs.List.{AllByRecursion}
use Rattle.segment.specs.Flat.{FlatRoot}
use Rattle.stored_sources.specs.Stands.{IsJoin}

pub record FitsRoot (root : FlatRoot) : Type 0 where
  pub id : length root.id < 2 ^ 32
  pub number : root.number < 2 ^ 64
  pub generation : root.generation < 2 ^ 32
  pub source : length root.source < 2 ^ 32
  pub join : IsJoin root.join

pub record FitRoots (roots : List FlatRoot) : Type 0 where
  pub fewer : length roots < 2 ^ 32
  pub each : AllByRecursion FitsRoot roots
