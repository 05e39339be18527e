-- Blocks that a segment can be built of.
use Rattle.std.specs.Prelude.{◌<◌, ◌≤◌, ◌^◌, List, length}
use Rattle.std.specs.List.{All, AllByRecursion}
use Rattle.flattener.specs.Block.{BlockState}
use Rattle.flattener.specs.Fits.{IsRootOf, most_live}
use Rattle.flattener.specs.Small.{IsSmall}
use Rattle.mapping.specs.Mapping.{Mapping, generation_of}
use Rattle.segment_builder.specs.Entries.{flats_in}
use Rattle.segment_builder.specs.Form.{IsOrdered, IsFit}

-- fields, scopes, bodies and relations are numbered by u32
pub record IsNumbered (m : Mapping) : Type 0 where
  pub fields : length m.fields < 2 ^ 32
  pub scopes : length m.scopes < 2 ^ 32
  pub bodies : generation_of m < 2 ^ 32
  pub relations : length m.relations < 2 ^ 32

-- one block or more, of so few objects, each a root with its documents, which can be written
pub record AreGiven (m : Mapping) (blocks : List BlockState) : Type 0 where
  pub some : 0 < length blocks
  pub few : length (flats_in blocks) ≤ most_live
  pub roots : AllByRecursion (λ (block : BlockState). IsRootOf m block.root block.flats) blocks
  pub ordered : All IsOrdered (flats_in blocks)
  pub small : All IsSmall (flats_in blocks)
  pub fit : All IsFit (flats_in blocks)
  pub numbered : IsNumbered m
