use Rattle.std.proofs.Common.{◌≡◌, ◌∷◌, ◌++◌, map, drop}
use Rattle.store_opening.specs.Entries.{extent_in}
use Rattle.store_opening.proofs.commit.extents_of.Given as goal

abbrev pub invariant-rows : goal.invariant-rows
invariant-rows l = l.named.items ++ map extent_in (drop l.row-index l.rows) ≡ record { at = l.at; len = l.len } ∷ map extent_in l.rows
