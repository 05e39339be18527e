-- A relation is refused by whether it leads to roots.
use Rattle.std.proofs.Common.{◌≡◌, ℕ, Bool, Option, Some, None, refl}
use Rattle.search_walk.specs.Fault.{relation_fault}
use Rattle.search_walk.specs.Names.{root_if}

pub rooted : (ignored : Bool) (relation : Option ℕ) → relation_fault ignored (root_if relation) ≡ relation_fault ignored relation
rooted ignored None = refl
rooted ignored (Some n) = refl
