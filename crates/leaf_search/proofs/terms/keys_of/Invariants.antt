use Rattle.std.proofs.Common.{◌≡◌, All, map, take}
use Rattle.leaf_search.specs.Keys.{FitsKey, key_of}
use Rattle.leaf_search.specs.Kept.{bytes_of}
use Rattle.leaf_search.proofs.terms.keys_of.Given as goal

abbrev pub invariant-values : goal.invariant-values
invariant-values l = (map bytes_of l.keys.items ≡ map key_of (take l.value-index l.values)) × All FitsKey (take l.value-index l.values)
