use Rattle.std.proofs.Common.{◌≡◌, map, take}
use Rattle.leaf_search.specs.Kept.{bytes_of}
use Rattle.leaf_search.proofs.Once.{lent_words}
use Rattle.leaf_search.proofs.terms.distinct_keys.Given as goal

abbrev pub invariant-keys : goal.invariant-keys
invariant-keys l = lent_words l.lent.items ≡ map bytes_of (take l.key-index l.keys)
