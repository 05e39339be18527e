-- How the bytes of a value are held.
use Rattle.std.specs.Prelude.{ℕ, List}
use Rattle.leaf_search.specs.declared.key.Key.{Key}
use Rattle.leaf_search.specs.declared.key.Key.TheVariants.{Number, Written}

abbrev pub bytes_of : Key → List ℕ
bytes_of (Number key) = key
bytes_of (Written bytes) = bytes.now
