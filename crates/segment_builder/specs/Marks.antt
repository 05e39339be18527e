-- Sets of documents that are made one document after the other.
use Rattle.std.specs.Prelude.{ℕ, ◌-◌, Bool, false, List, ◌++◌, length, replicate, take}
use Rattle.block_bits.specs.Blocks.{documents_of}

-- the documents of a scope that come before one, of as many as there are
abbrev pub marked_to : List ℕ → ℕ → ℕ → List Bool
marked_to scopes doc scope = documents_of (take doc scopes) scope ++ replicate (length scopes - doc) false
