-- What a segment stores of its roots, in the order of their documents.
use Rattle.std.specs.Prelude.{ℕ, List, [], slice_index_or}
use Rattle.stored_sources.specs.declared.root.Join.{Join}
use Rattle.stored_sources.specs.declared.root.Join.TheVariants as stored
use Rattle.stored_sources.specs.declared.root.JoinValue.{JoinValue}
use Rattle.stored_sources.specs.declared.root.JoinValue.TheVariants as lent
use Rattle.stored_sources.specs.declared.root.Root.{Root}

-- where there is no root
abbrev pub no_root : Root
no_root = record { id = []; number = 0; generation = 0; source = []; join = stored.Unjoined }

-- the root with this number
abbrev pub root_of : List Root → ℕ → Root
root_of roots root = slice_index_or roots root no_root

-- the bytes of the source of a root
abbrev pub source_of : List Root → ℕ → List ℕ
source_of roots root = (root_of roots root).source

-- the stored join value that a reader was lent
abbrev pub lent_join : JoinValue → Join
lent_join lent.Unjoined = stored.Unjoined
lent_join (lent.Named relation) = stored.Named relation
lent_join (lent.Child relation parent) = stored.Child relation parent.now
