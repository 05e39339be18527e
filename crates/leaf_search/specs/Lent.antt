-- Sets of documents that may be lent.
use Rattle.std.specs.Prelude.{Bool, List}
use Rattle.leaf_search.specs.declared.document_set.DocumentSet.{DocumentSet}
use Rattle.leaf_search.specs.declared.document_set.DocumentSet.TheVariants.{Made, Lent}

abbrev pub set_of : DocumentSet → List Bool
set_of (Made set) = set
set_of (Lent set) = set.now
