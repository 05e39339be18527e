-- Roots that a reader was lent.
use Rattle.stored_sources.specs.declared.root.Root.{Root}
use Rattle.stored_sources.specs.declared.walk.LentRoot.{LentRoot}
use Rattle.stored_sources.specs.Roots.{lent_join}

abbrev pub lent_root : LentRoot → Root
lent_root root = record { id = root.id.now; number = root.number; generation = root.generation; source = root.source.now; join = lent_join root.join }
