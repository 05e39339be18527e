use Rattle.std.proofs.Common.{None}
use Rattle.part_text.specs.Reading.{many_at}
use Rattle.store_text.specs.Reading.{index_at}
use Rattle.store_text.proofs.Items.{AreItems}
use Rattle.store_text.proofs.walk.dead_at.Given as goal

abbrev pub invariant-indexes : goal.invariant-indexes
invariant-indexes l = AreItems (λ index. index) index_at (many_at (λ index. index) index_at None l.count l.initial.rest) l.count l.before l.counter l.rest l.indexes.items
