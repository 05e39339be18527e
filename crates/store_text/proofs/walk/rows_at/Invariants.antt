use Rattle.std.proofs.Common.{None, Option}
use Rattle.part_text.specs.Reading.{many_at}
use Rattle.store_text.specs.Reading.{row_at}
use Rattle.store_text.proofs.Items.{AreItems}
use Rattle.store_text.proofs.walk.rows_at.Given as goal

abbrev pub invariant-rows : goal.invariant-rows
invariant-rows l = (before : Option (Unit {0})) × AreItems (λ _. tt {0}) (λ _. row_at) (many_at (λ _. tt {0}) (λ _. row_at) None l.count l.initial.rest) l.count before l.counter l.rest l.rows.items
