use Rattle.std.proofs.Common.{None, Option}
use Rattle.part_text.specs.Reading.{many_at, string_at}
use Rattle.store_text.proofs.Items.{AreItems}
use Rattle.store_text.proofs.walk.listed_at.Given as goal

abbrev pub invariant-bodies : goal.invariant-bodies
invariant-bodies l = (before : Option (Unit {0})) × AreItems (λ _. tt {0}) (λ _. string_at) (many_at (λ _. tt {0}) (λ _. string_at) None l.count l.initial.rest) l.count before l.counter l.rest l.bodies.items
