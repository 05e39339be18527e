use Rattle.std.proofs.Common.{◌-◌, Option, length}
use Rattle.part_text.specs.Placed.{IsPlacing}
use Rattle.stored_sources.specs.Text.{root_text}
use Rattle.stored_sources.specs.Reading.{root_at, roots_at}
use Rattle.stored_sources.proofs.placing.placed_roots.Given as goal

abbrev pub invariant-roots : goal.invariant-roots
invariant-roots l =
    (before : Option (Unit {0})) × IsPlacing (λ _. tt {0}) root_text (λ _. root_at) (roots_at l.count l.bytes) l.count l.bytes (l.end - length l.bytes) before l.counter l.rest l.places
