use Rattle.std.proofs.Common.{◌≡◌, map, take}
use Rattle.mapping_body.proofs.order.numbers_of.Given as goal

abbrev pub invariant-entries : goal.invariant-entries
invariant-entries l = l.numbers.items ≡ map (λ e. e.number) (take l.entry-index l.entries)
