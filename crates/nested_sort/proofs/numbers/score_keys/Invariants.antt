use Rattle.std.proofs.Common.{◌≡◌, ◌++◌, drop, map}
use Rattle.hit_order.specs.Table.{number_or_null}
use Rattle.nested_sort.specs.Documents.{score_key}
use Rattle.nested_sort.proofs.numbers.score_keys.Given as goal

abbrev pub invariant-hits : goal.invariant-hits
invariant-hits l = map number_or_null l.keys ++ map score_key (drop l.hit-index l.hits) ≡ map score_key l.hits
