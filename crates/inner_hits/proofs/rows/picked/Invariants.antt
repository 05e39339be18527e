use Rattle.std.proofs.Common.{◌≡◌, map, take, get_or}
use Rattle.query_ast.specs.declared.sort.KeyRow.{KeyRow}
use Rattle.nested_sort.specs.Listed.{no_hit}
use Rattle.inner_hits.proofs.rows.picked.Given as goal

abbrev pub invariant-rows : goal.invariant-rows
invariant-rows l = l.picked.items ≡ map (λ (row : KeyRow). get_or l.hits row.place no_hit) (take l.at l.page.rows)
