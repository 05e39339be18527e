use Rattle.std.proofs.Common.{subst, sym}
use Rattle.nested_sort.specs.Documents.{AllLong, all_keys}
use Rattle.nested_sort.proofs.Entries.{behind_long, directions_more, keys_more, sorts_more}
use Rattle.nested_sort.proofs.clauses.clause_columns.Goals as goal

pub sorts-preserved : goal.sorts-preserved
sorts-preserved c = record {
  directions = directions_more c.args.sorts.now c.sorts.sort-index c.sort-item.result c.sorts-test.true c.sort-item.is c.sorts.columns.items c.push.new.self.items c.in_ok-column.field-0 c.in_ok-push.ensures.items c.in_ok-column.ensures.direction c.sorts.invariant.directions;
  keys = keys_more c.args.sorts.now c.sorts.sort-index c.sort-item.result c.sorts-test.true c.sort-item.is c.args.mapping.now c.args.entries.now c.args.hits.now c.args.scope c.sorts.rest.now c.behind_key-rest.result.now (all_keys c.args.mapping.now c.args.entries.now c.args.hits.now c.args.scope c.args.sorts.now c.args.filters.now) c.sorts.columns.items c.push.new.self.items c.in_ok-column.field-0 c.in_ok-push.ensures.items c.in_ok-column.ensures.keys c.behind_key-rest.ensures c.sorts.invariant.keys;
  long = subst (AllLong c.args.entries.now) (sym c.behind_key-rest.ensures) (behind_long c.args.entries.now c.sort-item.result.key c.sorts.rest.now c.sorts.invariant.long);
  are = sorts_more c.args.sorts.now c.sorts.sort-index c.sort-item.result c.sorts-test.true c.sort-item.is c.args.mapping.now c.args.scope c.sorts.invariant.are;
}
