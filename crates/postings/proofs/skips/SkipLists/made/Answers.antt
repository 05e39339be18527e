use Rattle.std.proofs.Common.{arith}
use Rattle.postings.proofs.Lists.{length-lists_of}
use Rattle.postings.specs.Stands.{belong_table}
use Rattle.postings.proofs.skips.SkipLists.made.Goals as goal

pub overflow_sub-ordinal-end : goal.overflow_sub-ordinal-end
overflow_sub-ordinal-end c = rw c.as_slice-places.ensures (belong_table c.args.bytes.now c.args.places.now c.requires).places_are.some

pub put_list-requires-clause-table : goal.put_list-requires-clause-table
put_list-requires-clause-table c = rw c.as_slice-places.ensures (belong_table c.args.bytes.now c.args.places.now c.requires)

pub put_list-requires-clause-below : goal.put_list-requires-clause-below
put_list-requires-clause-below c = omega (arith, c.ordinals-test.true, length-lists_of c.args.bytes.now c.as_slice-places.result.now)
