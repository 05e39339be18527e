use Rattle.std.proofs.Common.{arith}
use Rattle.postings.specs.Stands.{belong_table, stand_lists}
use Rattle.postings.proofs.table.PostingsTable.over.Goals as goal

pub invariant_of-result : goal.invariant_of-result
invariant_of-result c = rw c.as_slice.ensures (belong_table c.args.bytes.now c.args.places.now c.requires, λ at list none. absurd (omega (arith, none)))

pub returns : goal.returns
returns c = λ at rows end stand. rw c.as_slice.ensures (stand_lists c.args.bytes.now at rows c.args.places.now end stand)
