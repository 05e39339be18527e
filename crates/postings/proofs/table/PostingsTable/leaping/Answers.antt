use Rattle.postings.specs.Stands.{belong_table, stand_lists}
use Rattle.postings.proofs.table.PostingsTable.leaping.Goals as goal

pub invariant_of-result : goal.invariant_of-result
invariant_of-result c = rw (c.as_slice.ensures, c.as_slice-2.ensures) (belong_table c.args.bytes.now c.args.places.now c.requires.places, c.requires.skips)

pub returns : goal.returns
returns c = λ at rows end stand. rw c.as_slice.ensures (stand_lists c.args.bytes.now at rows c.args.places.now end stand)
