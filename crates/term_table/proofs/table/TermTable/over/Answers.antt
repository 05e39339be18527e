use Rattle.term_table.specs.Stands.{belong_table, stand_terms}
use Rattle.term_table.proofs.table.TermTable.over.Goals as goal

pub invariant_of-result : goal.invariant_of-result
invariant_of-result c = rw c.as_slice.ensures (belong_table c.args.bytes.now c.args.places.now c.requires)

pub returns : goal.returns
returns c = λ at rows end stand. rw c.as_slice.ensures (stand_terms c.args.bytes.now at rows c.args.places.now end stand)
