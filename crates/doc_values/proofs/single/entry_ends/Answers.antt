use Rattle.doc_values.proofs.Singles.{last_within, spread}
use Rattle.doc_values.proofs.single.entry_ends.Goals as goal

pub returns-clause-apart : goal.returns-clause-apart
returns-clause-apart c = spread c.args.places.now c.args.bytes.now c.requires

pub returns-clause-within : goal.returns-clause-within
returns-clause-within c = last_within c.args.places.now c.args.bytes.now c.requires
