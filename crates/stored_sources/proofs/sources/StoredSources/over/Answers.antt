use Rattle.stored_sources.proofs.Rows.{belong_roots, belong_kept}
use Rattle.stored_sources.proofs.sources.StoredSources.over.Goals as goal

pub invariant_of-result : goal.invariant_of-result
invariant_of-result c = rw c.as_slice.ensures (belong_kept c.args.bytes.now c.args.places.now c.requires.0 c.requires.1)

pub returns : goal.returns
returns c = λ roots belong. rw c.as_slice.ensures (belong_roots c.args.bytes.now c.args.places.now roots belong)
