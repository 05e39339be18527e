use Rattle.doc_values.proofs.Singles.{are_single, not_sixteen}
use Rattle.doc_values.proofs.single.single_bytes.Goals as goal

pub returns-then-own-places-clause-some : goal.returns-then-own-places-clause-some
returns-then-own-places-clause-some c =
    are_single c.args.places.now c.args.bytes.now c.all_entries-own.result.now c.requires c.all_entries-own.ensures.bytes c.if-own-places.true

pub returns-else-own-places-clause-none : goal.returns-else-own-places-clause-none
returns-else-own-places-clause-none c =
    not_sixteen c.args.places.now c.args.bytes.now c.all_entries-own.result.now c.requires c.all_entries-own.ensures.bytes c.if-own-places.false
