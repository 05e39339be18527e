use Rattle.store_opening.proofs.Owned.{Through}
use Rattle.store_opening.proofs.blocks.have_own_ids.Given as goal

abbrev pub invariant-entries : goal.invariant-entries
invariant-entries l = Through l.entries l.entry-index l.ids
