use Rattle.index_core.proofs.Entering.{IsReading}
use Rattle.index_core.proofs.opening.read_entries.Given as goal

abbrev pub invariant-entries : goal.invariant-entries
invariant-entries l = IsReading l.entries l.entry-index l.numbers l.objects l.made
