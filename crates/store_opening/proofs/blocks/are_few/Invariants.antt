use Rattle.std.proofs.Common.{◌≡◌, ◌+◌, ◌≤◌, drop}
use Rattle.flattener.specs.Fits.{live_count, most_live}
use Rattle.store_opening.proofs.blocks.are_few.Given as goal

abbrev pub invariant-entries : goal.invariant-entries
invariant-entries l = (l.objects + live_count (drop l.entry-index l.entries) ≡ live_count l.entries) × (l.objects ≤ most_live)
