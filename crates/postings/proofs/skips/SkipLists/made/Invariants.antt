use Rattle.postings.specs.Skips.{AreSkips}
use Rattle.postings.proofs.skips.SkipLists.made.Given as goal

abbrev pub invariant-ordinals : goal.invariant-ordinals
invariant-ordinals l = AreSkips l.bytes l.fn.places l.lists.items
