use Rattle.std.proofs.Common.{ℕ, ◌<◌}
use Rattle.stored_sources.specs.Roots.{root_of}
use Rattle.segment_fits.specs.Tested.{IsRootKnown}
use Rattle.segment_fits.proofs.known.are_roots_known.Given as goal

abbrev pub invariant-roots : goal.invariant-roots
invariant-roots l = (root : ℕ) → root < l.root → IsRootKnown l.mapping (root_of l.segment.roots root)
