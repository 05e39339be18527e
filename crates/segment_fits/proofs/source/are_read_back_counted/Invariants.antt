use Rattle.std.proofs.Common.{ℕ, ◌<◌}
use Rattle.stored_sources.specs.Roots.{source_of}
use Rattle.segment_fits.specs.Sources.{IsReadBack}
use Rattle.segment_fits.proofs.source.are_read_back_counted.Given as goal

abbrev pub invariant-roots : goal.invariant-roots
invariant-roots g l = (root : ℕ) → root < l.root → IsReadBack (source_of l.sources root)
