use Rattle.std.proofs.Common.{arith, ap, length}
use Rattle.stored_sources.proofs.Rows.{length-roots_in}
use Rattle.stored_sources.proofs.sources.StoredSources.front.Goals as goal

pub front_of-requires-clause-below : goal.front_of-requires-clause-below
front_of-requires-clause-below c =
    omega (arith, c.requires, ap length c.self.view_is, length-roots_in c.self.inside.places.now c.self.inside.bytes.now)
