use Rattle.std.proofs.Common.{arith, ap, length}
use Rattle.stored_sources.proofs.Rows.{length-roots_in}
use Rattle.stored_sources.proofs.sources.StoredSources.lent.Goals as goal

pub lent_at-requires-clause-below : goal.lent_at-requires-clause-below
lent_at-requires-clause-below c =
    omega (arith, c.requires, ap length c.self.view_is, length-roots_in c.self.inside.places.now c.self.inside.bytes.now)
