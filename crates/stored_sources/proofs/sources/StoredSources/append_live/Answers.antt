use Rattle.std.proofs.Common.{arith, ap, length}
use Rattle.stored_sources.proofs.Rows.{length-roots_in}
use Rattle.stored_sources.proofs.sources.StoredSources.append_live.Goals as goal

pub put_live-done-requires-clause-within : goal.put_live-done-requires-clause-within
put_live-done-requires-clause-within c = λ k d below.
    omega (arith, c.requires k d below, ap length c.self.view_is, length-roots_in c.self.inside.places.now c.self.inside.bytes.now)
