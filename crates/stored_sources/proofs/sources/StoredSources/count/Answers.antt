use Rattle.std.proofs.Common.{sym, ap, ◌∙◌, length}
use Rattle.stored_sources.proofs.Rows.{length-roots_in}
use Rattle.stored_sources.proofs.sources.StoredSources.count.Goals as goal

pub returns : goal.returns
returns c = sym (length-roots_in c.self.inside.places.now c.self.inside.bytes.now) ∙ ap length c.self.view_is
