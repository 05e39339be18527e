use Rattle.std.proofs.Common.{sym, ap, ◌∙◌}
use Rattle.stored_sources.specs.Kept.{root_in}
use Rattle.stored_sources.proofs.Rows.{root_of-in}
use Rattle.stored_sources.proofs.kept.lent_at.Goals as goal

pub returns-clause-root : goal.returns-clause-root
returns-clause-root c =
    c.lent_from.ensures.root ∙ ap root_in c.row.ensures ∙ sym (root_of-in c.args.places.now c.args.bytes.now c.args.at c.requires.below)
