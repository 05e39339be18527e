use Rattle.std.proofs.Common.{sym, ◌∙◌}
use Rattle.tree_json.specs.View.{view}
use Rattle.flattener.specs.Seen.{document_seen}
use Rattle.flattener.proofs.Unshown.{unshown_adds}
use Rattle.flattener.proofs.fields.add_if_shown.Goals as goal

pub returns-then-not-is_shown : goal.returns-then-not-is_shown
returns-then-not-is_shown c =
    unshown_adds c.args.mapping.now c.args.generation c.args.field c.args.scope (view c.args.content.now) (document_seen c.args.into.now) (sym c.is_shown.ensures ∙ c.if-not-is_shown.true)
