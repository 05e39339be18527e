use Rattle.tree_json.specs.View.{view}
use Rattle.flattener.specs.Seen.{document_seen}
use Rattle.flattener.proofs.Unshown.{nothing_adds}
use Rattle.flattener.proofs.fields.add_shown.Goals as goal

pub returns-in-Ok-None : goal.returns-in-Ok-None
returns-in-Ok-None c =
    nothing_adds c.args.mapping.now c.args.generation c.args.field c.args.scope (view c.args.content.now) (document_seen c.args.into.now) (rw c.in-Ok-None.field-0-is at c.in-Ok-None.ensures)
