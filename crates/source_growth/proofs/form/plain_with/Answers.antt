use Rattle.tree_json.specs.Value.{null}
use Rattle.source_growth.proofs.Puts.{one_ascends}
use Rattle.source_growth.proofs.form.plain_with.Goals as goal

pub of-requires : goal.of-requires
of-requires c = rw (c.in_ok-push.ensures.items, c.in_ok-members.ensures.items) (one_ascends (c.in_ok-copied.field-0, null))
