use Rattle.std.proofs.Common.{refl, codes}
use Rattle.tree_json.specs.Value.{null}
use Rattle.source_growth.proofs.Puts.{two_ascend}
use Rattle.source_growth.proofs.form.nested_with.Goals as goal

pub of-requires : goal.of-requires
of-requires c = rw (c.in_ok-push-2.ensures.items, c.in_ok-push.ensures.items, c.in_ok-members.ensures.items, c.in_ok-copied.ensures, c.in_ok-copied-2.ensures) (two_ascend (codes "properties", null) (codes "type", null) refl)
