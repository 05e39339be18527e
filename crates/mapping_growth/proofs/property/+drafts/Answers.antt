use Rattle.std.proofs.Common.{arith, ◌∙◌}
use Rattle.mapping_growth.proofs.Drafts.{drafts_step}
use Rattle.mapping_growth.proofs.property.+drafts.Goals as goal

pub draft_named-members-preserved : goal.draft_named-members-preserved
draft_named-members-preserved t c = (
  c.in_ok-draft_inside.ensures.ascending,
  drafts_step c.args.generation c.args.path.now c.args.members.now c.members.name-index c.members-item.result _ _ (omega arith) c.members-item.is (rw c.as_slice.ensures.bytes at c.in_ok-draft_inside.ensures.put)
      ∙ c.members.invariant.1,
)
