use Rattle.std.proofs.Common.{◌≤◌, length, ap, arith}
use Rattle.commit_store.proofs.Sizes.{text_some}
use Rattle.commit_store.proofs.plan.planned_as_new.Goals as goal

pub taken_in-requires : goal.taken_in-requires
taken_in-requires c = omega (arith, ap length c.bytes.ensures.text, text_some c.segment.result.now)
