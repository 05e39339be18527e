use Rattle.std.proofs.Common.{arith}
use Rattle.std.proofs.lemmas.Grind.{common_steps}
use Rattle.merge_jobs.proofs.LiveRoots.{few_live}
use Rattle.merge_jobs.proofs.counted.live_roots_in.Goals as goal

pub overflow_add-live : goal.overflow_add-live
overflow_add-live c = grind (arith, common_steps, few_live c.args.entries.now)
